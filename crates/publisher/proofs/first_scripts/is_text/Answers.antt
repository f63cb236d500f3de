use Rattle.std.proofs.Common.{◌∙◌, sym}
use Rattle.std.specs.Cmp.Lexicographic.{bytes_decides}
use Rattle.publisher.proofs.first_scripts.is_text.Goals as goal

pub returns : goal.returns
returns c = λ same. sym c.text.ensures ∙ (bytes_decides c.text.result.now c.args.text.now).0 (sym c.eq.ensures ∙ same)
