use Rattle.std.proofs.Common.{◌∙◌, sym}
use Rattle.std.specs.Cmp.Lexicographic.{same_text}
use Rattle.url_maps.proofs.named_kids.is_same.Goals as goal

pub returns : goal.returns
returns c = λ same. same_text c.args.text.now c.args.other.now (sym (sym c.eq.ensures ∙ same))
