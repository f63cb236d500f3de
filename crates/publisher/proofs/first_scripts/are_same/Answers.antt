use Rattle.std.proofs.Common.{◌∙◌, sym}
use Rattle.sp_base.proofs.TextLemmas.{segments_are}
use Rattle.publisher.proofs.first_scripts.are_same.Goals as goal

pub returns : goal.returns
returns c = λ same. segments_are c.args.own.now c.args.texts.now (sym c.eq.ensures ∙ same)
