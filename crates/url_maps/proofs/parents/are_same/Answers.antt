use Rattle.std.proofs.Common.{◌∙◌, sym}
use Rattle.sp_base.proofs.TextLemmas.{segments_are}
use Rattle.url_maps.proofs.parents.are_same.Goals as goal

pub returns : goal.returns
returns c = λ same. segments_are c.args.texts.now c.args.others.now (sym c.eq.ensures ∙ same)
