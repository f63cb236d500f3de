use Rattle.std.proofs.Common.{◌∙◌, ap, refl, string_bytes, []}
use Rattle.sp_base.specs.PathTexts.{segs_in}
use Rattle.sp_base.proofs.PathText.{none_in, spells}
use Rattle.sp_base.proofs.path.Path.root.Goals as goal

pub invariant_of-result : goal.invariant_of-result
invariant_of-result c = spells (string_bytes c.new.result) [] c.new.ensures.bytes refl

pub returns : goal.returns
returns c = ap segs_in c.new.ensures.bytes ∙ none_in
