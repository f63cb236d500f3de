use Rattle.std.proofs.Common.{◌∙◌, ◌==◌, rules, tests}
use Rattle.std.proofs.lemmas.Iterator.Splits.{YieldsList-from_slice_split}
use Rattle.std.proofs.lemmas.Iterator.Search.{any_from_yields_List}
use Rattle.sp_base.specs.PathTexts.{is_unfit}
use Rattle.sp_base.proofs.segments.has_unfit.Goals as goal

pub returns : goal.returns
returns c = any_from_yields_List is_unfit _ _ _ c.any.ensures.ran (YieldsList-from_slice_split _ (λ b. b == 47) c.args.text.now (c.split.ensures.rest ∙ c.as_bytes.ensures.value) c.split.ensures.done c.split.ensures.closure (λ x r q k. search (rules, tests))) (λ x b q k. search (rules, tests))
