use Rattle.std.proofs.Common.{◌∙◌, sym}
use Rattle.sp_base.proofs.ListLemmas.{same_tail}
use Rattle.sp_base.proofs.OptionLemmas.{IfNone-map}
use Rattle.cover_rules.proofs.walk.strip_slash.Goals as goal

pub returns-in-Some-clause-none : goal.returns-in-Some-clause-none
returns-in-Some-clause-none c = IfNone-map c.strip.result _ _ (λ none more e. none more (same_tail 47 _ _ (sym c.in-Some.ensures.some ∙ e))) c.strip.ensures.none
