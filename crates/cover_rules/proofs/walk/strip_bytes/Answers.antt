use Rattle.sp_base.proofs.OptionLemmas.{IfNone-cases, IfSome-cases}
use Rattle.sp_base.proofs.TextLemmas.{begun_and_rest, not_begun}
use Rattle.cover_rules.proofs.walk.strip_bytes.Goals as goal

pub returns-clause-some : goal.returns-clause-some
returns-clause-some c = IfSome-cases c.strip_prefix.result _ _ _ c.strip_prefix.ensures.cases (λ rest h. begun_and_rest c.args.text.now c.args.prefix.now rest.now h.0 h.1)

pub returns-clause-none : goal.returns-clause-none
returns-clause-none c = IfNone-cases c.strip_prefix.result _ _ _ c.strip_prefix.ensures.cases (λ h rest e. not_begun c.args.text.now c.args.prefix.now rest h e)
