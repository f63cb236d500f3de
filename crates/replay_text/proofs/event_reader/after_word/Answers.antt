use Rattle.std.proofs.Common.{◌≡◌, ◌++◌, ℕ, List}
use Rattle.sp_base.proofs.OptionLemmas.{IfNone-cases, IfSome-cases}
use Rattle.sp_base.proofs.TextLemmas.{begun_and_rest, not_begun}
use Rattle.replay_text.proofs.event_reader.after_word.Goals as goal

pub returns-clause-some : goal.returns-clause-some
returns-clause-some c = IfSome-cases c.strip_prefix.result _ _ (λ rest. c.args.line.now ≡ c.args.word.now ++ rest.now) c.strip_prefix.ensures.cases
    (λ rest h. begun_and_rest c.args.line.now c.args.word.now rest.now h.0 h.1)

pub returns-clause-none : goal.returns-clause-none
returns-clause-none c = IfNone-cases c.strip_prefix.result _ ((rest : List ℕ) → c.args.line.now ≡ c.args.word.now ++ rest → ⊥) _ c.strip_prefix.ensures.cases
    (λ h rest e. not_begun c.args.line.now c.args.word.now rest h e)
