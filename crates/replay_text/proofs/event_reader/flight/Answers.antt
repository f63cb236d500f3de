use Rattle.std.proofs.Common.{◌≡◌, ◌≤◌, ◌<◌, ℕ, ◌∙◌, sym, subst}
use Rattle.std.specs.Fmt.{decimal}
use Rattle.std.specs.Prelude.{IfNone}
use Rattle.std.proofs.lemmas.Bool.{false≢true}
use Rattle.replay_text.proofs.WordLemmas.{no_flight}
use Rattle.replay_text.proofs.event_reader.flight.Goals as goal

pub returns-in_default-clause-none : goal.returns-in_default-clause-none
returns-in_default-clause-none c =
    let none = subst (λ o. IfNone o ((n : ℕ) → 1 ≤ n → n < 18446744073709551616 → c.args.word.now ≡ decimal n → ⊥)) c.in_default.is c.in_ok-n.ensures.none in
    no_flight c.args.word.now (λ e. false≢true (sym c.if-same.false ∙ c.same.ensures.1 e)) none
