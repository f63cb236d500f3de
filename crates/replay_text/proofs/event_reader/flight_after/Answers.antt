use Rattle.std.proofs.Common.{◌≡◌, ◌++◌, ◌∙◌, sym}
use Rattle.std.proofs.lemmas.List.{append_cancel_left}
use Rattle.replay_text.specs.EventLines.{flight_text, IsFlightText}
use Rattle.replay_text.specs.declared.event_line.NamedFlight.{NamedFlight}
use Rattle.replay_text.proofs.WordLemmas.{IfOkNone-weaker}
use Rattle.replay_text.proofs.event_reader.flight_after.Goals as goal

pub returns-in-Some-clause-none : goal.returns-in-Some-clause-none
returns-in-Some-clause-none c = IfOkNone-weaker c.flight.result ((f : NamedFlight) → IsFlightText f → c.in-Some.rest.now ≡ flight_text f → ⊥)
    ((f : NamedFlight) → IsFlightText f → c.args.line.now ≡ c.args.word.now ++ flight_text f → ⊥)
    (λ none f is e. none f is (append_cancel_left c.args.word.now c.in-Some.rest.now (flight_text f) (sym c.in-Some.ensures.some ∙ e))) c.flight.ensures.none
