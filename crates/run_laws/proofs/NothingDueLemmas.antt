-- The laws for a loop over events, of their steps.
use Rattle.std.proofs.Common.{◌≡◌, ◌⊎◌, ℕ, List, [], ◌∷◌, refl, sym, subst, arith}
use Rattle.std.specs.List.{AllByRecursion}
use Rattle.sp_base.specs.declared.answer.Answer.{Answer}
use Rattle.cache_log.specs.Entries.{flights_asked}
use Rattle.run_events.specs.declared.flying.Flying.{Flying}
use Rattle.run_events.specs.declared.step.Pick.TheVariants.{First}
use Rattle.run_events.specs.declared.step.Step.{Step}
use Rattle.run_events.specs.declared.step.Step.TheVariants.{Deliver, Render}
use Rattle.run_events.specs.States.{AirRises, RunState, Start, start_of}
use Rattle.run_events.specs.Moves.{state_after_notes, with_rendered}
use Rattle.run_events.specs.Events.{Event, Happens, HappensBy, Run, after_event, state_after_events, state_before_notes}
use Rattle.run_laws.specs.Rounds.{BringsBytes, HasNothingDue, LandsTheFirst, LeavesFlights, RendersTheFirst, TreatsNoTurn}
use Rattle.run_laws.proofs.AskLemmas.{Numbered, are-rising, step-numbered}
use Rattle.run_laws.proofs.DueLemmas.{IsGiven, no-turns}
use Rattle.run_laws.proofs.DueEventLemmas.{step-given}
use Rattle.run_laws.proofs.FewLemmas.{step-few}
use Rattle.run_laws.proofs.NumberedLemmas.{Rising}
use Rattle.run_laws.proofs.RoundLemmas.{lands-first, renders-first, step-leaves, step-treats}
use Rattle.run_laws.proofs.SoundLemmas.{flight_number}

rising-are : (least : ℕ) (flights : List Flying) (most : ℕ) → AirRises least flights most → Rising flight_number least flights most
rising-are least [] most rising = rising
rising-are least (f ∷ flights) most rising = (rising.0, rising-are f.number flights most rising.1)

numbered : (w : RunState) → HasNothingDue w → Numbered w
numbered w nothing = rising-are 0 w.flights (flights_asked w.log) nothing.rising

-- ---- nothing is due
pub nothing-at-start : (s : Start) → HasNothingDue (start_of s)
nothing-at-start s = record { connections = λ c. refl; slicing = refl; rising = omega arith; few = omega arith }

pub nothing-after : (w : RunState) (e : Event) → HasNothingDue w → Happens w e → HasNothingDue (after_event w e)
nothing-after w e nothing happens =
    let given : IsGiven w = record { connections = nothing.connections; slicing = nothing.slicing } in
    let left = step-given w e e.step (numbered w nothing) happens.0 given in
    record {
      connections = left.connections;
      slicing = left.slicing;
      rising = are-rising 0 (after_event w e).flights (flights_asked (after_event w e).log) (step-numbered w e e.step (numbered w nothing) happens.0);
      few = step-few w e e.step happens.0 nothing.few;
    }

pub nothing-after-run : (w : RunState) (events : List Event) → HasNothingDue w → Run w events → HasNothingDue (state_after_events w events)
nothing-after-run w [] nothing run = nothing
nothing-after-run w (e ∷ events) nothing run = nothing-after-run (after_event w e) events (nothing-after w e nothing run.0) run.1

-- ---- turns and flights
pub treats-as-they-come : (w : RunState) (e : Event) → HasNothingDue w → Happens w e → BringsBytes e.step ⊎ AllByRecursion TreatsNoTurn e.body
treats-as-they-come w e nothing happens = step-treats w e e.step (no-turns w nothing.connections) nothing.slicing happens.0

pub leaves-flights : (w : RunState) (e : Event) → HasNothingDue w → Happens w e → LeavesFlights e.step → (after_event w e).flights ≡ w.flights
leaves-flights w e nothing happens leaves = step-leaves w e e.step (no-turns w nothing.connections) nothing.slicing leaves happens.0

-- what an event of this step is, where it is that of the event
of-step : (w : RunState) (e : Event) (s t : Step) (A : RunState → Type 0) → s ≡ t → (HappensBy w e t → A (state_after_notes (state_before_notes w e t) e.body)) → HappensBy w e s → A (state_after_notes (state_before_notes w e s) e.body)
of-step w e s t A is so = subst (λ s. HappensBy w e s → A (state_after_notes (state_before_notes w e s) e.body)) (sym is) so

pub renders-the-first : RendersTheFirst
renders-the-first w e flying later nothing happens is flights unrendered =
    of-step w e e.step (Render First) (λ v. (answer : Answer) × (v.flights ≡ with_rendered answer flying ∷ later)) is (λ to. renders-first w e flying later (flights_asked w.log) nothing.rising flights unrendered to) happens.0

pub lands-the-first : LandsTheFirst
lands-the-first w e flying later nothing happens is flights rendered =
    of-step w e e.step (Deliver First) (λ v. v.flights ≡ later) is (λ to. lands-first w e flying later (flights_asked w.log) (no-turns w nothing.connections) nothing.slicing nothing.rising flights rendered to) happens.0
