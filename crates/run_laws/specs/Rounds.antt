-- What is so between events, and what rounds of renders and landings may rely on.
use Rattle.std.specs.Prelude.{◌≡◌, ◌≤◌, ℕ, List, [], ◌∷◌, None, IsSome, length}
use Rattle.std.specs.List.{AllByRecursion}
use Rattle.sp_base.specs.declared.answer.Answer.{Answer}
use Rattle.connections.specs.Connections.{Nothing}
use Rattle.connections.specs.Ids.{ConnectionId}
use Rattle.run_events.specs.declared.flying.Flying.{Flying}
use Rattle.run_events.specs.declared.note.Note.{Note}
use Rattle.run_events.specs.declared.note.Note.TheVariants.{Ask as asked, Hit, Local, Flush}
use Rattle.run_events.specs.declared.step.Pick.TheVariants.{First}
use Rattle.run_events.specs.declared.step.Step.{Step}
use Rattle.run_events.specs.declared.step.Step.TheVariants.{Opened, Piece, Gone, Direct, Render, Deliver, Purge}
use Rattle.run_events.specs.Events.{Event, Happens, after_event}
use Rattle.run_events.specs.Moves.{due_of_connection, with_rendered}
use Rattle.run_events.specs.States.{AreFlightsRising, RunState}
use Rattle.flights.specs.Flights.{most_flights}

-- ---- between events

-- Between events: each connection was given what it is owed, and no slice is due; the flights in the air rise by number, and are no more than
-- may be.
pub record HasNothingDue (w : RunState) : Type 0 where
  pub connections : (c : ConnectionId) → due_of_connection w c ≡ Nothing
  pub slicing : w.slicing ≡ None
  pub rising : AreFlightsRising w
  pub few : length w.flights ≤ most_flights

-- ---- turns are treated as they come

-- the note treats no turn of a connection
abbrev pub TreatsNoTurn : Note → Type 0
TreatsNoTurn (asked number c key) = ⊥
TreatsNoTurn (Hit c key) = ⊥
TreatsNoTurn (Local c status) = ⊥
TreatsNoTurn (Flush number c inv) = ⊥
TreatsNoTurn _ = Unit {0}

-- bytes come by the step
abbrev pub BringsBytes : Step → Type 0
BringsBytes (Piece c bytes) = Unit {0}
BringsBytes _ = ⊥

-- ---- flights

-- the step neither brings a flight, nor renders one, nor takes one out of the air
abbrev pub LeavesFlights : Step → Type 0
LeavesFlights (Opened c peer) = Unit {0}
LeavesFlights (Gone c) = Unit {0}
LeavesFlights (Direct target) = Unit {0}
LeavesFlights Purge = Unit {0}
LeavesFlights _ = ⊥

-- the step renders no flight
abbrev pub LeavesUnrendered : Step → Type 0
LeavesUnrendered (Render pick) = ⊥
LeavesUnrendered _ = Unit {0}

-- none of the flights is rendered
abbrev pub AreUnrendered : List Flying → Type 0
AreUnrendered flights = AllByRecursion (λ (flying : Flying). flying.rendered ≡ None) flights

-- A render of the first flight, where that has no answer, gives it one, and each other flight is as it was.
abbrev pub RendersTheFirst : Type 0
RendersTheFirst = (w : RunState) (e : Event) (flying : Flying) (later : List Flying) → HasNothingDue w → Happens w e → e.step ≡ Render First → w.flights ≡ flying ∷ later → flying.rendered ≡ None
    → (answer : Answer) × ((after_event w e).flights ≡ with_rendered answer flying ∷ later)

-- A landing of the first flight, where that is rendered, takes it out of the air, and each other flight is as it was.
abbrev pub LandsTheFirst : Type 0
LandsTheFirst = (w : RunState) (e : Event) (flying : Flying) (later : List Flying) → HasNothingDue w → Happens w e → e.step ≡ Deliver First → w.flights ≡ flying ∷ later → IsSome flying.rendered
    → (after_event w e).flights ≡ later
