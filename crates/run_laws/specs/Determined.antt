-- What a run's steps leave open.
use Rattle.std.specs.Prelude.{◌≡◌, ◌++◌, ℕ, false, List, [], ◌∷◌, Option, Some, None, map}
use Rattle.std.specs.List.{AllByRecursion}
use Rattle.http_front.specs.declared.turn.Turn.{Turn}
use Rattle.http_front.specs.OpenEnds.{LeavesEndOpen}
use Rattle.http_front.specs.Turns.{End}
use Rattle.connections.specs.Connections.{Connection}
use Rattle.run_events.specs.declared.note.Note.{Note}
use Rattle.run_events.specs.declared.note.Note.TheVariants.{Hit, Flush, Down}
use Rattle.run_events.specs.declared.step.Step.{Step}
use Rattle.run_events.specs.declared.step.Step.TheVariants.{Piece}
use Rattle.run_events.specs.Events.{Event, Run, after_event, notes_of}
use Rattle.run_events.specs.States.{RunState, Start, start_of}
use Rattle.run_laws.specs.Logs.{IsBeginning}

-- what each event does
abbrev pub event_steps : List Event → List Step
event_steps events = map (λ (e : Event). e.step) events

-- what comes on the connection is read, and then its stream ends alike
abbrev pub IsSameEndOf : Option Connection → End → End → Type 0
IsSameEndOf None one other = Unit {0}
IsSameEndOf (Some connection) one other = connection.closing ≡ false → one ≡ other

-- the stream to which a step brings bytes ends alike
abbrev pub IsSameEnd : RunState → Step → End → End → Type 0
IsSameEnd w (Piece c bytes) one other = IsSameEndOf (w.connection c) one other
IsSameEnd w _ one other = Unit {0}

-- after each event the stream ends alike to which it brought bytes, where these are read
abbrev pub EndAlike : RunState → List Event → List Event → Type 0
EndAlike w (e ∷ events) (f ∷ others) = IsSameEnd w e.step e.ends f.ends × EndAlike (after_event w e) events others
EndAlike w _ _ = Unit {0}

-- what happens in each event
abbrev pub event_notes : List Event → List (List Note)
event_notes events = map notes_of events

-- ---- what leaves a choice

-- The note leaves no choice: it is no hit, which another answer may stand for; no flush begins by it, which ends after as many slices as there
-- are files; and by it the cache doesn't go down, after which an epoch may be passed over.
abbrev pub LeavesNoChoice : Note → Type 0
LeavesNoChoice (Hit c key) = ⊥
LeavesNoChoice (Flush number c inv) = ⊥
LeavesNoChoice Down = ⊥
LeavesNoChoice _ = Unit {0}

-- in the event neither the disk failed nor memory ran out, and no note of it leaves a choice
pub record IsDetermined (e : Event) : Type 0 where
  pub disk_worked : e.conditions.disk_failed ≡ false
  pub not_out_of_memory : e.conditions.out_of_memory ≡ false
  pub no_choice : AllByRecursion LeavesNoChoice e.body

-- so it is in each event
abbrev pub AreDetermined : List Event → Type 0
AreDetermined events = AllByRecursion IsDetermined events

-- Two such runs of the same steps have the same notes, if the streams end alike.
abbrev pub RunsWithMemoryAreOne : Type 0
RunsWithMemoryAreOne = (s : Start) (a b : List Event) → IsBeginning s → Run (start_of s) a → Run (start_of s) b → event_steps a ≡ event_steps b → EndAlike (start_of s) a b
    → AreDetermined a → AreDetermined b → event_notes a ≡ event_notes b

-- ---- where streams end alike

-- what comes on the connection is read, and with these bytes, which bring these turns, what comes after its turns, or the first 16,384
-- bytes of that, ends within a target that isn't UTF-8 and can't become it
abbrev pub IsEndLeftOpenOf : Option Connection → List ℕ → List Turn → Type 0
IsEndLeftOpenOf None bytes turns = ⊥
IsEndLeftOpenOf (Some connection) bytes turns = (connection.closing ≡ false) × LeavesEndOpen (connection.stream ++ bytes) (connection.turns ++ turns)

-- the stream to which a step brings bytes ends so
abbrev pub IsEndLeftOpen : RunState → Step → List Turn → Type 0
IsEndLeftOpen w (Piece c bytes) turns = IsEndLeftOpenOf (w.connection c) bytes turns
IsEndLeftOpen w _ turns = ⊥

-- after no event the stream ends so to which it brought bytes, where these are read
abbrev pub LeaveNoEndOpen : RunState → List Event → Type 0
LeaveNoEndOpen w [] = Unit {0}
LeaveNoEndOpen w (e ∷ events) = (IsEndLeftOpen w e.step e.turns → ⊥) × LeaveNoEndOpen (after_event w e) events

-- In two such runs of the same steps the streams end alike, if in the first none that is still read ends within such a target after any event.
abbrev pub StreamsWithMemoryEndAlike : Type 0
StreamsWithMemoryEndAlike = (s : Start) (a b : List Event) → IsBeginning s → Run (start_of s) a → Run (start_of s) b → event_steps a ≡ event_steps b
    → AreDetermined a → AreDetermined b → LeaveNoEndOpen (start_of s) a → EndAlike (start_of s) a b
