-- What an event's notes show of a failing disk and of memory that ran out.
use Rattle.std.specs.Prelude.{◌≡◌, ◌+◌, ◌⊎◌, ℕ, List, [], ◌∷◌, Option, Some, None, IsTrue}
use Rattle.sp_base.specs.Requests.{Request}
use Rattle.http_front.specs.Faults.{insufficient_storage}
use Rattle.cache_log.specs.Rules.{IsOwed}
use Rattle.connections.specs.Connections.{IsInPlaceOfDue}
use Rattle.connections.specs.Ids.{ConnectionId}
use Rattle.connections.specs.Slots.{fixed_answer}
use Rattle.run_events.specs.declared.conditions.Conditions.{Conditions}
use Rattle.run_events.specs.declared.note.Failure.TheVariants.{Disk, NoMemory}
use Rattle.run_events.specs.declared.note.Note.{Note}
use Rattle.run_events.specs.declared.note.Note.TheVariants.{Answer as answered, Ask as asked, Local, Failed, Rendered, Unkept, Sent, Down}
use Rattle.run_events.specs.States.{RunState}
use Rattle.run_events.specs.Points.{IsHitOwed}
use Rattle.run_events.specs.Moves.{due_of_connection, state_after_note, treated_request}

-- The note shows that memory ran out: it gives the fixed 507 as an answer, as what is rendered or as a request's own, or it sends
-- that in place of what is due to be sent; a landing may not be kept, a flush fails so, or the cache goes down.
abbrev pub ShowsOutOfMemory : RunState → Note → Type 0
ShowsOutOfMemory w (answered answer) = answer ≡ fixed_answer
ShowsOutOfMemory w (Local c status) = status ≡ insufficient_storage
ShowsOutOfMemory w (Failed number failure) = failure ≡ NoMemory
ShowsOutOfMemory w (Rendered number answer) = answer ≡ fixed_answer
ShowsOutOfMemory w (Unkept number) = Unit {0}
ShowsOutOfMemory w (Sent c bytes) = IsInPlaceOfDue (due_of_connection w c) bytes
ShowsOutOfMemory w Down = Unit {0}
ShowsOutOfMemory w _ = ⊥

-- one of the notes does, in the state in which it comes
abbrev pub SomeShowsOutOfMemory : RunState → List Note → Type 0
SomeShowsOutOfMemory w [] = ⊥
SomeShowsOutOfMemory w (note ∷ notes) = ShowsOutOfMemory w note ⊎ SomeShowsOutOfMemory (state_after_note w note) notes

-- an event says that memory ran out only where one of its notes shows it
abbrev pub ShowsIfOutOfMemory : RunState → Conditions → List Note → Type 0
ShowsIfOutOfMemory w m notes = IsTrue m.out_of_memory → SomeShowsOutOfMemory w notes

-- ---- what a failing disk spoils

-- a hit is owed to the request that is treated
abbrev pub IsHitOwedTo : RunState → ConnectionId → Option Request → Type 0
IsHitOwedTo w c None = ⊥
IsHitOwedTo w c (Some request) = IsHitOwed w c request

-- The note tells what a failing disk spoils: the publisher is asked for a page that is owed, or is too busy to be asked for it, or a flush
-- fails.
abbrev pub Spoils : RunState → Note → Type 0
Spoils w (asked number c key) = IsOwed w.farm w.log key
Spoils w (Local c status) = (status ≡ 503) × IsHitOwedTo w c (treated_request (due_of_connection w c))
Spoils w (Failed number failure) = failure ≡ Disk
Spoils w _ = ⊥

-- at most so many of the notes do, each in the state in which it comes
abbrev pub SpoilAtMost : ℕ → RunState → List Note → Type 0
SpoilAtMost n w [] = Unit {0}
SpoilAtMost n w (note ∷ notes) = ((Spoils w note → ⊥) × SpoilAtMost n (state_after_note w note) notes) ⊎ ((m : ℕ) × (n ≡ m + 1) × SpoilAtMost m (state_after_note w note) notes)
