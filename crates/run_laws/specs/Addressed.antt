-- Which connections the notes of an event are of.
use Rattle.std.specs.Prelude.{◌≡◌, ◌⊎◌, ℕ, List, [], ◌∷◌, Option, Some, None, IsSome}
use Rattle.connections.specs.Ids.{ConnectionId}
use Rattle.run_events.specs.declared.note.Note.{Note}
use Rattle.run_events.specs.declared.note.Note.TheVariants.{Sent, Shut, Refused}
use Rattle.run_events.specs.declared.step.Step.{Step}
use Rattle.run_events.specs.declared.step.Step.TheVariants.{Opened, Restart}
use Rattle.run_events.specs.Moves.{state_after_note}
use Rattle.run_events.specs.States.{RunState}

-- the connection that the step is to open
abbrev pub opened_by_step : Step → Option ConnectionId
opened_by_step (Opened c peer) = Some c
opened_by_step _ = None

-- the step is no restart
abbrev pub LeavesSession : Step → Type 0
LeavesSession Restart = ⊥
LeavesSession _ = Unit {0}

-- Bytes are sent on a connection that is there, and one is shut that is there; where there is no room, it is for the one that the step is to open.
abbrev pub IsAddressed : Step → RunState → Note → Type 0
IsAddressed step w (Sent c bytes) = IsSome (w.connection c)
IsAddressed step w (Shut c) = IsSome (w.connection c)
IsAddressed step w (Refused c) = opened_by_step step ≡ Some c
IsAddressed step w _ = Unit {0}

-- the same of notes, each in the state in which it comes
abbrev pub AreAddressed : Step → RunState → List Note → Type 0
AreAddressed step w [] = Unit {0}
AreAddressed step w (note ∷ notes) = IsAddressed step w note × AreAddressed step (state_after_note w note) notes

-- the connection is there before the step's notes only where it was before, or the step opens it
abbrev pub WasThereOrOpenedIfThere : Step → RunState → RunState → Type 0
WasThereOrOpenedIfThere step before after = (c : ConnectionId) → IsSome (after.connection c) → IsSome (before.connection c) ⊎ (opened_by_step step ≡ Some c)

-- no connection is there that wasn't before
abbrev pub AddsNoConnection : RunState → RunState → Type 0
AddsNoConnection before after = (c : ConnectionId) → IsSome (after.connection c) → IsSome (before.connection c)
