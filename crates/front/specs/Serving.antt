-- What a connection was given up to now. (Of the theorem's reader this file is no concern.)
use Rattle.std.specs.Prelude.{Bool, true, false, ℕ, Option}
use Rattle.connections.specs.Ids.{ConnectionId}
use Rattle.run_events.specs.declared.conditions.Conditions.{Conditions}
use Rattle.run_events.specs.Moves.{Serves, state_after_notes}
use Rattle.run_events.specs.States.{RunState}
use Rattle.front.specs.Boards.{HaveCause, OpenAfterNote}
use Rattle.front.specs.Caches.{Allows, Behind, CacheParts, behind}
use Rattle.front.specs.declared.connection.Connection.{Connection as KeptConnection}
use Rattle.front.specs.declared.effect.Effect.{Effect}
use Rattle.sp_outside.specs.Files.{Files}

-- the notes were given, and the first slice of a flush is due if there is one, which the connection waits for
pub record NotesThen (slices : Bool) (effect : Effect) (w : RunState) (c : ConnectionId) (k : KeptConnection) (old new : Behind) : Type 0 where
  pub serves : (m : Conditions) → Allows effect.conditions m → Serves m w c effect.notes.items
  pub cause : HaveCause old.faults new.faults effect.conditions w effect.notes.items
  pub meets : OpenAfterNote slices (state_after_notes w effect.notes.items) c k new

-- the first slice of a flush, if one was due, was given too: before and after a call over a disk of which this says what it tells of its files,
-- and that how often it failed
abbrev pub SlicesFirst : {D : Type 0} → (D → Option Files) → (D → ℕ) → Effect → KeptConnection → CacheParts → D → Effect → KeptConnection → CacheParts → D → Type 0
SlicesFirst files faults given k cache before all next_k next after =
    (w : RunState) (c : ConnectionId) (old : Behind) → NotesThen true given w c k old (behind cache (files before) (faults before)) → NotesThen false all w c next_k old (behind next (files after) (faults after))
