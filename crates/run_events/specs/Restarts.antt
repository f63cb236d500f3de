-- What a restart does: the cache and its connections begin anew over the same files.
use Rattle.std.specs.Prelude.{◌≡◌, ◌++◌, ◌⊎◌, ℕ, true, List, [], ◌∷◌, None, map}
use Rattle.cache_log.specs.Entries.{Up as up_entry, Down as down_entry}
use Rattle.cache_log.specs.Rules.{Allowed}
use Rattle.connections.specs.Ids.{ConnectionId}
use Rattle.run_events.specs.declared.conditions.Conditions.{Conditions}
use Rattle.run_events.specs.declared.flying.Flying.{Flying}
use Rattle.run_events.specs.declared.flying.Flushing.{Flushing}
use Rattle.run_events.specs.declared.note.Failure.TheVariants.{Restart as cut_off}
use Rattle.run_events.specs.declared.note.Note.{Note}
use Rattle.run_events.specs.declared.note.Note.TheVariants.{Failed, Lost, Shut, Up, Down}
use Rattle.run_events.specs.States.{RunState, AreOpen}
use Rattle.run_events.specs.Points.{call_conditions}
use Rattle.run_events.specs.Moves.{state_after_notes}

-- no connection is open any more
abbrev pub without_connections : RunState → RunState
without_connections w = record w { connection = λ c. None; connection_count = 0 }

-- what a restart cuts off, by number: each flight in the air is lost, each unfinished flush fails, and each open connection is shut
abbrev pub cut_notes : RunState → List ConnectionId → List Note
cut_notes w connections = map (λ (flying : Flying). Lost flying.number) w.flights ++ (map (λ (flush : Flushing). Failed flush.number cut_off) w.flushes ++ map (λ (c : ConnectionId). Shut c) connections)

-- how a restart ends: the cache comes up with an epoch that its log allows, or goes down where its log allows that
abbrev pub EndsRestart : RunState → Conditions → Note → Type 0
EndsRestart w m note = ((epoch : ℕ) × (note ≡ Up epoch) × Allowed w.farm (call_conditions m true) (up_entry epoch) w.log) ⊎ ((note ≡ Down) × Allowed w.farm (call_conditions m true) down_entry w.log)

-- A restart shuts all connections at once, so that nothing more is sent on them; its notes name what it cut off, and last how it ended.
pub record Restarts (w : RunState) (m : Conditions) (notes : List Note) : Type 0 where
  pub connections : List ConnectionId
  pub are_open : AreOpen w connections
  pub last : Note
  pub notes_are : notes ≡ cut_notes w connections ++ last ∷ []
  pub ends : EndsRestart (state_after_notes (without_connections w) (cut_notes w connections)) m last
