-- What a turn is made of, in other words than those of where it stands.
use Rattle.std.specs.Prelude.{◌≡◌, ◌≢◌, ◌⊎◌, ◌++◌, ℕ, List, [], ◌∷◌, Some}
use Rattle.std.specs.List.{AllByRecursion}
use Rattle.outside_world.specs.declared.world.Happening.{Happening}
use Rattle.outside_world.specs.declared.world.Happening.TheVariants.{Gone as gone_news}
use Rattle.outside_world.specs.declared.world.WorldEntry.{WorldEntry}
use Rattle.outside_world.specs.declared.world.WorldEntry.TheVariants.{Unsent, Shut as shut_entry}
use Rattle.connections.specs.Ids.{ConnectionId}
use Rattle.run_events.specs.declared.step.Step.{Step}
use Rattle.run_events.specs.declared.step.Step.TheVariants.{Gone, Purge}
use Rattle.run_events.specs.States.{RunState}
use Rattle.run_events.specs.Events.{state_after_events}
use Rattle.serve_loop.specs.Turns.{HandedEvent, ServedTurn, events_made, turn_events}
use Rattle.serve_loop.specs.Served.{DiskReport, IsServed, IsServerAtRest, WorldReport}
use Rattle.serve_loop.specs.declared.serving.ServeEnd.{ServeEnd}

-- ---- a connection that goes

-- these events end with one of which the world's log has last that a sending on the connection failed, and that it was shut
pub record EndsUnsent (c : ConnectionId) (made : List HandedEvent) : Type 0 where
  pub earlier : List HandedEvent
  pub last : HandedEvent
  pub made_is : made ≡ earlier ++ last ∷ []
  pub entries : List WorldEntry
  pub entries_are : last.entries ≡ entries ++ Unsent c ∷ shut_entry c ∷ []

-- A connection goes after these events of a turn: it is what came, and they are none; or the last of them could not send on it.
abbrev pub MayGo : Happening → ConnectionId → List HandedEvent → Type 0
MayGo news c before = ((before ≡ []) × (news ≡ gone_news c)) ⊎ EndsUnsent c before

-- ---- a slice of a flush

-- the step is that a connection goes
abbrev pub IsGoing : Step → Type 0
IsGoing (Gone c) = Unit {0}
IsGoing _ = ⊥

-- What ends a turn: where no flush is unfinished nothing, and where one is, one slice of the oldest, after which only connections go on which
-- sendings failed.
abbrev pub IsOneSlice : RunState → List HandedEvent → Type 0
IsOneSlice w [] = w.flushes ≡ []
IsOneSlice w (m ∷ later) = (w.flushes ≢ []) × (m.event.step ≡ Purge) × AllByRecursion (λ (n : HandedEvent). IsGoing n.event.step) later

-- A turn: first events that make no slice, after which nothing is in the air, and then one slice, where a flush is unfinished.
pub record HasOneSlice (w : RunState) (made : List HandedEvent) : Type 0 where
  pub first : List HandedEvent
  pub last : List HandedEvent
  pub made_is : made ≡ first ++ last
  pub no_slice : AllByRecursion (λ (m : HandedEvent). m.event.step ≢ Purge) first
  pub landed : (state_after_events w (events_made first)).flights ≡ []
  pub slice : IsOneSlice (state_after_events w (events_made first)) last

-- ---- the same of what was served

-- After each whole turn nothing is in the air.
abbrev pub TurnsLandAll : Type 0
TurnsLandAll = (w : RunState) (limit : ℕ) (end : ServeEnd) (disk : DiskReport) (world : WorldReport) (s : IsServed w limit end disk world) → IsServerAtRest w world.old
    → (before after : List ServedTurn) → s.turns ≡ before ++ after → (state_after_events w (turn_events before)).flights ≡ []

-- Each whole turn has one slice where a flush is unfinished once its flights have landed, and none elsewhere.
abbrev pub TurnsHaveOneSlice : Type 0
TurnsHaveOneSlice = (w : RunState) (limit : ℕ) (end : ServeEnd) (disk : DiskReport) (world : WorldReport) (s : IsServed w limit end disk world) → IsServerAtRest w world.old
    → (before : List ServedTurn) (turn : ServedTurn) (after : List ServedTurn) → s.turns ≡ before ++ turn ∷ after → HasOneSlice (state_after_events w (turn_events before)) turn.made

-- the turn is one of these
abbrev pub HasTurn : List ServedTurn → ServedTurn → Type 0
HasTurn turns turn = (before : List ServedTurn) × ((after : List ServedTurn) × (turns ≡ before ++ turn ∷ after))

-- A connection goes only where that came, or where a sending on it failed just before, also in a turn that memory cut.
abbrev pub ConnectionsGoForACause : Type 0
ConnectionsGoForACause = (w : RunState) (limit : ℕ) (end : ServeEnd) (disk : DiskReport) (world : WorldReport) (s : IsServed w limit end disk world)
    → (turn : ServedTurn) → HasTurn s.turns turn ⊎ (s.cut ≡ Some turn) → (before : List HandedEvent) (m : HandedEvent) (after : List HandedEvent) (c : ConnectionId) → turn.made ≡ before ++ m ∷ after → m.event.step ≡ Gone c
    → MayGo turn.news c before
