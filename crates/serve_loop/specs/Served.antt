-- What a call of `serve` makes of a run and of the world's log.
use Rattle.std.specs.Prelude.{◌≡◌, ◌≤◌, ◌<◌, ◌++◌, ℕ, Bool, true, false, List, [], ◌∷◌, Option, Some, None, IfSome, IsSome, length, map}
use Rattle.std.specs.List.{count_by}
use Rattle.sp_outside.specs.Files.{Files}
use Rattle.sp_outside.specs.Causes.{Rose}
use Rattle.outside_world.specs.Faults.{HasRisenBy}
use Rattle.outside_world.specs.Worlds.{is_connected, told_more}
use Rattle.outside_world.specs.declared.world.WorldEntry.{WorldEntry}
use Rattle.outside_world.specs.declared.world.WorldEntry.TheVariants.{Unsent}
use Rattle.any_config.specs.declared.farm.Farm.{Farm}
use Rattle.cache_log.specs.Entries.{LogEntry}
use Rattle.cache_log.specs.Rules.{IsLegal}
use Rattle.coherence_core.specs.Holds.{Holds, HoldsClosed}
use Rattle.coherence_core.specs.Sessions.{failed_entries}
use Rattle.connections.specs.Ids.{ConnectionId}
use Rattle.run_events.specs.declared.flying.Flushing.{Flushing}
use Rattle.run_events.specs.States.{RunState}
use Rattle.run_events.specs.Events.{Event, Run, HasCause, after_event, state_after_events}
use Rattle.run_events.specs.Publishers.{Publishing}
use Rattle.run_laws.specs.Rounds.{HasNothingDue}
use Rattle.serve_loop.specs.declared.serving.ServeEnd.{ServeEnd}
use Rattle.serve_loop.specs.declared.serving.ServeEnd.TheVariants.{Turns, WorldFailed, NoMemory}
use Rattle.serve_loop.specs.Turns.{ServedTurn, AreWholeTurns, IsCutTurn, with_cut, turn_events, turn_entries, happenings_of}
use Rattle.resource_tree.specs.Content.{Content}
use Rattle.front.specs.Boards.{at_disk}
use Rattle.front.specs.Fronts.{FrontStandsFor}
use Rattle.front.specs.declared.front.Front.{Front}

-- a world over one call
pub record WorldReport : Type 0 where
  pub old : Option (List WorldEntry)
  pub new : Option (List WorldEntry)
  pub next_old : ℕ
  pub next_new : ℕ
  pub send_old : ℕ
  pub send_new : ℕ

abbrev pub world_report : Option (List WorldEntry) → Option (List WorldEntry) → ℕ → ℕ → ℕ → ℕ → WorldReport
world_report old new next_old next_new send_old send_new = record { old = old; new = new; next_old = next_old; next_new = next_new; send_old = send_old; send_new = send_new }

-- a disk over one call
pub record DiskReport : Type 0 where
  pub old : Option Files
  pub new : Option Files
  pub faults_old : ℕ
  pub faults_new : ℕ

abbrev pub disk_report : Option Files → Option Files → ℕ → ℕ → DiskReport
disk_report old new faults_old faults_new = record { old = old; new = new; faults_old = faults_old; faults_new = faults_new }

-- a disk over one call, of which this says what it tells and how often it failed
abbrev pub disk_over : {D : Type 0} → (D → Option Files) → (D → ℕ) → D → D → DiskReport
disk_over files faults old new = disk_report (files old) (files new) (faults old) (faults new)

-- a world over one call, of which this says what it tells, and how many of its calls of `next` and of its sendings failed
abbrev pub world_over : {W : Type 0} → (W → Option (List WorldEntry)) → (W → ℕ) → (W → ℕ) → W → W → WorldReport
world_over log next_faults send_faults old new = world_report (log old) (log new) (next_faults old) (next_faults new) (send_faults old) (send_faults new)

-- as many whole turns were made as were asked for; or fewer, and one more may have begun
abbrev pub IsTurnCount : ServeEnd → ℕ → ℕ → Type 0
IsTurnCount Turns limit whole = whole ≡ limit
IsTurnCount WorldFailed limit whole = whole < limit
IsTurnCount NoMemory limit whole = whole < limit

-- only want of memory cuts a turn
abbrev pub MayCut : ServeEnd → Option ServedTurn → Type 0
MayCut Turns cut = cut ≡ None
MayCut WorldFailed cut = cut ≡ None
MayCut NoMemory cut = Unit {0}

-- Only a `next` that failed ends it so, and any other end leaves that count.
abbrev pub HasEndCause : ServeEnd → WorldReport → Type 0
HasEndCause Turns world = world.next_new ≡ world.next_old
HasEndCause WorldFailed world = Rose world.next_old world.next_new
HasEndCause NoMemory world = world.next_new ≡ world.next_old

-- Each event says that the disk failed, and spoils, as the disk's count rose in it: there are counts between the events, from the first to the
-- last.
abbrev pub AreCaused : ℕ → ℕ → RunState → List Event → Type 0
AreCaused before after w [] = before ≡ after
AreCaused before after w (e ∷ events) = (middle : ℕ) × HasCause before middle w e × AreCaused middle after (after_event w e) events

-- The count after the last event is that of the end; but where memory ran out the disk may have failed in a step that has no event.
abbrev pub IsLastCount : ServeEnd → ℕ → ℕ → Type 0
IsLastCount Turns last after = last ≡ after
IsLastCount WorldFailed last after = last ≡ after
IsLastCount NoMemory last after = last ≤ after

-- a sending failed
abbrev pub is_unsent : WorldEntry → Bool
is_unsent (Unsent c) = true
is_unsent _ = false

-- how many sendings failed
abbrev pub count_unsent : List WorldEntry → ℕ
count_unsent entries = count_by is_unsent entries

-- the log that a session leaves, once the flushes that are under way have failed, as a restart has it
abbrev pub left_log : RunState → List LogEntry
left_log w = failed_entries (map (λ (flush : Flushing). flush.number) w.flushes) ++ w.log

-- The disk tells its files, which hold the log of the state, and the log that a session leaves, closed; and where the former is legal, so is the
-- latter. So a session may go on with it.
pub record HoldsWhatIsLeft (told : Option Files) (w : RunState) : Type 0 where
  pub files : Files
  pub told_is : told ≡ Some files
  pub held : Holds w.farm files w.log
  pub holds : HoldsClosed w.farm files (left_log w)
  pub legal : IsLegal w.farm w.log → IsLegal w.farm (left_log w)

-- they hold it at each end but want of memory
abbrev pub HoldsAtEnd : ServeEnd → Option Files → RunState → Type 0
HoldsAtEnd Turns told w = HoldsWhatIsLeft told w
HoldsAtEnd WorldFailed told w = HoldsWhatIsLeft told w
HoldsAtEnd NoMemory told w = Unit {0}

-- A run goes on from this state by the events of whole turns, and by those of one that memory cut; the world's log has what came and what was
-- handed on; as many sendings failed as the log has at most; and the files hold the log of the cache.
pub record IsServed (w : RunState) (limit : ℕ) (end : ServeEnd) (disk : DiskReport) (world : WorldReport) : Type 0 where
  pub turns : List ServedTurn
  pub cut : Option ServedTurn
  pub run : Run w (turn_events (with_cut turns cut))
  pub whole : AreWholeTurns w turns
  pub cut_is : IsCutTurn (state_after_events w (turn_events turns)) cut
  pub may_cut : MayCut end cut
  pub count : IsTurnCount end limit (length turns)
  pub told : world.new ≡ told_more world.old (turn_entries (with_cut turns cut))
  pub unsents : HasRisenBy (count_unsent (turn_entries (with_cut turns cut))) world.send_old world.send_new
  pub last : ℕ
  pub caused : AreCaused disk.faults_old last w (turn_events (with_cut turns cut))
  pub last_is : IsLastCount end last disk.faults_new
  pub held : HoldsAtEnd end disk.new (state_after_events w (turn_events turns))

-- the connections that are there are open in the world
abbrev pub HasOpenConnections : Option (List WorldEntry) → RunState → Type 0
HasOpenConnections told w = IfSome told (λ log. (c : ConnectionId) → IsSome (w.connection c) → is_connected log c ≡ true)

-- As at the beginning of a turn: nothing is in the air and nothing is due, and the connections are open.
pub record IsServerAtRest (w : RunState) (told : Option (List WorldEntry)) : Type 0 where
  pub flights : w.flights ≡ []
  pub nothing_due : HasNothingDue w
  pub connections : HasOpenConnections told w

-- The disk tells its files, which hold the log that a session leaves after this state, closed, and that log is legal.
pub record LeavesLegalLog (farm : Farm) (told : Option Files) (w : RunState) : Type 0 where
  pub files : Files
  pub told_is : told ≡ Some files
  pub holds : HoldsClosed farm files (left_log w)
  pub legal : IsLegal farm (left_log w)

-- Over a publisher, a disk and a world so many turns are served, which end so: with each state that the front stood for, between two turns.
abbrev pub Lasts : {R D W : Type 0} → Publishing → (R → Content) → (D → Option Files) → (D → ℕ) → (W → Option (List WorldEntry)) → (W → ℕ) → (W → ℕ) → ℕ → ServeEnd → Front R → D → W → D → W → Type 0
Lasts publishing content files faults log next_faults send_faults turns end front before said after says = (w : RunState)
    → FrontStandsFor publishing (content front.renderer) (at_disk front.board (files before) (faults before)) w → IsServerAtRest w (log said)
    → IsServed w turns end (disk_over files faults before after) (world_over log next_faults send_faults said says)

-- the world's log tells the turns: each happening that came to it has one, in their order, and there is no other
abbrev pub HappeningsHaveTurns : Type 0
HappeningsHaveTurns = (w : RunState) (limit : ℕ) (end : ServeEnd) (disk : DiskReport) (world : WorldReport) (s : IsServed w limit end disk world)
    → happenings_of (turn_entries (with_cut s.turns s.cut)) ≡ map (λ (turn : ServedTurn). turn.news) (with_cut s.turns s.cut)
