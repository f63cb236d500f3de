-- What a front keeps of its connections, before what is behind them. (Of the theorem's reader this file is no concern.)
use Rattle.std.specs.Prelude.{◌≡◌, ◌≢◌, ◌<◌, ◌-◌, ℕ, Bool, true, false, if◌then◌else◌, List, [], ◌∷◌, Option, Some, None, IsTrue, ◌==◌}
use Rattle.std.specs.BTreeMap.{BTreeMap, get, btree_map_len}
use Rattle.std.specs.Ordering.{nat_cmp}
use Rattle.std.specs.Option.{option_map}
use Rattle.sp_base.specs.Limits.{greatest_u64}
use Rattle.sp_base.specs.Requests.{Request}
use Rattle.sp_outside.specs.Files.{Files}
use Rattle.http_front.specs.Turns.{End}
use Rattle.http_front.specs.declared.fault.InFault.{InFault}
use Rattle.http_front.specs.declared.turn.Turn.{Turn}
use Rattle.http_front.specs.declared.turn.Turn.TheVariants.{Whole}
use Rattle.connections.specs.Connections.{Connection, Close, Nothing, Refuse, Treat, due_without_sending, is_crowded}
use Rattle.connections.specs.Connections as model
use Rattle.connections.specs.Ids.{ConnectionId}
use Rattle.connections.specs.declared.awaited.Awaited.{Awaited}
use Rattle.connections.specs.declared.place.Reply.{Reply}
use Rattle.connections.specs.Slots.{Response}
use Rattle.run_events.specs.declared.conditions.Conditions.{Conditions}
use Rattle.run_events.specs.declared.note.Note.{Note}
use Rattle.run_events.specs.declared.step.Step.{Step}
use Rattle.run_events.specs.Causes.{ShowsIfOutOfMemory, SpoilAtMost}
use Rattle.run_events.specs.Events.{Event, HappensBy, after_event, state_before_notes}
use Rattle.run_events.specs.Moves.{Serves, Settles, state_after_note, state_after_notes, due_of_connection}
use Rattle.run_events.specs.States.{RunState}
use Rattle.front.specs.declared.answered.Ended.{Ended as EndedAs}
use Rattle.front.specs.declared.board.Board.{Board}
use Rattle.front.specs.declared.connection.Connection.{Connection as KeptConnection}
use Rattle.front.specs.declared.serve.Served.{Served}
use Rattle.front.specs.declared.serve.Served.TheVariants.{Said, Begun, Quiet, Ended}
use Rattle.front.specs.declared.treat.Treated.{Treated}
use Rattle.front.specs.declared.effect.Effect.{Effect}
use Rattle.front.specs.Caches.{Allows, Behind, BehindStandsFor, GivesIn, HasNoteCause, IsEnding, IsSlicing, behind, CacheParts, RepliesFor, under_nothing, with_end_if}
use Rattle.front.specs.KeptConnections.{AnswersStandFor, ConnectionStandsFor, Owes, ConnectionReads}
use Rattle.front.specs.declared.serve.AllServed.{AllServed}
use Rattle.sp_outside.specs.Causes.{IsDiskFailure}

-- ---- connections

-- what is kept stands for the connection, or neither is there
abbrev pub EntryStandsFor : Option KeptConnection → Option Connection → Type 0
EntryStandsFor None None = Unit {0}
EntryStandsFor (Some k) (Some c) = ConnectionStandsFor k c
EntryStandsFor _ _ = ⊥

-- each connection is kept, and no other
pub record ConnectionsStandFor (open_connections : BTreeMap ConnectionId KeptConnection) (w : RunState) : Type 0 where
  pub each : (c : ConnectionId) → EntryStandsFor (get nat_cmp open_connections c) (w.connection c)
  pub count : btree_map_len open_connections ≡ w.connection_count

-- a board before its disk
pub record BoardAt : Type 0 where
  pub board : Board
  pub files : Option Files
  pub faults : ℕ

abbrev pub at_disk : Board → Option Files → ℕ → BoardAt
at_disk board files faults = record { board = board; files = files; faults = faults }

-- what is behind its connections
abbrev pub behind_board : BoardAt → Behind
behind_board b = behind b.board.cache b.files b.faults

-- the board and its disk are what is left of the state, in which no slice is due
pub record BoardStandsFor (b : BoardAt) (w : RunState) : Type 0 where
  pub open_connections : ConnectionsStandFor b.board.open_connections w
  pub behind_is : BehindStandsFor (behind_board b) w
  pub slicing_is : w.slicing ≡ None

-- ---- one connection before what is behind it

-- the connection is there, kept so, before this; and no slice is due
pub record OpenStandsFor (w : RunState) (c : ConnectionId) (k : KeptConnection) (b : Behind) : Type 0 where
  pub connection : Connection
  pub open_is : w.connection c ≡ Some connection
  pub holds : ConnectionStandsFor k connection
  pub behind_is : BehindStandsFor b w
  pub slicing_is : w.slicing ≡ None

-- the same, but that the first slice of a flush is due if there is one, which the connection waits for
pub record OpenAfterNote (slices : Bool) (w : RunState) (c : ConnectionId) (k : KeptConnection) (b : Behind) : Type 0 where
  pub connection : Connection
  pub open_is : w.connection c ≡ Some connection
  pub holds : ConnectionStandsFor k connection
  pub behind_is : BehindStandsFor b w
  pub slicing_is : IsSlicing slices c w

-- the same where nothing of the connection can be sent
pub record OpenWithoutSending (w : RunState) (c : ConnectionId) (k : KeptConnection) (b : Behind) : Type 0 where
  pub meets : OpenStandsFor w c k b
  pub without_sending : model.due meets.connection ≡ due_without_sending meets.connection

-- a slot is owed for a request that was taken
pub record OwesRequest (w : RunState) (c : ConnectionId) (k : KeptConnection) (b : Behind) (request : Request) : Type 0 where
  pub connection : Connection
  pub open_is : w.connection c ≡ Some connection
  pub due_is : model.due connection ≡ Treat (Whole request)
  pub owes : Owes k connection
  pub behind_is : BehindStandsFor b w
  pub slicing_is : w.slicing ≡ None

-- a slot is owed for a fault that was taken
pub record OwesFault (w : RunState) (c : ConnectionId) (k : KeptConnection) (b : Behind) (fault : InFault) : Type 0 where
  pub connection : Connection
  pub open_is : w.connection c ≡ Some connection
  pub due_is : model.due connection ≡ Refuse fault
  pub answers : AnswersStandFor k connection
  pub behind_is : BehindStandsFor b w
  pub slicing_is : w.slicing ≡ None

-- a request that was taken was treated so
pub record TreatedAs (treated : Treated) (w : RunState) (c : ConnectionId) (k : KeptConnection) (old new : Behind) : Type 0 where
  pub gives : GivesIn treated.conditions w c treated.note
  pub cause : HasNoteCause old.faults new.faults treated.conditions w treated.note
  pub meets : OpenAfterNote treated.slices (state_after_note w treated.note) c k new

-- one note was given, or none is owed, or the connection's end is
abbrev pub ServedAs : Served → RunState → ConnectionId → KeptConnection → Behind → Behind → Type 0
ServedAs (Said note under) w c k old new = GivesIn under w c note × HasNoteCause old.faults new.faults under w note × OpenAfterNote false (state_after_note w note) c k new
ServedAs (Begun note under) w c k old new = GivesIn under w c note × HasNoteCause old.faults new.faults under w note × OpenAfterNote true (state_after_note w note) c k new
ServedAs Quiet w c k old new = (due_of_connection w c ≡ Nothing) × (new ≡ old) × OpenStandsFor w c k new
ServedAs Ended w c k old new = (due_of_connection w c ≡ Close) × (new ≡ old) × OpenStandsFor w c k new

-- less is owed after it, where a note was given
abbrev pub IsLess : Served → ℕ → ℕ → Type 0
IsLess (Said note under) left before = left < before
IsLess (Begun note under) left before = left < before
IsLess Quiet left before = Unit {0}
IsLess Ended left before = Unit {0}

-- What notes show of what they ran under, while the disk's count of faults was this one and then that.
pub record HaveCause (before after : ℕ) (under : Conditions) (w : RunState) (notes : List Note) : Type 0 where
  pub disk : IsDiskFailure before after under.disk_failed
  pub spoils : after < greatest_u64 → SpoilAtMost (after - before) w notes
  pub shows : ShowsIfOutOfMemory w under notes

-- these notes were given
pub record NotesGiven (under : Conditions) (notes : List Note) (w : RunState) (c : ConnectionId) (k : KeptConnection) (old new : Behind) : Type 0 where
  pub serves : (m : Conditions) → Allows under m → Serves m w c notes
  pub cause : HaveCause old.faults new.faults under w notes
  pub meets : OpenStandsFor (state_after_notes w notes) c k new

-- the end is owed, or nothing
abbrev pub end_or_nothing : Bool → model.Due
end_or_nothing over = if over then Close else Nothing

-- all that is owed was given, but for the end
pub record AllGiven (effect : Effect) (over : Bool) (w : RunState) (c : ConnectionId) (k : KeptConnection) (old new : Behind) : Type 0 where
  pub given : NotesGiven effect.conditions effect.notes.items w c k old new
  pub then_due : due_of_connection (state_after_notes w effect.notes.items) c ≡ end_or_nothing over

-- the notes gave all that was owed
pub record SettlesIn (under : Conditions) (w : RunState) (c : ConnectionId) (notes : List Note) (before after : ℕ) : Type 0 where
  pub settles : (m : Conditions) → Allows under m → Settles m w c notes
  pub cause : HaveCause before after under w notes

-- ---- whole events

-- the event of a step with these notes
abbrev pub event_of : Step → Effect → List Turn → End → Event
event_of step effect turns ends = record { step = step; body = effect.notes.items; conditions = effect.conditions; turns = turns; ends = ends }

-- what was brought about is an event of this step
pub record IsEventOf (Stands : RunState → Type 0) (w : RunState) (step : Step) (effect : Effect) (before after : ℕ) : Type 0 where
  pub turns : List Turn
  pub ends : End
  pub happens : HappensBy w (event_of step effect turns ends) step
  pub cause : HaveCause before after effect.conditions (state_before_notes w (event_of step effect turns ends) step) effect.notes.items
  pub stands : Stands (after_event w (event_of step effect turns ends))

-- what was brought about is an event of this step, of each state that the board stood for
abbrev pub BoardMakesEvent : BoardAt → BoardAt → Step → Effect → Type 0
BoardMakesEvent old new step effect = (w : RunState) → BoardStandsFor old w → IsEventOf (BoardStandsFor new) w step effect old.faults new.faults

-- the connection with this number has read the bytes, and the others are as before
pub record ReadAt (old new : Board) (c : ConnectionId) (bytes : List ℕ) : Type 0 where
  pub before : KeptConnection
  pub after : KeptConnection
  pub before_is : get nat_cmp old.open_connections c ≡ Some before
  pub after_is : get nat_cmp new.open_connections c ≡ Some after
  pub others : (q : ConnectionId) → q ≢ c → get nat_cmp new.open_connections q ≡ get nat_cmp old.open_connections q
  pub count : btree_map_len new.open_connections ≡ btree_map_len old.open_connections
  pub cache : new.cache ≡ old.cache
  pub reads : (connection : Connection) → ConnectionStandsFor before connection → ConnectionReads bytes connection after

-- Something ended, or a slice left more to do: the cache is as it is after its note, and the connections don't have the response yet.
pub record HasEnded (b : BoardAt) (w : RunState) (ended : EndedAs) (before : ℕ) : Type 0 where
  pub open_connections : ConnectionsStandFor b.board.open_connections w
  pub ending : IsEnding w ended before (behind_board b)

-- after the first note the connection was given all that it is owed
pub record FirstThen (ended : EndedAs) (w : RunState) (effect : Effect) (before : ℕ) (b : BoardAt) : Type 0 where
  pub rest : List Note
  pub begins : effect.notes.items ≡ ended.note ∷ rest
  pub settles : (m : Conditions) → Allows effect.conditions m → Settles m (state_after_note w ended.note) ended.connection rest
  pub first : Allows ended.conditions effect.conditions
  pub cause : HaveCause before b.faults effect.conditions w effect.notes.items
  pub board_is : BoardStandsFor b (state_after_notes w effect.notes.items)

-- ---- before and after a call, over a disk of which this says what it tells of its files, and that how often it failed

-- the board made an event of this step
abbrev pub BoardSteps : {D : Type 0} → (D → Option Files) → (D → ℕ) → Step → Board → D → Board → D → Effect → Type 0
BoardSteps files faults step old before new after effect = BoardMakesEvent (at_disk old (files before) (faults before)) (at_disk new (files after) (faults after)) step effect

-- the same of a step that leaves the disk alone: whatever this tells
abbrev pub BoardStepsAlone : Step → Board → Board → Effect → Type 0
BoardStepsAlone step old new effect = (files : Option Files) (faults : ℕ) → BoardMakesEvent (at_disk old files faults) (at_disk new files faults) step effect

-- the board gave this connection all that it is owed, in each state that it stood for
abbrev pub SettlesConnection : {D : Type 0} → (D → Option Files) → (D → ℕ) → ConnectionId → Board → D → Board → D → Effect → Type 0
SettlesConnection files faults c old before new after effect =
    (w : RunState) → BoardStandsFor (at_disk old (files before) (faults before)) w → SettlesIn effect.conditions w c effect.notes.items (faults before) (faults after) × BoardStandsFor (at_disk new (files after) (faults after)) (state_after_notes w effect.notes.items)

-- the board gave the connection that waits for what ended its response, and then all that it is owed
abbrev pub FinishesEnded : {D : Type 0} → (D → Option Files) → (D → ℕ) → EndedAs → Board → D → Board → D → Effect → Type 0
FinishesEnded files faults ended old before new after effect =
    (w : RunState) (count : ℕ) → HasEnded (at_disk old (files before) (faults before)) w ended count → FirstThen ended w effect count (at_disk new (files after) (faults after))

-- this connection has the response in the slot that waits for it, if there are both, and the others are as before
abbrev pub FillsConnection : ConnectionId → Awaited → Option Reply → Board → Board → Type 0
FillsConnection c awaited reply old new =
    (q : ℕ) (o : Option Connection) (response : Option Response) → RepliesFor reply response → EntryStandsFor (get nat_cmp old.open_connections q) o → EntryStandsFor (get nat_cmp new.open_connections q) (if q == c then option_map (with_end_if awaited response) o else o)

-- a connection that was stood for is given the next thing that it is owed
abbrev pub ServesNext : {D : Type 0} → (D → Option Files) → (D → ℕ) → ConnectionId → KeptConnection → CacheParts → D → KeptConnection → CacheParts → D → Served → Type 0
ServesNext files faults c old cache before new next after served =
    (w : RunState) → OpenStandsFor w c old (behind cache (files before) (faults before)) → ServedAs served w c new (behind cache (files before) (faults before)) (behind next (files after) (faults after))

-- the same where nothing of it can be sent
abbrev pub ServesTurn : {D : Type 0} → (D → Option Files) → (D → ℕ) → ConnectionId → KeptConnection → CacheParts → D → KeptConnection → CacheParts → D → Served → Type 0
ServesTurn files faults c old cache before new next after served =
    (w : RunState) → OpenWithoutSending w c old (behind cache (files before) (faults before)) → ServedAs served w c new (behind cache (files before) (faults before)) (behind next (files after) (faults after))

-- it is given all that it is owed
abbrev pub ServesAll : {D : Type 0} → (D → Option Files) → (D → ℕ) → ConnectionId → KeptConnection → CacheParts → D → KeptConnection → CacheParts → D → AllServed → Type 0
ServesAll files faults c old cache before new next after all =
    (w : RunState) → OpenStandsFor w c old (behind cache (files before) (faults before)) → AllGiven all.effect all.over w c new (behind cache (files before) (faults before)) (behind next (files after) (faults after))

-- the request that was taken of it is treated
abbrev pub TreatsRequest : {D : Type 0} → (D → Option Files) → (D → ℕ) → ConnectionId → Request → KeptConnection → CacheParts → D → KeptConnection → CacheParts → D → Treated → Type 0
TreatsRequest files faults c request old cache before new next after treated =
    (w : RunState) → OwesRequest w c old (behind cache (files before) (faults before)) request → TreatedAs treated w c new (behind cache (files before) (faults before)) (behind next (files after) (faults after))

-- the request that was taken of a crowded connection is turned away, whatever is behind it
abbrev pub TurnsAway : ConnectionId → Request → KeptConnection → KeptConnection → Treated → Type 0
TurnsAway c request old new treated = (w : RunState) (b : Behind) (owes : OwesRequest w c old b request) → IsTrue (is_crowded owes.connection) → TreatedAs treated w c new b b

-- the fault that was taken of it is answered, whatever is behind it
abbrev pub RefusesFault : ConnectionId → InFault → KeptConnection → KeptConnection → Note → Type 0
RefusesFault c fault old new note =
    (w : RunState) (b : Behind) → OwesFault w c old b fault → GivesIn under_nothing w c note × HasNoteCause b.faults b.faults under_nothing w note × OpenAfterNote false (state_after_note w note) c new b
