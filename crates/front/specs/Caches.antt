-- What stands behind the connections: the cache, with the flights in the air and the unfinished flushes, and its disk. (Of the theorem's
-- reader this file is no concern.)
use Rattle.std.specs.Prelude.{◌≡◌, ◌<◌, ◌≤◌, ◌==◌, ◌||◌, ℕ, Bool, true, false, if◌then◌else◌, nat_eq, List, [], ◌∷◌, Option, Some, None, IfSome, IsTrue, drop, map, slice_get, slice_set}
use Rattle.std.specs.Option.{option_map}
use Rattle.sp_base.specs.MediaTypes.{is_kind}
use Rattle.sp_base.specs.declared.answer.Answer.{Answer}
use Rattle.sp_base.specs.Requests.{Request}
use Rattle.sp_outside.specs.Files.{Files}
use Rattle.any_config.specs.declared.farm.Farm.{Farm}
use Rattle.cover_rules.specs.declared.page.PageKey.{PageKey}
use Rattle.dispatch_rules.specs.Caching.{cache_key}
use Rattle.flights.specs.Flights.{numbers_of}
use Rattle.http_front.specs.declared.turn.Turn.TheVariants.{Whole}
use Rattle.cache_log.specs.Entries.{flights_asked, flushes_begun}
use Rattle.cache_ids.specs.Ids.{FlightId, FlushId}
use Rattle.coherence_core.specs.Cores.{FlightsRise, CoreStandsFor, core_farm, flight_labels, flights_of, flushes_of}
use Rattle.coherence_core.specs.declared.core_state.Core.{Core}
use Rattle.connections.specs.AnswerQueues.{ReplyStandsFor}
use Rattle.connections.specs.Connections.{Connection, Treat, due, is_crowded, with_end}
use Rattle.connections.specs.Ids.{ConnectionId}
use Rattle.connections.specs.Slots.{Response, request_slot}
use Rattle.connections.specs.declared.awaited.Awaited.{Awaited}
use Rattle.connections.specs.declared.awaited.Awaited.TheVariants.{Flight as flight_awaited, Flush as flush_awaited}
use Rattle.coherence_core.specs.declared.answers.Landed.{Landed as LandedAs}
use Rattle.coherence_core.specs.declared.answers.Landed.TheVariants as landed
use Rattle.coherence_core.specs.declared.answers.Purged.{Purged}
use Rattle.coherence_core.specs.declared.answers.Purged.TheVariants as purged
use Rattle.connections.specs.declared.place.Reply.{Reply}
use Rattle.connections.specs.declared.place.Reply.TheVariants.{Fixed, Own, Says}
use Rattle.http_front.specs.Faults.{insufficient_storage}
use Rattle.run_events.specs.declared.conditions.Conditions.{Conditions}
use Rattle.run_events.specs.declared.flying.Flying.{Flying}
use Rattle.run_events.specs.declared.flying.Flushing.{Flushing}
use Rattle.run_events.specs.declared.note.Note.{Note}
use Rattle.run_events.specs.declared.note.Failure.TheVariants.{Disk, NoMemory}
use Rattle.run_events.specs.declared.note.Note.TheVariants.{Done, Failed, Kept, Lost, Passed, Sliced, Unkept, Local}
use Rattle.run_events.specs.declared.step.Pick.{Pick}
use Rattle.run_events.specs.Causes.{ShowsOutOfMemory, Spoils}
use Rattle.run_events.specs.Events.{MayLand, is_any, is_rendered, picked_flight}
use Rattle.run_events.specs.Moves.{GivesNext, GivesSlice, state_after_note, with_turn_slot, with_rendered}
use Rattle.run_events.specs.States.{AirRises, RunState}
use Rattle.run_events.specs.declared.step.Pick.TheVariants.{First}
use Rattle.front.specs.declared.answered.Answered.{Answered}
use Rattle.front.specs.declared.answered.Ended.{Ended}
use Rattle.front.specs.declared.ticketed.TicketedFlight.{TicketedFlight}
use Rattle.sp_outside.specs.Causes.{IsDiskFailure}

-- ---- a cache and its tickets

-- a cache: its core, the flights in the air, and the unfinished flushes, each with the connection that waits
pub record CacheParts : Type 0 where
  pub core : Core
  pub flying : List Flying
  pub flushes : List Flushing

-- the flights without their tickets
abbrev pub flying_of : List TicketedFlight → List Flying
flying_of flights = map (λ (flight : TicketedFlight). flight.flying) flights

-- their tickets, by number
abbrev pub tickets_of : List TicketedFlight → List FlightId
tickets_of flights = map (λ (flight : TicketedFlight). flight.ticket) flights

-- each answer that was rendered has a media type
abbrev pub HaveKinds : List Flying → Type 0
HaveKinds [] = Unit {0}
HaveKinds (flying ∷ flights) = IfSome flying.rendered (λ answer. IsTrue (is_kind answer.kind)) × HaveKinds flights

-- each flight has its ticket, in the order in which the core has them, in which their numbers rise
pub record AreTicketed (core : Core) (flights : List TicketedFlight) : Type 0 where
  pub tickets : tickets_of flights ≡ numbers_of (flights_of core)
  pub rising : FlightsRise core
  pub kinds : HaveKinds (flying_of flights)

-- ---- what is behind the connections

-- the cache; and of its disk the files that it tells, and how often it failed
pub record Behind : Type 0 where
  pub cache : CacheParts
  pub files : Option Files
  pub faults : ℕ

abbrev pub behind : CacheParts → Option Files → ℕ → Behind
behind cache files faults = record { cache = cache; files = files; faults = faults }

-- the numbers of the flights in the air, with the pages that their requests are for
abbrev pub flying_labels : Farm → List Flying → List (FlightId × Option PageKey)
flying_labels farm flights = map (λ (flying : Flying). (flying.number, cache_key farm flying.request)) flights

-- the numbers of the flushes
abbrev pub flushing_numbers : List Flushing → List FlushId
flushing_numbers flushes = map (λ (flush : Flushing). flush.number) flushes

-- the numbers of the flushes rise, all above the one and none above the other
abbrev pub AreFlushesRising : FlushId → List Flushing → FlushId → Type 0
AreFlushesRising least [] most = least ≤ most
AreFlushesRising least (flush ∷ flushes) most = (least < flush.number) × AreFlushesRising flush.number flushes most

-- The cache and the files stand for the log, and the cache has the flights and the flushes of the state.
pub record BehindStandsFor (b : Behind) (w : RunState) : Type 0 where
  pub core_is : CoreStandsFor w.found b.files b.cache.core w.log
  pub farm_is : w.farm ≡ core_farm b.cache.core
  pub flying_is : b.cache.flying ≡ w.flights
  pub rising : AirRises 0 b.cache.flying (flights_asked w.log)
  pub flights_are : flight_labels (flights_of b.cache.core) ≡ flying_labels w.farm b.cache.flying
  pub flushing_is : b.cache.flushes ≡ w.flushes
  pub flushes_are : flushes_of b.cache.core ≡ flushing_numbers b.cache.flushes
  pub flushes_rise : AreFlushesRising 0 b.cache.flushes (flushes_begun w.log)

-- ---- one note

-- these conditions hold in an event under those
pub record Allows (under m : Conditions) : Type 0 where
  pub disk_failed : IsTrue under.disk_failed → IsTrue m.disk_failed
  pub out_of_memory : IsTrue under.out_of_memory → IsTrue m.out_of_memory

-- nothing failed
abbrev pub under_nothing : Conditions
under_nothing = record { disk_failed = false; out_of_memory = false }

-- memory sufficed, and the disk failed where it says so
abbrev pub only_disk : Bool → Conditions
only_disk disk_failed = record { disk_failed = disk_failed; out_of_memory = false }

-- what failed under the one or the other
abbrev pub under_both : Conditions → Conditions → Conditions
under_both a b = record { disk_failed = a.disk_failed || b.disk_failed; out_of_memory = a.out_of_memory || b.out_of_memory }

-- The note shows what its call ran under: the disk failed in it exactly where it says so, it spoils something only there, and where memory
-- ran out it shows that.
pub record HasNoteCause (before after : ℕ) (under : Conditions) (w : RunState) (note : Note) : Type 0 where
  pub disk : IsDiskFailure before after under.disk_failed
  pub spoils : Spoils w note → IsTrue under.disk_failed
  pub shows : IsTrue under.out_of_memory → ShowsOutOfMemory w note

-- in an event under these conditions the note gives what is due next
abbrev pub GivesIn : Conditions → RunState → ConnectionId → Note → Type 0
GivesIn under w c note = (m : Conditions) → Allows under m → GivesNext m w c w.slicing note

-- ---- what the calls of a cache come to

-- the reply that stands for a local response
abbrev pub local_reply : ℕ → Reply
local_reply status = if status == insufficient_storage then Fixed else Own status

-- the first slice of a flush is due, which the connection waits for, and no other is unfinished; or no slice is
abbrev pub IsSlicing : Bool → ConnectionId → RunState → Type 0
IsSlicing false c w = w.slicing ≡ None
IsSlicing true c w = (flush : FlushId) × (w.slicing ≡ Some flush) × (w.flushes ≡ record { number = flush; connection = c } ∷ [])

-- a request of the connection comes to the cache, from this peer: it is due, and the connection isn't crowded
pub record AsksCache (w : RunState) (c : ConnectionId) (request : Request) (peer : List ℕ) (b : Behind) : Type 0 where
  pub connection : Connection
  pub open_is : w.connection c ≡ Some connection
  pub due_is : due connection ≡ Treat (Whole request)
  pub room : is_crowded connection ≡ false
  pub peer_is : peer ≡ connection.peer
  pub behind_is : BehindStandsFor b w
  pub slicing_is : w.slicing ≡ None

-- the request is answered so
pub record IsAnswered (w : RunState) (c : ConnectionId) (request : Request) (answered : Answered) (old new : Behind) : Type 0 where
  pub gives : GivesIn answered.conditions w c answered.note
  pub cause : HasNoteCause old.faults new.faults answered.conditions w answered.note
  pub behind_is : BehindStandsFor new (state_after_note w answered.note)
  pub slicing_is : IsSlicing answered.slices c (state_after_note w answered.note)
  pub response : Response
  pub replies : ReplyStandsFor answered.reply response
  pub connection_is : (connection : Connection) → w.connection c ≡ Some connection → (state_after_note w answered.note).connection c ≡ Some (with_turn_slot (request_slot request answered.closes response) connection)

-- the reply stands for the response, or there is neither
abbrev pub RepliesFor : Option Reply → Option Response → Type 0
RepliesFor None None = Unit {0}
RepliesFor (Some reply) (Some response) = ReplyStandsFor reply response
RepliesFor _ _ = ⊥

-- the connection whose slot that waits for this has the response, if there is one
abbrev pub with_end_if : Awaited → Option Response → Connection → Connection
with_end_if what None connection = connection
with_end_if what (Some response) connection = with_end what response connection

-- A flight landed or was lost, or a flush had a slice: the connection that waits for it has its response.
pub record IsEnding (w : RunState) (ended : Ended) (before : ℕ) (new : Behind) : Type 0 where
  pub cause : HasNoteCause before new.faults ended.conditions w ended.note
  pub behind_is : BehindStandsFor new (state_after_note w ended.note)
  pub slicing_is : (state_after_note w ended.note).slicing ≡ None
  pub response : Option Response
  pub replies : RepliesFor ended.reply response
  pub connection_is : (q : ConnectionId) → (state_after_note w ended.note).connection q ≡ (if nat_eq q ended.connection then option_map (with_end_if ended.awaited response) (w.connection q) else w.connection q)
  pub count_is : (state_after_note w ended.note).connection_count ≡ w.connection_count

-- what ended for a flight that this connection waits for
abbrev pub flight_end : FlightId → ConnectionId → Reply → Conditions → Note → Ended
flight_end number c reply under note = record { note = note; conditions = under; connection = c; awaited = flight_awaited number; reply = Some reply }

-- what the landing of a flight comes to
abbrev pub landing_end_of : FlightId → ConnectionId → Answer → LandedAs → Ended
landing_end_of number c answer (landed.Kept key) = flight_end number c (Says answer) (only_disk false) (Kept number key)
landing_end_of number c answer landed.Passed = flight_end number c (Says answer) (only_disk false) (Passed number)
landing_end_of number c answer landed.DiskFailed = flight_end number c (Says answer) (only_disk true) (Unkept number)
landing_end_of number c answer landed.NoMemory = flight_end number c (Says answer) (record { disk_failed = false; out_of_memory = true }) (Unkept number)

-- what a slice of a flush that this connection waits for comes to
abbrev pub flush_end : Flushing → Option Reply → Conditions → Note → Option Ended
flush_end flush reply under note = Some (record { note = note; conditions = under; connection = flush.connection; awaited = flush_awaited flush.number; reply = reply })

abbrev pub slice_end_of : Flushing → Purged → Option Ended
slice_end_of flush purged.Idle = None
slice_end_of flush (purged.More number) = flush_end flush None (only_disk false) (Sliced flush.number)
slice_end_of flush (purged.Done number) = flush_end flush (Some (Own 200)) (only_disk false) (Done flush.number)
slice_end_of flush (purged.Failed number) = flush_end flush (Some (Own 500)) (only_disk true) (Failed flush.number Disk)
slice_end_of flush (purged.NoMemory number) = flush_end flush (Some (Own insufficient_storage)) (record { disk_failed = false; out_of_memory = true }) (Failed flush.number NoMemory)

-- the slice ended its flush
abbrev pub is_ending : Purged → Bool
is_ending purged.Idle = false
is_ending (purged.More number) = false
is_ending _ = true

-- the flushes that are unfinished after a slice of the oldest
abbrev pub left_after : Purged → List Flushing → List Flushing
left_after purged flushes = if is_ending purged then drop 1 flushes else flushes

-- the flight that is asked for lands
pub record IsDelivery (w : RunState) (pick : Pick) (ended : Ended) (old new : Behind) : Type 0 where
  pub flying : Flying
  pub answer : Answer
  pub picked : picked_flight pick is_rendered w.flights ≡ Some flying
  pub rendered : flying.rendered ≡ Some answer
  pub waits : ended.connection ≡ flying.connection
  pub lands : (m : Conditions) → Allows ended.conditions m → MayLand w m flying answer ended.note
  pub ending : IsEnding w ended old.faults new

-- the flight that is asked for is lost
pub record IsLoss (w : RunState) (pick : Pick) (ended : Ended) (old new : Behind) : Type 0 where
  pub flying : Flying
  pub picked : picked_flight pick is_any w.flights ≡ Some flying
  pub waits : ended.connection ≡ flying.connection
  pub note_is : ended.note ≡ Lost flying.number
  pub ending : IsEnding w ended old.faults new

-- the oldest flush had a slice
pub record IsPurging (w : RunState) (ended : Ended) (old new : Behind) : Type 0 where
  pub flush : Flushing
  pub later : List Flushing
  pub flushes_are : w.flushes ≡ flush ∷ later
  pub waits : ended.connection ≡ flush.connection
  pub gives : (m : Conditions) → Allows ended.conditions m → GivesSlice m flush.number ended.note
  pub ending : IsEnding w ended old.faults new

-- ---- before and after a call, over a disk of which this says what it tells of its files, and that how often it failed

-- the request of the connection is answered so, in each state in which it comes to the cache
abbrev pub AnswersRequest : {D : Type 0} → (D → Option Files) → (D → ℕ) → ConnectionId → Request → List ℕ → CacheParts → D → CacheParts → D → Answered → Type 0
AnswersRequest files faults c request peer old before new after answered =
    (w : RunState) → AsksCache w c request peer (behind old (files before) (faults before)) → IsAnswered w c request answered (behind old (files before) (faults before)) (behind new (files after) (faults after))

-- a request is answered by the front itself, with this status
abbrev pub answered_locally : ConnectionId → ℕ → Bool → Conditions → Answered
answered_locally c status closes conditions = record { note = Local c status; reply = local_reply status; closes = closes; slices = false; conditions = conditions }

-- the rendered flight that is asked for landed so, in each state that was stood for in which no slice is due
abbrev pub DeliversPicked : {D : Type 0} → (D → Option Files) → (D → ℕ) → Pick → CacheParts → D → CacheParts → D → Ended → Type 0
DeliversPicked files faults pick old before new after ended =
    (w : RunState) → BehindStandsFor (behind old (files before) (faults before)) w → w.slicing ≡ None → IsDelivery w pick ended (behind old (files before) (faults before)) (behind new (files after) (faults after))

-- the flight that is asked for was lost so, in each such state, whatever the disk
abbrev pub LosesPicked : Pick → CacheParts → CacheParts → Ended → Type 0
LosesPicked pick old new ended = (files : Option Files) (faults : ℕ) (w : RunState) → BehindStandsFor (behind old files faults) w → w.slicing ≡ None → IsLoss w pick ended (behind old files faults) (behind new files faults)

-- where the first is asked for, it is the first flight that was lost
abbrev pub LosesFirst : Pick → CacheParts → CacheParts → Ended → Type 0
LosesFirst pick old new ended = pick ≡ First → (flying : Flying) × (old.flying ≡ flying ∷ new.flying) × (ended.note ≡ Lost flying.number)

-- the oldest flush had a slice, in each state that was stood for
abbrev pub SlicesOldest : {D : Type 0} → (D → Option Files) → (D → ℕ) → CacheParts → D → CacheParts → D → Ended → Type 0
SlicesOldest files faults old before new after ended =
    (w : RunState) → BehindStandsFor (behind old (files before) (faults before)) w → IsPurging w ended (behind old (files before) (faults before)) (behind new (files after) (faults after))

-- no flush is unfinished in any such state, which is stood for still
abbrev pub HasNoFlush : {D : Type 0} → (D → Option Files) → (D → ℕ) → CacheParts → D → CacheParts → D → Type 0
HasNoFlush files faults old before new after =
    (w : RunState) → BehindStandsFor (behind old (files before) (faults before)) w → (w.flushes ≡ []) × BehindStandsFor (behind new (files after) (faults after)) w

-- the flight at this place has the answer
abbrev pub RendersAt : ℕ → Answer → CacheParts → CacheParts → Type 0
RendersAt at answer old new = (flying : Flying) → slice_get old.flying at ≡ Some flying → new.flying ≡ slice_set old.flying at (with_rendered answer flying)
