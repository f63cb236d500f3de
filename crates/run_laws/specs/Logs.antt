-- What a site's operator may rely on: of the log of the cache in every run.
use Rattle.std.specs.Prelude.{◌≡◌, ◌⊎◌, ◌++◌, ℕ, Bool, List, [], ◌∷◌, Option, Some, Contains, true, false}
use Rattle.sp_base.specs.declared.answer.Answer.{Answer}
use Rattle.sp_base.specs.Requests.{Request}
use Rattle.any_config.specs.declared.farm.Farm.{Farm}
use Rattle.cover_rules.specs.declared.page.PageKey.{PageKey}
use Rattle.cover_rules.specs.declared.invalidation.Invalidation.{Invalidation}
use Rattle.cache_log.specs.Entries.{Kept, Unkept, Passed, Done, Fate, LogEntry, Asked, Landed, Begun, Ended, Hit, Session}
use Rattle.cache_log.specs.Flown.{IsLanding, IsOwedHit, IsUnfinishedFlush}
use Rattle.cache_log.specs.Hits.{Covers}
use Rattle.cache_ids.specs.Ids.{FlightId, FlushId}
use Rattle.cache_log.specs.Rules.{AllAllowed, CallConditions, IsLegal, IsOwed}
use Rattle.connections.specs.Ids.{ConnectionId}
use Rattle.connections.specs.Slots.{IsHit}
use Rattle.run_events.specs.declared.note.Note.{Note}
use Rattle.run_events.specs.declared.note.Note.TheVariants.{Ask as asked_note, Hit as hit_note, Local as local_note, Flush as flush_note}
use Rattle.run_events.specs.declared.step.Step.{Step}
use Rattle.run_events.specs.declared.step.Step.TheVariants.{Restart}
use Rattle.run_events.specs.Events.{Event, Happens, Run, after_event, state_after_events, state_before_notes}
use Rattle.run_events.specs.Moves.{due_of_connection, state_after_note, treated_request}
use Rattle.run_events.specs.Points.{IsHitOwed, call_conditions, key_of}
use Rattle.run_events.specs.States.{RunState, Start, start_of}

-- a run begins so: a session has just begun, in a legal log
pub record IsBeginning (s : Start) : Type 0 where
  pub epoch : ℕ
  pub earlier : List LogEntry
  pub log_is : s.log ≡ Session epoch ∷ earlier
  pub legal : IsLegal s.farm s.log

-- the log of the cache after these events
abbrev pub log_after : Start → List Event → List LogEntry
log_after s events = (state_after_events (start_of s) events).log

-- ---- what an event adds

-- the step is a restart
abbrev pub is_restart : Step → Bool
is_restart Restart = true
is_restart _ = false

-- The log went on, and each entry that was added is allowed by those before it, in a call under these conditions.
pub record AddsAllowed (farm : Farm) (under : CallConditions) (before after : List LogEntry) : Type 0 where
  pub added : List LogEntry
  pub after_is : after ≡ added ++ before
  pub allowed : AllAllowed farm under added before

-- What an event adds to the log is allowed under what that very event ran under, and as in a restart only where it is one.
abbrev pub EventsAddWhatIsAllowed : Type 0
EventsAddWhatIsAllowed = (s : Start) (events : List Event) (e : Event) → IsBeginning s → Run (start_of s) events → Happens (state_after_events (start_of s) events) e
    → AddsAllowed s.farm (call_conditions e.conditions (is_restart e.step)) (log_after s events) (after_event (state_after_events (start_of s) events) e).log

-- ---- after a flush

-- the answer is that of a flight which was asked for the page among these entries, and landed among them, kept or maybe kept
abbrev pub IsAnswerOf : List LogEntry → PageKey → Answer → Type 0
IsAnswerOf entries key answer = IsLanding entries key Kept answer ⊎ IsLanding entries key Unkept answer

-- After a flush ended done, each answer that a hit on a page may give which the flush covers is that of a flight which was asked since: so it
-- is in that session, and after restarts and in later sessions, whatever failed.
abbrev pub HitsAreFresh : Type 0
HitsAreFresh = (s : Start) (events : List Event) → IsBeginning s → Run (start_of s) events
    → (later : List LogEntry) (key : PageKey) (log : List LogEntry) → log_after s events ≡ later ++ Hit key ∷ log
    → (answer : Answer) → IsHit s.farm log key answer
    → (since : List LogEntry) (flush : FlushId) (inv : Invalidation) (before : List LogEntry) → log ≡ since ++ Ended flush Done ∷ before → IsUnfinishedFlush before flush inv → Covers s.farm inv key
    → IsAnswerOf since key answer

-- ---- what a flush makes of a reply in flight

-- A reply in flight for a page when a flush begins that covers it is only passed on: wherever its flight lands since, before another has its
-- number.
abbrev pub RepliesInFlightAreNotStored : Type 0
RepliesInFlightAreNotStored = (s : Start) (events : List Event) → IsBeginning s → Run (start_of s) events
    → (since : List LogEntry) (flush : FlushId) (inv : Invalidation) (before : List LogEntry) → log_after s events ≡ since ++ Begun flush inv ∷ before
    → (later : List LogEntry) (flight : FlightId) (key : PageKey) (given : Answer) (fate : Fate) (earlier : List LogEntry) → since ≡ later ++ Landed flight (Some key) given fate ∷ earlier → Covers s.farm inv key
    → ((other : Option PageKey) → Contains earlier (Asked flight other) → ⊥)
    → fate ≡ Passed

-- ---- what is owed

-- the note treats a request of the connection
abbrev pub Treats : ConnectionId → Note → Type 0
Treats c (asked_note number d key) = d ≡ c
Treats c (hit_note d key) = d ≡ c
Treats c (local_note d status) = d ≡ c
Treats c (flush_note number d inv) = d ≡ c
Treats c _ = ⊥

-- a note that treats a request to which a hit is owed is that hit, on its page
abbrev pub IsOwedTo : RunState → Note → Type 0
IsOwedTo w note = (c : ConnectionId) (request : Request) → Treats c note → treated_request (due_of_connection w c) ≡ Some request → IsHitOwed w c request → (key : PageKey) × (key_of w request ≡ Some key) × (note ≡ hit_note c key)

-- the same of notes, each in the state in which it comes
abbrev pub OwedAreHits : RunState → List Note → Type 0
OwedAreHits w [] = Unit {0}
OwedAreHits w (note ∷ notes) = IsOwedTo w note × OwedAreHits (state_after_note w note) notes

-- A page that was kept, and that no flush covered since its flight was asked, is served without a render, in each event in which neither the
-- disk failed nor memory ran out: a request for it that the cache gets is a hit, which gives the answer that was kept.
abbrev pub KeptPagesAreServed : Type 0
KeptPagesAreServed = (w : RunState) (e : Event) → Run w (e ∷ []) → e.conditions.disk_failed ≡ false → e.conditions.out_of_memory ≡ false → OwedAreHits (state_before_notes w e e.step) e.body

-- What is kept is owed: a hit on a page is owed where a landing of it was kept, each later one was passed, and no flush that covers it was
-- unfinished as that landing's flight was asked, or has begun since.
abbrev pub KeptPagesAreOwed : Type 0
KeptPagesAreOwed = (farm : Farm) (log : List LogEntry) (key : PageKey) (answer : Answer) → IsOwedHit farm log key answer → IsOwed farm log (Some key)

-- The hit gives the answer that was kept, and no other.
abbrev pub OwedHitsGiveWhatWasKept : Type 0
OwedHitsGiveWhatWasKept = (farm : Farm) (log : List LogEntry) (key : PageKey) (answer other : Answer) → IsOwedHit farm log key answer → IsHit farm log key other → other ≡ answer
