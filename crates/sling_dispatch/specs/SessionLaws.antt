-- What a site's operator may rely on, of each session.
use Rattle.std.specs.Prelude.{◌≡◌, ◌++◌, false, List, ◌∷◌, Option, Some, Contains, map, ℕ}
use Rattle.sp_base.specs.declared.answer.Answer.{Answer}
use Rattle.cover_rules.specs.declared.page.PageKey.{PageKey}
use Rattle.cover_rules.specs.declared.invalidation.Invalidation.{Invalidation}
use Rattle.cache_log.specs.Entries.{Passed, Done, Fate, LogEntry, Asked, Landed, Begun, Ended, Hit}
use Rattle.cache_log.specs.Flown.{IsUnfinishedFlush}
use Rattle.cache_log.specs.Hits.{Covers}
use Rattle.cache_ids.specs.Ids.{FlightId, FlushId}
use Rattle.cache_log.specs.Rules.{IsLegal}
use Rattle.connections.specs.Slots.{IsHit}
use Rattle.run_events.specs.Events.{Event, state_after_events, state_before_notes, notes_of}
use Rattle.run_events.specs.States.{start_of}
use Rattle.run_laws.specs.Logs.{IsAnswerOf, OwedAreHits, log_after}
use Rattle.replay_text.specs.declared.event_line.EventLine.{EventLine}
use Rattle.replay_text.specs.declared.scenario.Scenario.{Scenario}
use Rattle.replay_text.specs.Scenario.{ReadsScenario}
use Rattle.replay_text.specs.Transcript.{told_notes}
use Rattle.sling_dispatch.specs.Runs.{IsSession, sling_start, told_of_events}

-- the log of the cache after a session
abbrev pub session_log : {s : Scenario} {left : List EventLine} {events : List Event} → IsSession s left events → List LogEntry
session_log {events = events} session = log_after (sling_start session.farm session.tree) events

-- the log of each session is legal
abbrev pub SessionLogsAreLegal : Type 0
SessionLogsAreLegal = (s : Scenario) (left : List EventLine) (events : List Event) (session : IsSession s left events) → IsLegal session.farm (session_log session)

-- After a flush ended done, which is answered 200, no hit on a page that it covers gives an answer older than its end.
abbrev pub SessionHitsAreFresh : Type 0
SessionHitsAreFresh = (s : Scenario) (left : List EventLine) (events : List Event) (session : IsSession s left events)
    → (later : List LogEntry) (key : PageKey) (log : List LogEntry) → session_log session ≡ later ++ Hit key ∷ log → (answer : Answer) → IsHit session.farm log key answer
    → (since : List LogEntry) (flush : FlushId) (inv : Invalidation) (before : List LogEntry) → log ≡ since ++ Ended flush Done ∷ before → IsUnfinishedFlush before flush inv → Covers session.farm inv key
    → IsAnswerOf since key answer

-- A reply in flight for a page when a flush begins that covers it is never stored.
abbrev pub SessionRepliesInFlightAreNotStored : Type 0
SessionRepliesInFlightAreNotStored = (s : Scenario) (left : List EventLine) (events : List Event) (session : IsSession s left events)
    → (since : List LogEntry) (flush : FlushId) (inv : Invalidation) (before : List LogEntry) → session_log session ≡ since ++ Begun flush inv ∷ before
    → (later : List LogEntry) (flight : FlightId) (key : PageKey) (given : Answer) (fate : Fate) (earlier : List LogEntry) → since ≡ later ++ Landed flight (Some key) given fate ∷ earlier → Covers session.farm inv key
    → ((other : Option PageKey) → Contains earlier (Asked flight other) → ⊥)
    → fate ≡ Passed

-- A page that was kept, and that no flush covered since its flight was asked, is served without a render, in each event in which neither the
-- disk failed nor memory ran out.
abbrev pub SessionsServeKeptPages : Type 0
SessionsServeKeptPages = (s : Scenario) (left : List EventLine) (before after : List Event) (e : Event) (session : IsSession s left (before ++ e ∷ after))
    → e.conditions.disk_failed ≡ false → e.conditions.out_of_memory ≡ false
    → OwedAreHits (state_before_notes (state_after_events (start_of (sling_start session.farm session.tree)) before) e e.step) e.body

-- no two sessions of scenarios that are read have the same transcript, but those in which the same is told
abbrev pub TranscriptsTellSessions : Type 0
TranscriptsTellSessions = (read other : List ℕ) (s t : Scenario) (left right : List EventLine) (a b : List Event) → ReadsScenario read s → ReadsScenario other t
    → IsSession s left a → IsSession t right b → told_of_events a ≡ told_of_events b → map told_notes (map notes_of a) ≡ map told_notes (map notes_of b)
