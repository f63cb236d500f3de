-- What a site's operator may rely on, of each session that is served.
use Rattle.std.specs.Prelude.{◌≡◌, ◌≢◌, ◌++◌, ◌∷◌, false, List, Option, Some, Contains, ℕ, ◌<◌, ◌⊎◌}
use Rattle.sp_base.specs.declared.answer.Answer.{Answer}
use Rattle.sp_base.specs.Limits.{greatest_u64}
use Rattle.sp_outside.specs.Files.{Files}
use Rattle.cover_rules.specs.declared.page.PageKey.{PageKey}
use Rattle.cover_rules.specs.declared.invalidation.Invalidation.{Invalidation}
use Rattle.cache_log.specs.Entries.{Passed, Done, Fate, LogEntry, Asked, Landed, Begun, Ended, Hit}
use Rattle.cache_log.specs.Flown.{IsUnfinishedFlush}
use Rattle.cache_log.specs.Hits.{Covers}
use Rattle.cache_ids.specs.Ids.{FlightId, FlushId}
use Rattle.cache_log.specs.Rules.{IsLegal, KeepsBound}
use Rattle.coherence_core.specs.Holds.{files_counted}
use Rattle.connections.specs.Slots.{IsHit}
use Rattle.run_events.specs.Events.{Event, state_after_events, state_before_notes}
use Rattle.run_events.specs.States.{RunState, Start, start_of}
use Rattle.run_laws.specs.Logs.{IsAnswerOf, OwedAreHits, log_after}
use Rattle.serve_loop.specs.Served.{IsServed, LeavesLegalLog, left_log}
use Rattle.serve_loop.specs.Turns.{turn_events, with_cut}
use Rattle.serve_loop.specs.declared.serving.ServeEnd.{ServeEnd}
use Rattle.serve_loop.specs.declared.serving.ServeEnd.TheVariants.{NoMemory}
use Rattle.sling_dispatch.specs.Reports.{RunCall, StreamReport, HasNotFailed, HasFailed}
use Rattle.sling_dispatch.specs.Serving.{MayBeginOver, ServesSite, served_start, IsServable}
use Rattle.sling_dispatch.specs.declared.form.Beginning.TheVariants.{Warm}
use Rattle.sling_dispatch.specs.declared.form.ServeWords.{ServeWords}
use Rattle.sling_dispatch.specs.declared.ending.Ending.{Ending}
use Rattle.sling_dispatch.specs.Endings.{Means, IsDue, IsReplay, HasContent, HasFarm}
use Rattle.sling_dispatch.specs.Forms.{AsksNumber}
use Rattle.sling_dispatch.specs.declared.ending.Ending.TheVariants as run_end
use Rattle.replay_text.specs.declared.scenario.Scenario.{Scenario}
use Rattle.replay_text.specs.Scenario.{ReadsScenario}

-- A session that was served: one call that served these words, over these files, and what came of it from a log that it went on from, which is
-- legal. (With `fresh` that is the empty one.)
pub record ServedSession (c : RunCall) (words : ServeWords) (end : ServeEnd) : Type 0 where
  pub site : ServesSite c words end
  pub files : Files
  pub files_are : c.disk.old ≡ Some files
  pub log : List LogEntry
  pub may_begin : MayBeginOver words.beginning site.farm files log
  pub legal : IsLegal site.farm log
  pub served : IsServed (start_of (served_start site.farm site.tree site.epoch files log)) words.turns end c.disk c.world

-- what it began with
abbrev pub served_session_start : {c : RunCall} {words : ServeWords} {end : ServeEnd} → ServedSession c words end → Start
served_session_start s = served_start s.site.farm s.site.tree s.site.epoch s.files s.log

-- its events, also those of a turn that memory cut
abbrev pub served_session_events : {c : RunCall} {words : ServeWords} {end : ServeEnd} → ServedSession c words end → List Event
served_session_events s = turn_events (with_cut s.served.turns s.served.cut)

-- the log of the cache after them, which begins with that of earlier sessions
abbrev pub served_session_log : {c : RunCall} {words : ServeWords} {end : ServeEnd} → ServedSession c words end → List LogEntry
served_session_log s = log_after (served_session_start s) (served_session_events s)

-- the state after its whole turns
abbrev pub served_session_end : {c : RunCall} {words : ServeWords} {end : ServeEnd} → ServedSession c words end → RunState
served_session_end s = state_after_events (start_of (served_session_start s)) (turn_events s.served.turns)

-- ---- sessions one after another

-- From each legal log that a session may go on from, it did: so it did from the empty one with `fresh`, and with `warm` from each that the
-- files held, closed.
abbrev pub SessionsAreServed : Type 0
SessionsAreServed = (c : RunCall) (words : ServeWords) (end : ServeEnd) (site : ServesSite c words end) (files : Files) → c.disk.old ≡ Some files
    → (log : List LogEntry) → MayBeginOver words.beginning site.farm files log → IsLegal site.farm log
    → (s : ServedSession c words end) × ((s.site ≡ site) × (s.log ≡ log))

-- A session leaves a legal log, which the files hold at its end, closed, unless memory ran out.
abbrev pub ServedSessionsLeaveLegalLogs : Type 0
ServedSessionsLeaveLegalLogs = (c : RunCall) (words : ServeWords) (end : ServeEnd) (s : ServedSession c words end) → end ≢ NoMemory → LeavesLegalLog s.site.farm c.disk.new (served_session_end s)

-- So a session that is served with `warm` over the files that one left, for the same farm, goes on from its log, and so on for ever.
abbrev pub ServedSessionsGoOn : Type 0
ServedSessionsGoOn = (c d : RunCall) (words again : ServeWords) (end later : ServeEnd) (s : ServedSession c words end) → end ≢ NoMemory → (site : ServesSite d again later)
    → d.disk.old ≡ c.disk.new → again.beginning ≡ Warm → site.farm ≡ s.site.farm
    → (t : ServedSession d again later) × ((t.site ≡ site) × (t.log ≡ left_log (served_session_end s)))

-- ---- the operator's laws

-- The log of the cache is legal after each session; and with so many slices that leave one flush unfinished the bound is kept, by the files that
-- the document root had as the session began.
abbrev pub ServedLogsAreLegal : Type 0
ServedLogsAreLegal = (c : RunCall) (words : ServeWords) (end : ServeEnd) (s : ServedSession c words end) → IsLegal s.site.farm (served_session_log s) × KeepsBound s.site.farm (files_counted s.files) (served_session_log s)

-- After a flush ended done, which is answered 200, in this session or in one before it, no hit on a page that it covers gives an answer older
-- than its end.
abbrev pub ServedHitsAreFresh : Type 0
ServedHitsAreFresh = (c : RunCall) (words : ServeWords) (end : ServeEnd) (s : ServedSession c words end)
    → (later : List LogEntry) (key : PageKey) (log : List LogEntry) → served_session_log s ≡ later ++ Hit key ∷ log → (answer : Answer) → IsHit s.site.farm log key answer
    → (since : List LogEntry) (flush : FlushId) (inv : Invalidation) (before : List LogEntry) → log ≡ since ++ Ended flush Done ∷ before → IsUnfinishedFlush before flush inv → Covers s.site.farm inv key
    → IsAnswerOf since key answer

-- A reply in flight for a page when a flush begins that covers it is never stored.
abbrev pub ServedRepliesInFlightAreNotStored : Type 0
ServedRepliesInFlightAreNotStored = (c : RunCall) (words : ServeWords) (end : ServeEnd) (s : ServedSession c words end)
    → (since : List LogEntry) (flush : FlushId) (inv : Invalidation) (before : List LogEntry) → served_session_log s ≡ since ++ Begun flush inv ∷ before
    → (later : List LogEntry) (flight : FlightId) (key : PageKey) (given : Answer) (fate : Fate) (earlier : List LogEntry) → since ≡ later ++ Landed flight (Some key) given fate ∷ earlier → Covers s.site.farm inv key
    → ((other : Option PageKey) → Contains earlier (Asked flight other) → ⊥)
    → fate ≡ Passed

-- A page that was kept, in this session or in one before it, and that no flush covered since its flight was asked, is served without a render,
-- in each event in which neither the disk failed nor memory ran out.
abbrev pub ServedSessionsServeKeptPages : Type 0
ServedSessionsServeKeptPages = (c : RunCall) (words : ServeWords) (end : ServeEnd) (s : ServedSession c words end) (before : List Event) (e : Event) (after : List Event) → served_session_events s ≡ before ++ e ∷ after
    → e.conditions.disk_failed ≡ false → e.conditions.out_of_memory ≡ false
    → OwedAreHits (state_before_notes (state_after_events (start_of (served_session_start s)) before) e e.step) e.body

-- ---- where nothing outside is in the way, the run is done, unless it ran out of memory

-- a replay of a scenario whose content and farm have a reading
abbrev pub UnhinderedReplaysAreDoneUnlessOutOfMemory : Type 0
UnhinderedReplaysAreDoneUnlessOutOfMemory = (c : RunCall) (sink : StreamReport (List ℕ)) (bytes : List ℕ) (s : Scenario) (ending : Ending) → Means (IsDue c) ending sink
    → IsReplay c.words → c.source.old ≡ Some bytes → ReadsScenario bytes s → HasContent s → HasFarm s
    → c.source.faults_old < greatest_u64 → HasNotFailed c.source → sink.faults_old < greatest_u64 → HasNotFailed sink
    → (ending ≡ run_end.Done) ⊎ (ending ≡ run_end.NoMemory)

-- serving over inputs, a document root and a world that let it
abbrev pub UnhinderedServingIsDoneUnlessOutOfMemory : Type 0
UnhinderedServingIsDoneUnlessOutOfMemory = (c : RunCall) (sink : StreamReport (List ℕ)) (words : ServeWords) (ending : Ending) → Means (IsDue c) ending sink → IsServable c words
    → sink.faults_old < greatest_u64 → HasNotFailed sink → (ending ≡ run_end.Done) ⊎ (ending ≡ run_end.NoMemory)

-- `scenario` and `soak`, but for a sink that failed
abbrev pub NumberedRunsAreDoneUnlessTheSinkFailedOrOutOfMemory : Type 0
NumberedRunsAreDoneUnlessTheSinkFailedOrOutOfMemory = (c : RunCall) (sink : StreamReport (List ℕ)) (ending : Ending) → Means (IsDue c) ending sink → AsksNumber c.words
    → (ending ≡ run_end.Done) ⊎ ((ending ≡ run_end.NoMemory) ⊎ ((ending ≡ run_end.SinkFailed) × HasFailed sink))
