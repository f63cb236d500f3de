-- Which events a scenario has.
use Rattle.std.specs.Prelude.{◌≡◌, ◌≢◌, ◌==◌, ◌++◌, if◌then◌else◌, ℕ, Bool, true, false, List, [], ◌∷◌, Option, Some, None, Ok, IsTrue, codes, length, map}
use Rattle.std.specs.List.{filter_map}
use Rattle.std.specs.Fmt.{decimal}
use Rattle.resource_tree.specs.Content.{Content}
use Rattle.content_json.specs.ContentOf.{content as content_of}
use Rattle.publisher.specs.Rendering.{answer_to_request, content_after_request}
use Rattle.replay_text.specs.declared.event_line.EventLine.{EventLine}
use Rattle.replay_text.specs.declared.event_line.EventLine.TheVariants as line
use Rattle.replay_text.specs.declared.event_line.NamedFlight.{NamedFlight}
use Rattle.replay_text.specs.declared.event_line.NamedFlight.TheVariants as flight
use Rattle.replay_text.specs.declared.scenario.Scenario.{Scenario}
use Rattle.replay_text.specs.Scenario.{IsActs}
use Rattle.replay_text.specs.Transcript.{action_text, transcript}
use Rattle.run_events.specs.declared.note.Note.{Note}
use Rattle.run_events.specs.declared.step.Pick.{Pick}
use Rattle.run_events.specs.declared.step.Pick.TheVariants.{Number, First}
use Rattle.run_events.specs.declared.step.Step.{Step}
use Rattle.run_events.specs.declared.step.Step.TheVariants.{Opened, Piece, Gone, Direct, Render, Deliver, Lose, Purge, Restart}
use Rattle.sp_base.specs.Limits.{http_port}
use Rattle.sp_base.specs.Texts.{Text}
use Rattle.run_laws.specs.Logs.{is_restart}
use Rattle.any_config.specs.declared.farm.Farm.{Farm}
use Rattle.cover_rules.specs.declared.invalidation.Action.{Action}
use Rattle.cache_log.specs.Entries.{Session}
use Rattle.run_events.specs.Causes.{SpoilAtMost}
use Rattle.run_events.specs.Publishers.{Publishing, direct_answer}
use Rattle.run_events.specs.Events.{Event, Run, after_event, notes_of, state_before_notes}
use Rattle.run_events.specs.States.{RunState, Start, start_of}
use Rattle.sling_dispatch.specs.Farms.{farm_in, farm_text}
use Rattle.http_front.specs.Targets.{path_bytes}

-- ---- the requests that lines ask for (RFC 9112, sections 2.1 and 3)

-- a line of a head
abbrev pub head_line : List ℕ → List ℕ
head_line text = text ++ 13 ∷ 10 ∷ []

-- the host that a farm's publisher is asked at, with its port where it isn't that of HTTP (RFC 9110, section 7.2)
abbrev pub asked_publisher_host : Farm → List ℕ
asked_publisher_host farm = farm.ask_host ++ (if farm.ask_port == http_port then [] else 58 ∷ decimal farm.ask_port)

-- the field that names a host
abbrev pub host_line : List ℕ → List ℕ
host_line host = head_line (codes "Host: " ++ host)

-- a GET of the target at a host
abbrev pub get_bytes : List ℕ → List ℕ → List ℕ
get_bytes host target = head_line (codes "GET " ++ (target ++ codes " HTTP/1.1")) ++ (host_line host ++ head_line [])

-- a POST of a form to the target at a host
abbrev pub post_bytes : List ℕ → List ℕ → List ℕ → List ℕ
post_bytes host target form =
    head_line (codes "POST " ++ (target ++ codes " HTTP/1.1"))
    ++ (host_line host ++ (head_line (codes "Content-Type: application/x-www-form-urlencoded") ++ (head_line (codes "Content-Length: " ++ decimal (length form)) ++ (head_line [] ++ form))))

-- the field that says that the resource alone is meant, where it is
abbrev pub scope_line : Bool → List ℕ
scope_line true = head_line (codes "CQ-Action-Scope: ResourceOnly")
scope_line false = []

-- a request for an invalidation at a host (Adobe Dispatcher manual, "Invalidating Cached Pages From AEM")
abbrev pub flush_bytes : List ℕ → Action → List ℕ → Bool → List ℕ
flush_bytes host action handle only =
    head_line (codes "POST /dispatcher/invalidate.cache HTTP/1.1")
    ++ (host_line host ++ (head_line (codes "CQ-Action: " ++ action_text action) ++ (head_line (codes "CQ-Handle: " ++ handle)
    ++ (scope_line only ++ (head_line (codes "Content-Length: 0") ++ head_line [])))))

-- ---- what lines do

-- the flight that a line names: the one with a number, or the first that can be taken
abbrev pub pick_of : NamedFlight → Pick
pick_of flight.First = First
pick_of (flight.Numbered n) = Number n

-- what a line of a scenario does, where this host is asked: that calls of the disk are to fail is no event
abbrev pub step_of : List ℕ → EventLine → Option Step
step_of host (line.Direct target) = Some (Direct target)
step_of host (line.Open c peer) = Some (Opened c peer)
step_of host (line.Close c) = Some (Gone c)
step_of host (line.Bytes c bytes) = Some (Piece c bytes)
step_of host (line.Get c target) = Some (Piece c (get_bytes host target))
step_of host (line.Post c target form) = Some (Piece c (post_bytes host target form))
step_of host (line.Flush c action handle only) = Some (Piece c (flush_bytes host action handle only))
step_of host (line.Render flight) = Some (Render (pick_of flight))
step_of host (line.Deliver flight) = Some (Deliver (pick_of flight))
step_of host (line.Lose flight) = Some (Lose (pick_of flight))
step_of host line.Purge = Some Purge
step_of host line.Restart = Some Restart
step_of host (line.Fail n way) = None
step_of host (line.Stop n way) = None

-- ---- how the disk fails

-- How the disk may fail in the events to come: in none of them, in one of them, or in each until a restart.
pub data Arming : Type 0 where
  Unarmed : Arming
  OneFailure : Arming
  UntilRestart : Arming

-- what a line says of it, in place of what a line before it said
abbrev pub arming_of : EventLine → Option Arming
arming_of (line.Fail n way) = Some OneFailure
arming_of (line.Stop n way) = Some UntilRestart
arming_of _ = None

-- how the disk may fail in an event of this step: a restart finds it running again
abbrev pub arming_in : Arming → Step → Arming
arming_in Unarmed step = Unarmed
arming_in OneFailure step = OneFailure
arming_in UntilRestart step = if is_restart step then Unarmed else UntilRestart

-- how it may fail after an event in which it might fail so: where one failure was planned and it came, in none
abbrev pub arming_after : Arming → Event → Arming
arming_after Unarmed e = Unarmed
arming_after OneFailure e = if e.conditions.disk_failed then Unarmed else OneFailure
arming_after UntilRestart e = UntilRestart

-- What an event may spoil: nothing where its disk didn't fail, one request or flush where one failure was planned. A disk that is stopped sets
-- no bound.
abbrev pub MaySpoil : Arming → Bool → RunState → List Note → Type 0
MaySpoil arming false w notes = SpoilAtMost 0 w notes
MaySpoil Unarmed true w notes = SpoilAtMost 0 w notes
MaySpoil OneFailure true w notes = SpoilAtMost 1 w notes
MaySpoil UntilRestart true w notes = Unit {0}

-- The disk fails in the event only where it may, and the event spoils no more than it may.
pub record IsArmed (arming : Arming) (w : RunState) (e : Event) : Type 0 where
  pub may_fail : IsTrue e.conditions.disk_failed → arming ≢ Unarmed
  pub spoils : MaySpoil arming e.conditions.disk_failed (state_before_notes w e e.step) e.body

-- The disk fails as the lines say, each of which has an event or says how the disk may fail from there on: in an event only where the last line
-- before it that says so plans one failure, and no event since then had it, or stops the disk, and neither this event nor one since then is a
-- restart.
abbrev pub AreArmed : Arming → RunState → List (Option Arming) → List Event → Type 0
AreArmed arming w [] events = Unit {0}
AreArmed arming w (Some planned ∷ lines) events = AreArmed planned w lines events
AreArmed arming w (None ∷ lines) [] = Unit {0}
AreArmed arming w (None ∷ lines) (e ∷ events) =
    IsArmed (arming_in arming e.step) w e × AreArmed (arming_after (arming_in arming e.step) e) (after_event w e) lines events

-- ---- sessions

-- what the publisher gives: its answer, and what it leaves of the content
abbrev pub sling_publisher : Publishing
sling_publisher content ask = record { answer = answer_to_request content ask; content = content_after_request content ask }

-- what a session begins with: no files, and a log in which a first session began
abbrev pub sling_start : Farm → Content → Start
sling_start farm tree = record { publishing = sling_publisher; farm = farm; content = tree; log = Session 1 ∷ []; found = 0 }

-- the transcript of events
abbrev pub told_of_events : List Event → List ℕ
told_of_events events = transcript (map notes_of events)

-- The content and the farm of the scenario have a reading, and these are the events of its acts but for some that are left at the end:
-- a run of the publisher on that content behind a cache that begins without files, before that farm; and the disk fails as the acts say.
pub record IsSession (s : Scenario) (left : List EventLine) (events : List Event) : Type 0 where
  pub tree : Content
  pub reads : content_of s.content ≡ Ok tree
  pub farm : Farm
  pub farm_reads : farm_in (farm_text s.farm) ≡ Ok farm
  pub made : List EventLine
  pub acts : IsActs s.acts (made ++ left)
  pub steps : map (λ (e : Event). e.step) events ≡ filter_map (step_of (asked_publisher_host farm)) made
  pub run : Run (start_of (sling_start farm tree)) events
  pub armed : AreArmed Unarmed (start_of (sling_start farm tree)) (map arming_of made) events

-- two targets with one path are answered alike
abbrev pub AreAnsweredAlikeIfOnePath : Farm → Content → Text → Text → Type 0
AreAnsweredAlikeIfOnePath farm content a b = path_bytes a ≡ path_bytes b → direct_answer sling_publisher farm content a ≡ direct_answer sling_publisher farm content b
