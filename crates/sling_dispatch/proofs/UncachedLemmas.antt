-- The transcript of a scenario that leaves the cache alone, in which memory doesn't run out.
use Rattle.std.proofs.Common.{◌≡◌, ◌≢◌, ◌∙◌, ℕ, Bool, true, false, List, [], ◌∷◌, Some, None, IsTrue, map, refl, ap, sym, subst, arith, append-nil}
use Rattle.std.specs.List.{cons_option, filter_map}
use Rattle.run_events.specs.Events.{Event, after_event}
use Rattle.run_events.specs.States.{RunState, Start, start_of}
use Rattle.run_events.specs.declared.step.Step.{Step}
use Rattle.run_laws.specs.Determined.{AreDetermined, LeaveNoEndOpen, StreamsWithMemoryEndAlike, event_steps}
use Rattle.run_laws.specs.Brought.{AreUnhindered, EpochsLast, StepsAskNoCache, StepsLeaveNoEndOpen, StepsTellTheEnds, UncachedRunsLeaveNoChoice}
use Rattle.replay_text.specs.Scenario.{IsActs, ReadsScenario}
use Rattle.replay_text.specs.declared.event_line.EventLine.{EventLine}
use Rattle.replay_text.specs.declared.event_line.EventLine.TheVariants as line
use Rattle.replay_text.specs.declared.scenario.Scenario.{Scenario}
use Rattle.sling_dispatch.specs.Runs.{AreArmed, IsSession, Unarmed, arming_of, asked_publisher_host, sling_start, step_of}
use Rattle.sling_dispatch.specs.SessionsWithMemory.{HaveMemory, LeavesCacheAlone, PlanNoFailure, SessionsWithMemoryAreOne, UncachedTextsAreOne, UncachedScenariosAreOne}
use Rattle.sling_dispatch.proofs.MemoryLemmas.{TellsFirst, sessions-alike}
use Rattle.sling_dispatch.proofs.SessionLemmas.{session_begins}
use Rattle.sling_dispatch.proofs.WritableLemmas.{acts-short, events-few}

-- ---- the disk works
-- an act that plans no failure has an event
has-step : (host : List ℕ) (act : EventLine) → arming_of act ≡ None → (s : Step) × (step_of host act ≡ Some s)
has-step host (line.Direct target) none = (_, refl)
has-step host (line.Open c peer) none = (_, refl)
has-step host (line.Close c) none = (_, refl)
has-step host (line.Bytes c bytes) none = (_, refl)
has-step host (line.Get c target) none = (_, refl)
has-step host (line.Post c target form) none = (_, refl)
has-step host (line.Flush c action handle only) none = (_, refl)
has-step host (line.Render flight) none = (_, refl)
has-step host (line.Deliver flight) none = (_, refl)
has-step host (line.Lose flight) none = (_, refl)
has-step host line.Purge none = (_, refl)
has-step host line.Restart none = (_, refl)
has-step host (line.Fail n way) none = absurd (let never : ⊥ = cc in never)
has-step host (line.Stop n way) none = absurd (let never : ⊥ = cc in never)

works-unarmed : (failed : Bool) → (IsTrue failed → Unarmed ≢ Unarmed) → failed ≡ false
works-unarmed false may = refl
works-unarmed true may = absurd (may refl refl)

-- in each event neither the disk failed nor memory ran out
unhindered : (host : List ℕ) (w : RunState) (acts : List EventLine) (events : List Event) → PlanNoFailure acts → event_steps events ≡ filter_map (step_of host) acts → AreArmed Unarmed w (map arming_of acts) events → HaveMemory events
    → AreUnhindered events
unhindered host w acts [] none steps armed memory = tt
unhindered host w [] (e ∷ events) none steps armed memory = absurd (let never : ⊥ = cc in never)
unhindered host w (act ∷ acts) (e ∷ events) none steps armed memory =
    let here : AreArmed Unarmed w (None ∷ map arming_of acts) (e ∷ events) = subst (λ o. AreArmed Unarmed w (o ∷ map arming_of acts) (e ∷ events)) none.0 armed in
    let found = has-step host act none.0 in
    let both : event_steps (e ∷ events) ≡ found.0 ∷ filter_map (step_of host) acts = steps ∙ ap (λ o. cons_option o (filter_map (step_of host) acts)) found.1 in
    let later : event_steps events ≡ filter_map (step_of host) acts = cc (both) in
    (record { disk_worked = works-unarmed e.conditions.disk_failed here.0.may_fail; not_out_of_memory = memory.0 }, unhindered host (after_event w e) acts events none.1 later here.1 memory.1)

-- ---- a session
acts-are : (s : Scenario) (events : List Event) → (session : IsSession s [] events) → IsActs s.acts session.made
acts-are s events session = subst (IsActs s.acts) (append-nil session.made) session.acts

session-determined : UncachedRunsLeaveNoChoice → (bytes : List ℕ) (s : Scenario) (events : List Event) → ReadsScenario bytes s → LeavesCacheAlone s → IsSession s [] events → HaveMemory events → AreDetermined events
session-determined law bytes s events read alone session memory =
    let host : List ℕ = asked_publisher_host session.farm in
    let start : Start = sling_start session.farm session.tree in
    let asks = alone session.made session.farm (acts-are s events session) session.farm_reads in
    let few : EpochsLast start events = omega (arith, events-few s [] events session, acts-short bytes s read) in
    law start events (session_begins session.farm session.tree) session.run (subst (StepsAskNoCache session.farm) (sym session.steps) asks.1) few
    (unhindered host (start_of start) session.made events asks.0 session.steps session.armed memory)

pub uncached-scenarios : SessionsWithMemoryAreOne → UncachedRunsLeaveNoChoice → UncachedScenariosAreOne
uncached-scenarios one law bytes s a b first second read alone ends memory other =
    one s a b first second ends (session-determined law bytes s a read alone first memory) (session-determined law bytes s b read alone second other)

pub texts-alone : TellsFirst → SessionsWithMemoryAreOne → UncachedRunsLeaveNoChoice → StepsTellTheEnds → StreamsWithMemoryEndAlike → UncachedTextsAreOne
texts-alone tells one law told streams bytes s a b first second read alone closed memory other =
    let start : Start = sling_start first.farm first.tree in
    let alike = sessions-alike tells s a b first second in
    let p = session-determined law bytes s a read alone first memory in
    let q = session-determined law bytes s b read alone second other in
    let ends : LeaveNoEndOpen (start_of start) a = told start a first.run (subst StepsLeaveNoEndOpen (sym first.steps) (closed first.made first.farm (acts-are s a first) first.farm_reads)) in
    one s a b first second (streams start a b (session_begins first.farm first.tree) first.run alike.run alike.steps p q ends) p q
