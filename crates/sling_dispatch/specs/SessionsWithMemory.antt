-- What a scenario leaves open.
use Rattle.std.specs.Prelude.{◌≡◌, ℕ, false, List, [], None, Ok}
use Rattle.std.specs.List.{AllByRecursion, filter_map}
use Rattle.any_config.specs.declared.farm.Farm.{Farm}
use Rattle.run_laws.specs.Determined.{AreDetermined, EndAlike}
use Rattle.run_laws.specs.Brought.{StepsAskNoCache, StepsLeaveNoEndOpen}
use Rattle.run_events.specs.declared.step.Step.{Step}
use Rattle.run_events.specs.Events.{Event}
use Rattle.run_events.specs.States.{start_of}
use Rattle.replay_text.specs.Scenario.{IsActs, ReadsScenario}
use Rattle.replay_text.specs.declared.event_line.EventLine.{EventLine}
use Rattle.replay_text.specs.declared.scenario.Scenario.{Scenario}
use Rattle.sling_dispatch.specs.Farms.{farm_in, farm_text}
use Rattle.sling_dispatch.specs.Runs.{IsSession, arming_of, asked_publisher_host, sling_start, step_of, told_of_events}

-- A scenario has one transcript, where in no event the disk fails or memory runs out, no page is served from the cache, no flush begins and the
-- cache doesn't go down; and where the streams end alike.
abbrev pub SessionsWithMemoryAreOne : Type 0
SessionsWithMemoryAreOne = (s : Scenario) (a b : List Event) (one : IsSession s [] a) → IsSession s [] b → EndAlike (start_of (sling_start one.farm one.tree)) a b → AreDetermined a → AreDetermined b → told_of_events a ≡ told_of_events b

-- ---- of its text alone

-- none of the acts plans that the disk fails
abbrev pub PlanNoFailure : List EventLine → Type 0
PlanNoFailure acts = AllByRecursion (λ (act : EventLine). arming_of act ≡ None) acts

-- what is done by the acts of the scenario, before its farm, is so
abbrev pub ActsAre : Scenario → (Farm → List EventLine → List Step → Type 0) → Type 0
ActsAre s Are = (acts : List EventLine) (farm : Farm) → IsActs s.acts acts → farm_in (farm_text s.farm) ≡ Ok farm → Are farm acts (filter_map (step_of (asked_publisher_host farm)) acts)

-- By its text the scenario leaves the cache and its disk alone: none of its acts plans that the disk fails, and before its farm no request that they
-- may bring has a page in the cache or asks for an invalidation.
abbrev pub LeavesCacheAlone : Scenario → Type 0
LeavesCacheAlone s = ActsAre s (λ farm acts steps. PlanNoFailure acts × StepsAskNoCache farm steps)

-- By its text no stream that its acts may bring ends, after its turns, within a target that isn't UTF-8 and can't become it.
abbrev pub LeavesNoStreamOpen : Scenario → Type 0
LeavesNoStreamOpen s = ActsAre s (λ farm acts steps. StepsLeaveNoEndOpen steps)

-- in no event memory ran out
abbrev pub HaveMemory : List Event → Type 0
HaveMemory events = AllByRecursion (λ (e : Event). e.conditions.out_of_memory ≡ false) events

-- A scenario that is read and leaves the cache alone has one transcript, where in no event memory runs out and the streams end alike.
abbrev pub UncachedScenariosAreOne : Type 0
UncachedScenariosAreOne = (bytes : List ℕ) (s : Scenario) (a b : List Event) (one : IsSession s [] a) → IsSession s [] b → ReadsScenario bytes s → LeavesCacheAlone s
    → EndAlike (start_of (sling_start one.farm one.tree)) a b → HaveMemory a → HaveMemory b → told_of_events a ≡ told_of_events b

-- The streams end alike where by its text it leaves none open: then only memory that runs out leaves a choice.
abbrev pub UncachedTextsAreOne : Type 0
UncachedTextsAreOne = (bytes : List ℕ) (s : Scenario) (a b : List Event) → IsSession s [] a → IsSession s [] b → ReadsScenario bytes s → LeavesCacheAlone s → LeavesNoStreamOpen s
    → HaveMemory a → HaveMemory b → told_of_events a ≡ told_of_events b
