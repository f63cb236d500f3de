-- Runs of which is known what their steps bring: requests that have no page in the cache and ask for no invalidation, or streams whose ends are told.
use Rattle.std.specs.Prelude.{◌≡◌, ◌≤◌, ◌+◌, ◌++◌, ℕ, false, nat_eq, if◌then◌else◌, List, [], ◌∷◌, None, length}
use Rattle.std.specs.List.{AllByRecursion}
use Rattle.sp_base.specs.Limits.{greatest_u64}
use Rattle.sp_base.specs.Requests.{Request}
use Rattle.any_config.specs.declared.farm.Farm.{Farm}
use Rattle.dispatch_rules.specs.Caching.{cache_key}
use Rattle.invalidation.specs.Invalidations.{is_invalidation}
use Rattle.http_front.specs.OpenEnds.{LeavesEndOpen}
use Rattle.http_front.specs.Turns.{End, SpellsTurns}
use Rattle.http_front.specs.declared.turn.Turn.{Turn}
use Rattle.http_front.specs.declared.turn.Turn.TheVariants.{Continue, Whole}
use Rattle.cache_log.specs.Entries.{last_epoch}
use Rattle.connections.specs.Ids.{ConnectionId}
use Rattle.run_events.specs.declared.step.Step.{Step}
use Rattle.run_events.specs.declared.step.Step.TheVariants.{Opened, Piece, Gone, Restart}
use Rattle.run_events.specs.Events.{Event, Run}
use Rattle.run_events.specs.States.{Start, start_of}
use Rattle.run_laws.specs.Determined.{AreDetermined, LeaveNoEndOpen, event_steps}
use Rattle.run_laws.specs.Logs.{IsBeginning}

-- ---- what comes

-- the bytes that steps bring on a connection, one after another, until its client goes or all connections are shut
abbrev pub comes_on : ConnectionId → List Step → List ℕ
comes_on c [] = []
comes_on c (Piece d bytes ∷ steps) = (if nat_eq d c then bytes else []) ++ comes_on c steps
comes_on c (Gone d ∷ steps) = if nat_eq d c then [] else comes_on c steps
comes_on c (Restart ∷ steps) = []
comes_on c (_ ∷ steps) = comes_on c steps

-- it is so with these bytes and the turns that they spell, and with each beginning of them, since not all that comes may be read
abbrev pub EachBeginning : (List ℕ → List Turn → Type 0) → List ℕ → Type 0
EachBeginning Is bytes = (stream rest : List ℕ) (turns : List Turn) (ends : End) → bytes ≡ stream ++ rest → SpellsTurns stream turns ends → Is stream turns

-- So it is with what comes on each connection from each step on that opens it. (Whether the step opens it, or finds it there, isn't asked.)
abbrev pub StepsBring : (List ℕ → List Turn → Type 0) → List Step → Type 0
StepsBring Is steps = (before : List Step) (c : ConnectionId) (peer : List ℕ) (since : List Step) → steps ≡ before ++ Opened c peer ∷ since → EachBeginning Is (comes_on c since)

-- ---- requests

-- the request has no page in the cache, and asks for no invalidation
pub record AsksNoCache (farm : Farm) (request : Request) : Type 0 where
  pub no_page : cache_key farm request ≡ None
  pub no_invalidation : is_invalidation request ≡ false

-- so it is with the turn, where that is a request
abbrev pub TurnAsksNoCache : Farm → Turn → Type 0
TurnAsksNoCache farm Continue = Unit {0}
TurnAsksNoCache farm (Whole request) = AsksNoCache farm request

-- so it is with each of the turns
abbrev pub TurnsAskNoCache : Farm → List Turn → Type 0
TurnsAskNoCache farm turns = AllByRecursion (TurnAsksNoCache farm) turns

-- so it is with each turn that the steps may bring
abbrev pub StepsAskNoCache : Farm → List Step → Type 0
StepsAskNoCache farm steps = StepsBring (λ stream turns. TurnsAskNoCache farm turns) steps

-- ---- ends

-- no stream that the steps may bring ends, after its turns, within a target that isn't UTF-8 and can't become it, with its bytes or with the first
-- 16,384 of the next head's
abbrev pub StepsLeaveNoEndOpen : List Step → Type 0
StepsLeaveNoEndOpen steps = StepsBring (λ stream turns. LeavesEndOpen stream turns → ⊥) steps

-- The streams of such a run end so after no event.
abbrev pub StepsTellTheEnds : Type 0
StepsTellTheEnds = (s : Start) (events : List Event) → Run (start_of s) events → StepsLeaveNoEndOpen (event_steps events) → LeaveNoEndOpen (start_of s) events

-- ---- what then leaves no choice

-- in the event neither the disk failed nor memory ran out
pub record IsUnhindered (e : Event) : Type 0 where
  pub disk_worked : e.conditions.disk_failed ≡ false
  pub not_out_of_memory : e.conditions.out_of_memory ≡ false

-- so it is in each event
abbrev pub AreUnhindered : List Event → Type 0
AreUnhindered events = AllByRecursion IsUnhindered events

-- the epochs don't come to their end, even if each event is a restart
abbrev pub EpochsLast : Start → List Event → Type 0
EpochsLast s events = last_epoch s.log + length events ≤ greatest_u64

-- A run in which neither the disk fails nor memory runs out, and whose steps ask neither for a page of the cache nor for an invalidation, leaves no
-- choice: no hit is given, no flush begins, and the cache doesn't go down.
abbrev pub UncachedRunsLeaveNoChoice : Type 0
UncachedRunsLeaveNoChoice = (s : Start) (events : List Event) → IsBeginning s → Run (start_of s) events → StepsAskNoCache s.farm (event_steps events) → EpochsLast s events → AreUnhindered events
    → AreDetermined events
