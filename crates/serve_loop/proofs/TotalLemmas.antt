-- The sum of what a failing disk costs the events of a session.
use Rattle.std.proofs.Common.{◌≡◌, ◌+◌, ◌-◌, ◌<◌, ◌≤◌, ℕ, Bool, true, false, List, [], ◌∷◌, refl, arith, cond}
use Rattle.std.proofs.lemmas.List.Sums.{sum_by-append}
use Rattle.sp_base.specs.Limits.{greatest_u64}
use Rattle.sp_outside.specs.Causes.{IsDiskFailure}
use Rattle.run_events.specs.Events.{Event, after_event}
use Rattle.run_events.specs.States.{RunState}
use Rattle.serve_loop.specs.Served.{AreCaused, IsLastCount}
use Rattle.serve_loop.specs.Totals.{EventsSpoilAtMost, FailuresAreCounted, count_failed}
use Rattle.serve_loop.specs.Turns.{turn_events, with_cut}
use Rattle.serve_loop.specs.declared.serving.ServeEnd.{ServeEnd}
use Rattle.serve_loop.specs.declared.serving.ServeEnd.TheVariants.{NoMemory, Turns, WorldFailed}

-- what a list of events costs, between two counts
record Costs (before after : ℕ) (w : RunState) (events : List Event) : Type 0 where
  pub rises : before ≤ after
  pub failed : count_failed events ≤ after - before
  pub spoilt : EventsSpoilAtMost (after - before) w events

-- one event's failure, below the end of the count
counts_one : (before middle : ℕ) (failed : Bool) → IsDiskFailure before middle failed → middle < greatest_u64 → before + cond failed 1 0 ≤ middle
counts_one before middle true rose few = omega (arith, rose.0, rose.1, few)
counts_one before middle false same few = omega (arith, same)

still_few : (a b : ℕ) → a ≤ b → b < greatest_u64 → a < greatest_u64
still_few a b l few = omega (arith, l, few)

costs : (before after : ℕ) (w : RunState) (events : List Event) → AreCaused before after w events → after < greatest_u64 → Costs before after w events
costs before after w [] same few = record { rises = omega (arith, same); failed = omega arith; spoilt = tt }
costs before after w (e ∷ events) (middle, cause, more) few =
    let rest : Costs middle after (after_event w e) events = costs middle after (after_event w e) events more few in
    let here : middle < greatest_u64 = still_few middle after rest.rises few in
    let one : before + cond e.conditions.disk_failed 1 0 ≤ middle = counts_one before middle e.conditions.disk_failed cause.disk here in
    let single : count_failed (e ∷ []) ≡ 0 + cond e.conditions.disk_failed 1 0 = refl in
    let counted : count_failed (e ∷ events) ≡ count_failed (e ∷ []) + count_failed events = sum_by-append (λ (x : Event). cond x.conditions.disk_failed 1 0) (e ∷ []) events in
    record {
      rises = omega (arith, one, rest.rises);
      failed = omega (arith, counted, single, one, rest.rises, rest.failed);
      spoilt = (middle - before, after - middle, omega (arith, one, rest.rises), cause.spoils here, rest.spoilt);
    }

-- the last event's count is at most that of the session's end
is_within : (end : ServeEnd) (last after : ℕ) → IsLastCount end last after → last ≤ after
is_within Turns last after same = omega (arith, same)
is_within WorldFailed last after same = omega (arith, same)
is_within NoMemory last after within = within

more_spoilt : (n m : ℕ) (w : RunState) (events : List Event) → n ≤ m → EventsSpoilAtMost n w events → EventsSpoilAtMost m w events
more_spoilt n m w [] l s = tt
more_spoilt n m w (e ∷ events) l s = (s.0, s.1, omega (arith, l, s.2), s.3, s.4)

pub failures_are_counted : FailuresAreCounted
failures_are_counted w limit end disk world s few =
    let within : s.last ≤ disk.faults_new = is_within end s.last disk.faults_new s.last_is in
    let all : Costs disk.faults_old s.last w (turn_events (with_cut s.turns s.cut)) = costs disk.faults_old s.last w (turn_events (with_cut s.turns s.cut)) s.caused (still_few s.last disk.faults_new within few) in
    (omega (arith, within, all.rises, all.failed), more_spoilt (s.last - disk.faults_old) (disk.faults_new - disk.faults_old) w (turn_events (with_cut s.turns s.cut)) (omega (arith, within)) all.spoilt)
