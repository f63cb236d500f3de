-- What a disk that fails costs a whole session, beside what it costs each event.
use Rattle.std.specs.Prelude.{◌+◌, ◌-◌, ◌≤◌, ◌<◌, ℕ, List, [], ◌∷◌}
use Rattle.std.specs.List.{count_by}
use Rattle.sp_base.specs.Limits.{greatest_u64}
use Rattle.run_events.specs.Causes.{SpoilAtMost}
use Rattle.run_events.specs.Events.{Event, after_event, state_before_notes}
use Rattle.run_events.specs.States.{RunState}
use Rattle.serve_loop.specs.Served.{DiskReport, IsServed, WorldReport}
use Rattle.serve_loop.specs.Turns.{turn_events, with_cut}
use Rattle.serve_loop.specs.declared.serving.ServeEnd.{ServeEnd}

-- how many of the events say that the disk failed
abbrev pub count_failed : List Event → ℕ
count_failed events = count_by (λ (e : Event). e.conditions.disk_failed) events

-- in all of the events together at most so many requests and flushes are spoilt
abbrev pub EventsSpoilAtMost : ℕ → RunState → List Event → Type 0
EventsSpoilAtMost n w [] = Unit {0}
EventsSpoilAtMost n w (e ∷ events) = (here : ℕ) × (later : ℕ) × (here + later ≤ n) × SpoilAtMost here (state_before_notes w e e.step) e.body × EventsSpoilAtMost later (after_event w e) events

-- The disk failed in at most as many events as its count of faults rose by in the session, and they spoil at most as many requests and flushes,
-- unless that count ends at the end of its type.
abbrev pub FailuresAreCounted : Type 0
FailuresAreCounted = (w : RunState) (limit : ℕ) (end : ServeEnd) (disk : DiskReport) (world : WorldReport) (s : IsServed w limit end disk world) → disk.faults_new < greatest_u64
    → (count_failed (turn_events (with_cut s.turns s.cut)) ≤ disk.faults_new - disk.faults_old) × EventsSpoilAtMost (disk.faults_new - disk.faults_old) w (turn_events (with_cut s.turns s.cut))
