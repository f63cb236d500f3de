-- Runs, event by event.
use Rattle.std.proofs.Common.{◌≡◌, ◌++◌, List, [], ◌∷◌, refl}
use Rattle.run_events.specs.States.{RunState}
use Rattle.run_events.specs.Events.{Event, Run, Happens, state_after_events, after_event}

pub run_push : (w : RunState) (events : List Event) (e : Event) → Run w events → Happens (state_after_events w events) e → Run w (events ++ e ∷ [])
run_push w [] e run happens = (happens, tt)
run_push w (first ∷ events) e run happens = (run.0, run_push (after_event w first) events e run.1 happens)

pub after_run_push : (w : RunState) (events : List Event) (e : Event) → state_after_events w (events ++ e ∷ []) ≡ after_event (state_after_events w events) e
after_run_push w [] e = refl
after_run_push w (first ∷ events) e = after_run_push (after_event w first) events e
