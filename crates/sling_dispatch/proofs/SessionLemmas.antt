-- A session is a run that begins with an empty log and a session.
use Rattle.std.proofs.Common.{◌++◌, List, [], ◌∷◌, false, refl}
use Rattle.resource_tree.specs.Content.{Content}
use Rattle.any_config.specs.declared.farm.Farm.{Farm}
use Rattle.cache_log.specs.Rules.{CallConditions}
use Rattle.run_events.specs.Events.{Event, Run, after_event, state_after_events}
use Rattle.run_events.specs.States.{RunState, start_of}
use Rattle.run_laws.specs.Logs.{IsBeginning, HitsAreFresh, KeptPagesAreServed, RepliesInFlightAreNotStored}
use Rattle.sling_dispatch.specs.Runs.{sling_start}
use Rattle.sling_dispatch.specs.SessionLaws.{SessionHitsAreFresh, SessionRepliesInFlightAreNotStored, SessionsServeKeptPages}

pub session_begins : (farm : Farm) (tree : Content) → IsBeginning (sling_start farm tree)
session_begins farm tree =
    let under : CallConditions = record { disk_failed = false; out_of_memory = false; restarts = false } in
    record { epoch = 1; earlier = []; log_is = refl; legal = ((under, (((λ flight key h. h), (λ flush inv h. h)), tt)), tt) }

pub fresh : HitsAreFresh → SessionHitsAreFresh
fresh law s left events session = law (sling_start session.farm session.tree) events (session_begins session.farm session.tree) session.run

pub not_stored : RepliesInFlightAreNotStored → SessionRepliesInFlightAreNotStored
not_stored law s left events session = law (sling_start session.farm session.tree) events (session_begins session.farm session.tree) session.run

pub one_event : (w : RunState) (before after : List Event) (e : Event) → Run w (before ++ e ∷ after) → Run (state_after_events w before) (e ∷ [])
one_event w [] after e run = (run.0, tt)
one_event w (x ∷ before) after e run = one_event (after_event w x) before after e run.1

pub served : KeptPagesAreServed → SessionsServeKeptPages
served law s left before after e session worked memory =
    let w : RunState = start_of (sling_start session.farm session.tree) in
    law (state_after_events w before) e (one_event w before after e session.run) worked memory
