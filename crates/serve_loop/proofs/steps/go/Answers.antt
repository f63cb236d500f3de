use Rattle.std.proofs.Common.{refl}
use Rattle.serve_loop.proofs.StepLemmas.{EventLaws, connection_went}
use Rattle.serve_loop.proofs.steps.go.Goals as goal

pub returns-clause-ok : goal.returns-clause-ok
returns-clause-ok g c told send_faults stage w serves others due =
    let laws : EventLaws = record {
      noted = record {
        notes = c.notes_are_of_connections_that_are_there.ensures.notes;
        begun = c.notes_are_of_connections_that_are_there.ensures.begun;
        brings = c.notes_are_of_connections_that_are_there.ensures.brings;
        shut = c.notes_are_of_connections_that_are_there.ensures.shut;
      };
      due = c.events_leave_nothing_due.ensures.event;
      gone = c.connections_that_go_are_gone.ensures;
      same = c.rounds_take_flights_out_of_the_air.ensures.same;
    } in
    connection_went laws _ _ c.args.c stage w _ (c.in_ok-step.ensures.event.extended w serves.stands) serves others due refl refl
