use Rattle.std.proofs.Common.{refl, subst}
use Rattle.std.proofs.lemmas.Result.{on_err_weaker, on_ok_weaker}
use Rattle.sp_base.proofs.ResultLemmas.{OnErr-from}
use Rattle.front.specs.Boards.{at_disk}
use Rattle.serve_loop.specs.declared.handing.HandedOn.TheVariants.{All, FailedAt, NoMemory}
use Rattle.serve_loop.specs.Hands.{HandsOn}
use Rattle.serve_loop.specs.Steps.{server_at}
use Rattle.serve_loop.proofs.StepLemmas.{EventLaws, cut_at_once, step_failed, step_failed_short, step_made, step_short, step_taken}
use Rattle.serve_loop.proofs.steps.make.Goals as goal

pub returns-in_err-notes-clause-err : goal.returns-in_err-notes-clause-err
returns-in_err-notes-clause-err g c = OnErr-from c.from_residual.result (λ stage w serves awaits due. cut_at_once _ _ stage w refl refl c.in_err-notes.ensures.count)

pub returns-in-All-clause-ok : goal.returns-in-All-clause-ok
returns-in-All-clause-ok g c stage w serves awaits due =
    let laws : EventLaws = record {
      noted = record {
        notes = c.notes_are_of_connections_that_are_there.ensures.notes;
        begun = c.notes_are_of_connections_that_are_there.ensures.begun;
        brings = c.notes_are_of_connections_that_are_there.ensures.brings;
        shut = c.notes_are_of_connections_that_are_there.ensures.shut;
      };
      due = c.events_leave_nothing_due.ensures.event;
      gone = c.connections_that_go_are_gone.ensures;
      same = c.rounds_take_flights_out_of_the_air.ensures.same;
    } in
    let hands = subst (λ notes. HandsOn All (g.W.World.log c.args.world.now) (g.W.World.log c.hand_on.new.world) notes) c.as_slice.ensures c.in-All.ensures.log in
    step_made laws _ _ c.args.step.now stage w (step_taken laws _ _ c.args.step.now stage w All _ (c.in_ok-notes.ensures.event.extended w serves.stands) serves awaits due hands c.in-All.ensures.send_count)

pub returns-in-FailedAt-clause-ok : goal.returns-in-FailedAt-clause-ok
returns-in-FailedAt-clause-ok g c =
    let laws : EventLaws = record {
      noted = record {
        notes = c.notes_are_of_connections_that_are_there.ensures.notes;
        begun = c.notes_are_of_connections_that_are_there.ensures.begun;
        brings = c.notes_are_of_connections_that_are_there.ensures.brings;
        shut = c.notes_are_of_connections_that_are_there.ensures.shut;
      };
      due = c.events_leave_nothing_due.ensures.event;
      gone = c.connections_that_go_are_gone.ensures;
      same = c.rounds_take_flights_out_of_the_air.ensures.same;
    } in
    let told = g.W.World.log c.hand_on.new.world in
    let sends = g.W.World.send_faults c.hand_on.new.world in
    let mid = server_at g.R.Renderer.publishing (g.R.Renderer.content c.step.new.self.renderer) (at_disk c.step.new.self.board (g.D.Disk.files c.step.new.disk) (g.D.Disk.faults c.step.new.disk)) told sends in
    let hands = subst (λ notes. HandsOn (FailedAt c.in-FailedAt.c) (g.W.World.log c.args.world.now) told notes) c.as_slice.ensures c.in-FailedAt.ensures.log in
    on_ok_weaker c.go.result
    (λ goes stage w serves awaits due. step_failed laws _ mid _ c.args.step.now stage w c.in-FailedAt.c
    (step_taken laws _ mid c.args.step.now stage w (FailedAt c.in-FailedAt.c) _ (c.in_ok-notes.ensures.event.extended w serves.stands) serves awaits due hands c.in-FailedAt.ensures.send_count) (goes told sends))
    c.go.ensures.ok

pub returns-in-FailedAt-clause-err : goal.returns-in-FailedAt-clause-err
returns-in-FailedAt-clause-err g c =
    let laws : EventLaws = record {
      noted = record {
        notes = c.notes_are_of_connections_that_are_there.ensures.notes;
        begun = c.notes_are_of_connections_that_are_there.ensures.begun;
        brings = c.notes_are_of_connections_that_are_there.ensures.brings;
        shut = c.notes_are_of_connections_that_are_there.ensures.shut;
      };
      due = c.events_leave_nothing_due.ensures.event;
      gone = c.connections_that_go_are_gone.ensures;
      same = c.rounds_take_flights_out_of_the_air.ensures.same;
    } in
    let told = g.W.World.log c.hand_on.new.world in
    let sends = g.W.World.send_faults c.hand_on.new.world in
    let mid = server_at g.R.Renderer.publishing (g.R.Renderer.content c.step.new.self.renderer) (at_disk c.step.new.self.board (g.D.Disk.files c.step.new.disk) (g.D.Disk.faults c.step.new.disk)) told sends in
    let hands = subst (λ notes. HandsOn (FailedAt c.in-FailedAt.c) (g.W.World.log c.args.world.now) told notes) c.as_slice.ensures c.in-FailedAt.ensures.log in
    on_err_weaker c.go.result
    (λ cuts stage w serves awaits due. step_failed_short laws _ mid _ c.args.step.now stage w c.in-FailedAt.c
    (step_taken laws _ mid c.args.step.now stage w (FailedAt c.in-FailedAt.c) _ (c.in_ok-notes.ensures.event.extended w serves.stands) serves awaits due hands c.in-FailedAt.ensures.send_count) (cuts told sends))
    c.go.ensures.err

pub returns-in-FailedAt-clause-calls : goal.returns-in-FailedAt-clause-calls
returns-in-FailedAt-clause-calls g c = c.docroot_calls_add_up.ensures.more _ _ _ c.in_ok-notes.ensures.calls c.go.ensures.calls

pub returns-clause-err : goal.returns-clause-err
returns-clause-err g c stage w serves awaits due =
    let laws : EventLaws = record {
      noted = record {
        notes = c.notes_are_of_connections_that_are_there.ensures.notes;
        begun = c.notes_are_of_connections_that_are_there.ensures.begun;
        brings = c.notes_are_of_connections_that_are_there.ensures.brings;
        shut = c.notes_are_of_connections_that_are_there.ensures.shut;
      };
      due = c.events_leave_nothing_due.ensures.event;
      gone = c.connections_that_go_are_gone.ensures;
      same = c.rounds_take_flights_out_of_the_air.ensures.same;
    } in
    let hands = subst (λ notes. HandsOn NoMemory (g.W.World.log c.args.world.now) (g.W.World.log c.hand_on.new.world) notes) c.as_slice.ensures c.in-NoMemory.ensures.log in
    step_short _ _ c.args.step.now stage w (step_taken laws _ _ c.args.step.now stage w NoMemory _ (c.in_ok-notes.ensures.event.extended w serves.stands) serves awaits due hands c.in-NoMemory.ensures.send_count)
