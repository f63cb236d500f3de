use Rattle.std.proofs.lemmas.Result.{on_err_weaker, on_ok_weaker}
use Rattle.front.specs.Boards.{at_disk}
use Rattle.serve_loop.specs.Steps.{server_at}
use Rattle.serve_loop.proofs.RoundLemmas.{FlightLaws, first_landed, first_rendered, landing_cut}
use Rattle.serve_loop.proofs.rounds.land_first.Goals as goal

pub returns-clause-ok : goal.returns-clause-ok
returns-clause-ok g c =
    let laws : FlightLaws = record {
      rendered = c.rounds_take_flights_out_of_the_air.ensures.rendered;
      landed = c.rounds_take_flights_out_of_the_air.ensures.landed;
      same = c.rounds_take_flights_out_of_the_air.ensures.same;
      unrendered = c.rounds_take_flights_out_of_the_air.ensures.unrendered;
    } in
    let mid = server_at g.R.Renderer.publishing (g.R.Renderer.content c.make.new.front.renderer) (at_disk c.make.new.front.board (g.D.Disk.files c.make.new.disk) (g.D.Disk.faults c.make.new.disk)) (g.W.World.log c.make.new.world) (g.W.World.send_faults c.make.new.world) in
    on_ok_weaker c.make-2.result
    (λ delivers w flying later serving flights unrendered. first_landed laws _ mid _ w flying later (first_rendered laws _ mid w flying later c.in_ok-make.ensures.ok serving flights unrendered) delivers)
    c.make-2.ensures.ok

pub returns-clause-err : goal.returns-clause-err
returns-clause-err g c =
    let laws : FlightLaws = record {
      rendered = c.rounds_take_flights_out_of_the_air.ensures.rendered;
      landed = c.rounds_take_flights_out_of_the_air.ensures.landed;
      same = c.rounds_take_flights_out_of_the_air.ensures.same;
      unrendered = c.rounds_take_flights_out_of_the_air.ensures.unrendered;
    } in
    let mid = server_at g.R.Renderer.publishing (g.R.Renderer.content c.make.new.front.renderer) (at_disk c.make.new.front.board (g.D.Disk.files c.make.new.disk) (g.D.Disk.faults c.make.new.disk)) (g.W.World.log c.make.new.world) (g.W.World.send_faults c.make.new.world) in
    on_err_weaker c.make-2.result
    (λ cuts w flying later serving flights unrendered. landing_cut _ mid _ w flying later (first_rendered laws _ mid w flying later c.in_ok-make.ensures.ok serving flights unrendered) cuts)
    c.make-2.ensures.err

pub returns-clause-calls : goal.returns-clause-calls
returns-clause-calls g c = c.docroot_calls_add_up.ensures.more _ _ _ c.in_ok-make.ensures.calls c.make-2.ensures.calls
