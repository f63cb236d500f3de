use Rattle.std.proofs.Common.{◌≡◌}
use Rattle.docroot_changes.specs.DocrootCalls.{MakesDocrootCalls}
use Rattle.front.specs.Boards.{at_disk}
use Rattle.run_events.specs.States.{RunState}
use Rattle.run_laws.specs.Rounds.{AreUnrendered}
use Rattle.serve_loop.specs.Steps.{IsServing, LandsSome, server_at}
use Rattle.serve_loop.proofs.rounds.land_all.Given as goal

abbrev pub invariant-loop-round : goal.invariant-loop-round
invariant-loop-round g l = record {
  lands : (w : RunState)
      → IsServing (server_at g.R.Renderer.publishing (g.R.Renderer.content l.initial.front.renderer) (at_disk l.initial.front.board (g.D.Disk.files l.initial.disk) (g.D.Disk.faults l.initial.disk)) (g.W.World.log l.initial.world) (g.W.World.send_faults l.initial.world)) w
      → AreUnrendered w.flights
      → LandsSome (server_at g.R.Renderer.publishing (g.R.Renderer.content l.initial.front.renderer) (at_disk l.initial.front.board (g.D.Disk.files l.initial.disk) (g.D.Disk.faults l.initial.disk)) (g.W.World.log l.initial.world) (g.W.World.send_faults l.initial.world))
      (server_at g.R.Renderer.publishing (g.R.Renderer.content l.front.renderer) (at_disk l.front.board (g.D.Disk.files l.disk) (g.D.Disk.faults l.disk)) (g.W.World.log l.world) (g.W.World.send_faults l.world)) l.round w;
  next_count : g.W.World.next_faults l.world ≡ g.W.World.next_faults l.initial.world;
  calls : MakesDocrootCalls (g.D.Disk.calls l.initial.disk) (g.D.Disk.calls l.disk);
}
