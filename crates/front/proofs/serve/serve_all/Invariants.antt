use Rattle.std.specs.Prelude.{false}
use Rattle.run_events.specs.States.{RunState}
use Rattle.front.specs.Boards.{OpenStandsFor}
use Rattle.front.specs.Caches.{behind}
use Rattle.front.specs.KeptConnections.{work_of}
use Rattle.front.specs.Serving.{NotesThen}
use Rattle.front.specs.Uses.{UsesDisk}
use Rattle.front.proofs.serve.serve_all.Given as goal

abbrev pub invariant-loop-effect : goal.invariant-loop-effect
invariant-loop-effect g l = record {
  given : (w : RunState) → OpenStandsFor w l.fn.c l.fn.connection (behind l.fn.cache (g.D.Disk.files l.fn.disk) (g.D.Disk.faults l.fn.disk))
      → NotesThen false l.effect w l.fn.c l.connection (behind l.fn.cache (g.D.Disk.files l.fn.disk) (g.D.Disk.faults l.fn.disk)) (behind l.cache (g.D.Disk.files l.disk) (g.D.Disk.faults l.disk));
  disk : UsesDisk (g.D.Disk.faults l.fn.disk) (g.D.Disk.faults l.disk) (g.D.Disk.calls l.fn.disk) (g.D.Disk.calls l.disk);
}

abbrev pub decreases-loop-effect : goal.decreases-loop-effect
decreases-loop-effect g l = work_of l.connection
