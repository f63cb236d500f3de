use Rattle.std.proofs.Common.{◌≡◌}
use Rattle.docroot_changes.specs.Changes.{Told}
use Rattle.docroot_changes.specs.DocrootCalls.{MakesDocrootCalls}
use Rattle.invalidation.specs.Walks.{TakenTo}
use Rattle.invalidation.proofs.walk.take_pages.Given as goal

abbrev pub invariant-loop-name : goal.invariant-loop-name
invariant-loop-name g l = record {
  taken : Told (TakenTo l.names l.name-index) (g.D.Disk.files l.initial.disk) (g.D.Disk.files l.disk);
  faults : g.D.Disk.faults l.disk ≡ g.D.Disk.faults l.initial.disk;
  calls : MakesDocrootCalls (g.D.Disk.calls l.initial.disk) (g.D.Disk.calls l.disk);
}
