use Rattle.std.proofs.Common.{◌≡◌}
use Rattle.docroot_changes.specs.Changes.{Told}
use Rattle.docroot_changes.specs.DocrootCalls.{MakesDocrootCalls}
use Rattle.invalidation.specs.Walks.{TouchedTo}
use Rattle.invalidation.proofs.opening.touch_all.Given as goal

abbrev pub invariant-loop-folder : goal.invariant-loop-folder
invariant-loop-folder g l = record {
  touched : Told (TouchedTo l.folders l.folder-index l.stamp) (g.D.Disk.files l.initial.disk) (g.D.Disk.files l.disk);
  faults : g.D.Disk.faults l.disk ≡ g.D.Disk.faults l.initial.disk;
  calls : MakesDocrootCalls (g.D.Disk.calls l.initial.disk) (g.D.Disk.calls l.disk);
}
