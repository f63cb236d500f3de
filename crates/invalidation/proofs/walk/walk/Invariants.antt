use Rattle.std.proofs.Common.{◌≡◌, ◌<◌, ◌≤◌, ◌-◌, length}
use Rattle.docroot_changes.specs.Changes.{Told}
use Rattle.docroot_changes.specs.DocrootCalls.{MakesDocrootCalls}
use Rattle.invalidation.specs.Walks.{Walked}
use Rattle.invalidation.proofs.walk.walk.Given as goal

abbrev pub invariant-loop-place : goal.invariant-loop-place
invariant-loop-place g l = record {
  walked : Told (Walked l.prefixes l.initial.place l.place (64 - l.left)) (g.D.Disk.files l.initial.disk) (g.D.Disk.files l.disk);
  some : 0 < l.left;
  most : l.left ≤ 64;
  faults : g.D.Disk.faults l.disk ≡ g.D.Disk.faults l.initial.disk;
  calls : MakesDocrootCalls (g.D.Disk.calls l.initial.disk) (g.D.Disk.calls l.disk);
}

abbrev pub decreases-loop-place : goal.decreases-loop-place
decreases-loop-place g l = length l.prefixes - l.place.prefix
