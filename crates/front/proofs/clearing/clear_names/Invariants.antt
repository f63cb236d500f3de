use Rattle.std.proofs.Common.{◌≡◌}
use Rattle.docroot_changes.specs.Changes.{Told}
use Rattle.docroot_changes.specs.DocrootCalls.{MakesDocrootCalls}
use Rattle.front.proofs.ClearingLemmas.{ClearsTo}
use Rattle.front.proofs.clearing.clear_names.Given as goal

abbrev pub invariant-loop-name : goal.invariant-loop-name
invariant-loop-name g l = record {
  cleared : Told (ClearsTo l.cache_file l.names l.name-index) (g.D.Disk.files l.initial.disk) (g.D.Disk.files l.disk);
  faults : g.D.Disk.faults l.disk ≡ g.D.Disk.faults l.initial.disk;
  calls : MakesDocrootCalls (g.D.Disk.calls l.initial.disk) (g.D.Disk.calls l.disk);
}
