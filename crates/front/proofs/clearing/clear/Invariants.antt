use Rattle.std.proofs.Common.{◌≡◌, ◌≤◌, length}
use Rattle.sp_outside.specs.FileNames.{names_left}
use Rattle.sp_outside.specs.Files.{longest_file_name}
use Rattle.docroot_changes.specs.Changes.{Told}
use Rattle.docroot_changes.specs.DocrootCalls.{MakesDocrootCalls}
use Rattle.front.proofs.ClearingLemmas.{ClearsUpTo}
use Rattle.front.proofs.clearing.clear.Given as goal

abbrev pub invariant-loop-last : goal.invariant-loop-last
invariant-loop-last g l = record {
  cleared : Told (ClearsUpTo l.cache_file l.last) (g.D.Disk.files l.initial.disk) (g.D.Disk.files l.disk);
  fits : length l.last ≤ longest_file_name;
  faults : g.D.Disk.faults l.disk ≡ g.D.Disk.faults l.initial.disk;
  calls : MakesDocrootCalls (g.D.Disk.calls l.initial.disk) (g.D.Disk.calls l.disk);
}

abbrev pub decreases-loop-last : goal.decreases-loop-last
decreases-loop-last g l = names_left l.last
