use Rattle.std.proofs.Common.{◌≤◌}
use Rattle.sp_outside.specs.FolderFiles.{WhileTold}
use Rattle.sp_outside.proofs.Begun.{IsCleared}
use Rattle.sp_outside.proofs.opening.remove_all.Given as goal

abbrev pub invariant-loop-name : goal.invariant-loop-name
invariant-loop-name g l = record {
  cleared : WhileTold (IsCleared l.found l.name-index) (g.F.RawFiles.files l.initial.below) (g.F.RawFiles.files l.below);
  rising : g.F.RawFiles.faults l.initial.below ≤ g.F.RawFiles.faults l.below;
}
