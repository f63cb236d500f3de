use Rattle.std.proofs.Common.{◌≤◌}
use Rattle.std.specs.Prelude.{IfSome}
use Rattle.sp_outside.specs.FolderFiles.{HasNoFault, WhileTold}
use Rattle.sp_outside.specs.NameIndex.{IsLeftTaken}
use Rattle.sp_outside.proofs.Left.{IsGoneTo}
use Rattle.sp_outside.proofs.opening.take_left.Given as goal

abbrev pub invariant-loop-name : goal.invariant-loop-name
invariant-loop-name g l = record {
  left : WhileTold IsLeftTaken (g.F.RawFiles.files l.initial.below) (g.F.RawFiles.files l.below);
  gone : HasNoFault (g.F.RawFiles.faults l.initial.below) (g.F.RawFiles.faults l.below) → IfSome (g.F.RawFiles.files l.below) (IsGoneTo l.found l.name-index);
  rising : g.F.RawFiles.faults l.initial.below ≤ g.F.RawFiles.faults l.below;
}
