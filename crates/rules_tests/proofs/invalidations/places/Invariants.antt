use Rattle.std.proofs.Common.{All}
use Rattle.sp_base.specs.Fields.{IsFieldWithin}
use Rattle.rules_tests.proofs.invalidations.places.Given as goal

abbrev pub invariant-loop-name : goal.invariant-loop-name
invariant-loop-name l = All (IsFieldWithin l.most) l.places.items
