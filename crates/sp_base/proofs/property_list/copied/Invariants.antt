use Rattle.std.proofs.Common.{◌≡◌, take}
use Rattle.sp_base.proofs.property_list.copied.Given as goal

abbrev pub invariant-loop-name : goal.invariant-loop-name
invariant-loop-name l = l.copy.items ≡ take l.name-index l.props
