use Rattle.std.proofs.Common.{◌≡◌, drop}
use Rattle.any_config.specs.Farms.{member_value}
use Rattle.any_config.proofs.members.value_of.Given as goal

abbrev pub invariant-loop-member : goal.invariant-loop-member
invariant-loop-member l = member_value l.name (drop l.member-index l.members) ≡ member_value l.name l.members
