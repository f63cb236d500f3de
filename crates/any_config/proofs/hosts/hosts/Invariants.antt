use Rattle.std.proofs.Common.{◌≡◌, drop}
use Rattle.any_config.specs.Farms.{each, each_after, served_host}
use Rattle.any_config.proofs.hosts.hosts.Given as goal

abbrev pub invariant-loop-member : goal.invariant-loop-member
invariant-loop-member l = each_after served_host l.found (drop l.member-index l.served) ≡ each served_host l.served
