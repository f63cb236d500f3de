use Rattle.std.proofs.Common.{◌≡◌, drop}
use Rattle.any_config.specs.Farms.{each, each_after, entry, rule}
use Rattle.any_config.proofs.entries.rules.Given as goal

abbrev pub invariant-loop-entry : goal.invariant-loop-entry
invariant-loop-entry l = each_after (entry l.group rule) l.found (drop l.entry-index l.entries) ≡ each (entry l.group rule) l.entries
