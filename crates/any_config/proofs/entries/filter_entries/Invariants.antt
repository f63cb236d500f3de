use Rattle.std.proofs.Common.{◌≡◌, drop, codes}
use Rattle.any_config.specs.Farms.{each, each_after, entry, filter}
use Rattle.any_config.proofs.entries.filter_entries.Given as goal

abbrev pub invariant-loop-entry : goal.invariant-loop-entry
invariant-loop-entry l = each_after (entry (codes "filter") filter) l.found (drop l.entry-index l.entries) ≡ each (entry (codes "filter") filter) l.entries
