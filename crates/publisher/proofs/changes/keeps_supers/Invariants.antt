use Rattle.std.proofs.Common.{◌≡◌, false, take}
use Rattle.std.specs.List.{list_any}
use Rattle.publisher.specs.FirstScripts.{names_super}
use Rattle.publisher.proofs.changes.keeps_supers.Given as goal

abbrev pub invariant-loop-position : goal.invariant-loop-position
invariant-loop-position l = list_any (names_super l.tree) (take l.position l.patch) ≡ false
