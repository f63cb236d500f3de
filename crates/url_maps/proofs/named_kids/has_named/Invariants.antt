use Rattle.std.proofs.Common.{◌≡◌, false, take}
use Rattle.std.specs.List.{list_any}
use Rattle.url_maps.specs.Siblings.{is_aliased_kid}
use Rattle.url_maps.proofs.named_kids.has_named.Given as goal

abbrev pub invariant-loop-name : goal.invariant-loop-name
invariant-loop-name l = list_any (is_aliased_kid l.tree l.path) (take l.name-index l.names) ≡ false
