use Rattle.std.proofs.Common.{◌≡◌, true, take}
use Rattle.std.specs.List.{list_any}
use Rattle.resource_tree.specs.Content.{same_path}
use Rattle.resource_tree.specs.Patches.{patching_at}
use Rattle.url_maps.specs.Claims.{IsLeader}
use Rattle.url_maps.proofs.leaders.first_of.Given as goal

abbrev pub invariant-loop-path : goal.invariant-loop-path
invariant-loop-path l = record {
  among : list_any (same_path l.first) l.paths ≡ true;
  first : IsLeader (patching_at l.tree l.patch) (take l.path-index l.paths) l.first;
}
