use Rattle.std.proofs.Common.{◌≡◌, ◌≤◌, ◌<◌, ℕ, false, length, take}
use Rattle.url_maps.specs.Mappings.{has_match}
use Rattle.url_maps.proofs.mappings.is_plain.Given as goal

abbrev pub invariant-loop-depth : goal.invariant-loop-depth
invariant-loop-depth l = (k : ℕ) → length l.host_node ≤ k → k < l.depth → has_match l.tree (take k l.path) ≡ false
