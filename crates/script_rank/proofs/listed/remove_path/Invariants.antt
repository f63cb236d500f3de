use Rattle.std.proofs.Common.{◌≡◌, ◌≤◌, ℕ, List, vec_len}
use Rattle.std.specs.Prelude.{◌||◌, vec_capacity}
use Rattle.std.specs.List.Sorted.{IsStrictlySortedBy}
use Rattle.sp_base.specs.Paths.{by_path}
use Rattle.resource_tree.specs.Content.{same_path}
use Rattle.script_rank.specs.Index.{has_path}
use Rattle.script_rank.proofs.listed.remove_path.Given as goal

abbrev pub invariant-loop-position : goal.invariant-loop-position
invariant-loop-position l = record {
  order : IsStrictlySortedBy by_path l.paths.items;
  others : (q : List (List ℕ)) → (has_path l.paths.items q || same_path q l.path) ≡ (has_path l.fn.paths.items q || same_path q l.path);
  room : vec_capacity l.paths ≡ vec_capacity l.fn.paths;
  fewer : vec_len l.paths ≤ vec_len l.fn.paths;
}

abbrev pub decreases-loop-position : goal.decreases-loop-position
decreases-loop-position l = vec_len l.paths
