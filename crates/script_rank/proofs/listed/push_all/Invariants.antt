use Rattle.std.proofs.Common.{◌≡◌, ◌+◌, ◌≤◌, ℕ, List, length, vec_len}
use Rattle.std.specs.Prelude.{◌||◌, vec_capacity}
use Rattle.script_rank.specs.Index.{has_path}
use Rattle.script_rank.proofs.listed.push_all.Given as goal

abbrev pub invariant-loop-path : goal.invariant-loop-path
invariant-loop-path l = record {
  paths : (q : List (List ℕ)) → (has_path l.paths.items q || has_path l.left.items q) ≡ (has_path l.fn.paths.items q || has_path l.initial.left.items q);
  room : vec_len l.paths + length l.left.items ≤ vec_capacity l.paths;
}

abbrev pub decreases-loop-path : goal.decreases-loop-path
decreases-loop-path l = vec_len l.left
