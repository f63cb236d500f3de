use Rattle.std.proofs.Common.{◌≡◌, ◌≤◌, ℕ, List, length, vec_len}
use Rattle.std.specs.Prelude.{◌||◌}
use Rattle.script_rank.specs.Index.{has_path}
use Rattle.script_rank.proofs.index.ScriptIndex.put_each.Given as goal

abbrev pub invariant-loop-path : goal.invariant-loop-path
invariant-loop-path l = record {
  scripts : (q : List (List ℕ)) → (has_path l.self.scripts q || has_path l.left.items q) ≡ (has_path l.fn.self.scripts q || has_path l.initial.left.items q);
  room : length l.left.items ≤ l.self.room;
}

abbrev pub decreases-loop-path : goal.decreases-loop-path
decreases-loop-path l = vec_len l.left
