use Rattle.std.proofs.Common.{◌≡◌, ◌≤◌, ℕ, List, take}
use Rattle.std.specs.Prelude.{◌&&◌, not}
use Rattle.script_rank.specs.Index.{has_path}
use Rattle.script_rank.proofs.index.ScriptIndex.forget_each.Given as goal

abbrev pub invariant-loop-path : goal.invariant-loop-path
invariant-loop-path l = record {
  scripts : (q : List (List ℕ)) → has_path l.self.scripts q ≡ (has_path l.fn.self.scripts q && not (has_path (take l.path-index l.gone) q));
  room : l.fn.self.room ≤ l.self.room;
}
