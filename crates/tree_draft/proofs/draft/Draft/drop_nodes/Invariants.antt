use Rattle.std.proofs.Common.{◌≡◌, ℕ, List, cond, take, None}
use Rattle.std.specs.List.{list_any}
use Rattle.std.specs.List.Sorted.{IsStrictlySortedBy}
use Rattle.std.specs.Map.{keys_of}
use Rattle.resource_tree.specs.Content.{by_path, same_path, node_at}
use Rattle.tree_draft.specs.Drafts.{IsCounted}
use Rattle.tree_draft.proofs.draft.Draft.drop_nodes.Given as goal

abbrev pub invariant-loop-below : goal.invariant-loop-below
invariant-loop-below l =
    ((q : List (List ℕ)) → node_at l.self.content q ≡ cond (list_any (same_path q) (take l.below-index l.paths)) None (node_at l.fn.self.content q))
    × IsStrictlySortedBy by_path (keys_of l.self.content) × IsCounted l.self × (l.self.tree ≡ l.fn.self.tree)
