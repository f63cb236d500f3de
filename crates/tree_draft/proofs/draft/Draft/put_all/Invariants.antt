use Rattle.std.proofs.Common.{◌≡◌}
use Rattle.std.specs.List.Sorted.{IsStrictlySortedBy}
use Rattle.std.specs.Map.{keys_of}
use Rattle.resource_tree.specs.Content.{by_path}
use Rattle.resource_tree.specs.Patches.{patching}
use Rattle.tree_draft.specs.Drafts.{IsCounted}
use Rattle.tree_draft.proofs.draft.Draft.put_all.Given as goal

-- the entries that are left make of the content what all made of it at first
abbrev pub invariant-loop-path : goal.invariant-loop-path
invariant-loop-path l =
    (patching l.self.content l.path-iterator ≡ patching l.fn.self.content l.fn.entries.entries) × IsStrictlySortedBy by_path (keys_of l.self.content) × (IsCounted l.fn.self → IsCounted l.self) × (l.self.tree ≡ l.fn.self.tree)
