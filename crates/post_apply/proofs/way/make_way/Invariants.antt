use Rattle.std.proofs.Common.{◌≡◌, [], take, drop}
use Rattle.tree_draft.specs.Drafts.{IsSound}
use Rattle.post_apply.specs.Steps.{with_nodes_below}
use Rattle.post_apply.proofs.way.make_way.Given as goal

abbrev pub invariant-loop-n : goal.invariant-loop-n
invariant-loop-n l =
    (with_nodes_below (take l.n l.path) (drop l.n l.path) l.draft.content ≡ with_nodes_below [] l.path l.fn.draft.content) × IsSound l.draft
    × (l.draft.tree ≡ l.fn.draft.tree)
