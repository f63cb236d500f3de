use Rattle.std.proofs.Common.{◌≡◌, length}
use Rattle.tree_draft.specs.Drafts.{IsSound}
use Rattle.post_apply.specs.Steps.{in_turn}
use Rattle.post_apply.specs.Values.{set_at}
use Rattle.post_apply.proofs.values.set_all.Given as goal

abbrev pub invariant-loop-rest : goal.invariant-loop-rest
invariant-loop-rest l =
    (in_turn (set_at l.node) l.rest l.draft.content ≡ in_turn (set_at l.node) l.sets l.fn.draft.content) × IsSound l.draft × (l.draft.tree ≡ l.fn.draft.tree)

abbrev pub decreases-loop-rest : goal.decreases-loop-rest
decreases-loop-rest l = length l.rest
