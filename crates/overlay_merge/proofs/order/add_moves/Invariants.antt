use Rattle.std.proofs.Common.{◌≡◌, ℕ, List, take}
use Rattle.std.specs.Prelude.{fold}
use Rattle.resource_tree.specs.Content.{kid}
use Rattle.overlay_merge.specs.Kids.{names_after_move, wish_at}
use Rattle.overlay_merge.specs.Slots.{names_after_moves}
use Rattle.overlay_merge.proofs.order.add_moves.Given as goal

abbrev pub invariant-loop-name : goal.invariant-loop-name
invariant-loop-name l = (names : List (List ℕ)) → names_after_moves l.moves.items names ≡ fold (λ so_far name. names_after_move name (wish_at l.tree (kid l.layer.path name)) so_far) (names_after_moves l.fn.moves.items names) (take l.name-index l.layer.kids)
