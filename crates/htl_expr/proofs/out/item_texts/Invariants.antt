use Rattle.std.proofs.Common.{◌≡◌, take, map}
use Rattle.htl_expr.specs.Lent.{plain_item}
use Rattle.htl_expr.proofs.out.item_texts.Given as goal

abbrev pub invariant-loop-item : goal.invariant-loop-item
invariant-loop-item l = l.texts ≡ map plain_item (take l.item-index l.items)
