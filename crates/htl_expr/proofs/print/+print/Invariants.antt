use Rattle.std.proofs.Common.{◌≡◌, ◌≤◌, ◌<◌, ◌++◌, [], take, map, string_bytes, length}
use denote.Text.{Utf8}
use denote.Shadow.{shadow}
use Rattle.htl_expr.specs.Lent.{plain_item}
use Rattle.htl_expr.specs.Print.{in_context, concatenation}
use Rattle.htl_expr.proofs.print.+print.Given as goal

abbrev pub invariant-push_items-loop-item : goal.invariant-push_items-loop-item
invariant-push_items-loop-item l = shadow (Utf8 l.before) × (string_bytes l.text ≡ string_bytes l.fn.text ++ in_context l.context (concatenation l.join (map plain_item (take l.item-index l.items)))) × (length (string_bytes l.text) ≤ l.most) × (l.item-index ≡ 0 → l.before ≡ []) × (0 < l.item-index → l.before ≡ l.join)
