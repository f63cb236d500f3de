use Rattle.std.proofs.Common.{◌≡◌, ◌≤◌, ◌<◌, ◌++◌, [], take, map, string_bytes, length}
use denote.Text.{Utf8}
use denote.Shadow.{shadow}
use Rattle.std.specs.Fmt.{signed_decimal}
use Rattle.htl_expr.specs.Print.{in_context, concatenation}
use Rattle.htl_expr.proofs.lists.push_longs.Given as goal

abbrev pub invariant-loop-item : goal.invariant-loop-item
invariant-loop-item l = shadow (Utf8 l.before) × (string_bytes l.text ≡ string_bytes l.fn.text ++ in_context l.context (concatenation l.join (map signed_decimal (take l.item-index l.items)))) × (length (string_bytes l.text) ≤ l.most) × (l.item-index ≡ 0 → l.before ≡ []) × (0 < l.item-index → l.before ≡ l.join)
