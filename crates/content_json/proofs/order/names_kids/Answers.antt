use Rattle.std.proofs.Common.{◌≡◌, ◌∷◌, true, false, sym, ap, ◌∙◌, drop, length, ◌<◌, ◌+◌, arith, Some}
use Rattle.std.proofs.lemmas.Bool.{not-true}
use Rattle.std.proofs.lemmas.Map.Text.{is_eq-slice_cmp}
use Rattle.std.specs.List.{list_any}
use Rattle.std.specs.Str.{bytes_eq}
use Rattle.serde_json.specs.View.{view, items_view, members_view}
use Rattle.serde_json.specs.Find.{as_str}
use Rattle.content_json.specs.Names.{is_kid}
use Rattle.content_json.specs.Faults.{names_kids}
use Rattle.content_json.proofs.OrderLemmas.{names_kids-next, or_from_cond, drop_here}
use Rattle.content_json.proofs.order.names_kids.Goals as goal

pub loop-item-preserved : goal.loop-item-preserved
loop-item-preserved c =
    let inv = c.loop-item.invariant in
    let ms = members_view c.args.members.now.entries in
    let name = c.in-Some.name.now in
    let i = c.loop-item.item-index in
    let text : as_str (view c.item-item.result) ≡ Some name = sym c.in-Some.ensures in
    let kid : is_kid ms name ≡ true = sym c.is_kid.ensures ∙ c.if-not-is_kid.false in
    let apart : list_any (λ other. bytes_eq other name) inv.0 ≡ false = sym (inv.2 name) ∙ not-true _ (sym c.in_ok-insert.ensures.added ∙ c.if-not-branch.false) in
    let within : i < length c.args.items.now = omega arith in
    let here : drop i c.args.items.now ≡ c.item-item.result ∷ drop (i + 1) c.args.items.now = drop_here c.args.items.now i c.item-item.result within c.item-item.is in (
      name ∷ inv.0,
      inv.1 ∙ ap (λ vs. names_kids ms inv.0 (items_view vs)) here ∙ names_kids-next ms inv.0 _ _ name text kid apart,
      λ q. c.in_ok-insert.ensures.updates.0 (record { ref_ptr = (0, 0); now = q }) ∙ rw (is_eq-slice_cmp name q, inv.2 q) (or_from_cond (bytes_eq name q) (list_any (λ other. bytes_eq other q) inv.0)),
    )
