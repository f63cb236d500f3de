use Rattle.std.proofs.Common.{◌≡◌, ℕ, List, [], drop, nat_cmp}
use Rattle.std.specs.BTreeSet.{contains_by}
use Rattle.std.specs.Cmp.Lexicographic.{slice_cmp}
use Rattle.std.specs.List.{list_any}
use Rattle.std.specs.Str.{bytes_eq}
use Rattle.serde_json.specs.View.{items_view, members_view}
use Rattle.content_json.specs.Faults.{names_kids}
use Rattle.content_json.proofs.order.names_kids.Given as goal

-- the set has the names so far
abbrev pub invariant-loop-item : goal.invariant-loop-item
invariant-loop-item l =
    let ms = members_view l.members.entries in
    (before : List (List ℕ)) × (names_kids ms [] (items_view l.items) ≡ names_kids ms before (items_view (drop l.item-index l.items)))
    × ((q : List ℕ) → contains_by (λ k. slice_cmp nat_cmp q k.now) l.before ≡ list_any (λ other. bytes_eq other q) before)
