use Rattle.std.proofs.Common.{◌≡◌, ◌++◌, ℕ, List, [], false, drop, nat_cmp}
use Rattle.std.specs.BTreeSet.{contains_by}
use Rattle.std.specs.Cmp.Lexicographic.{slice_cmp}
use Rattle.std.specs.List.{list_any}
use Rattle.std.specs.Str.{bytes_eq}
use Rattle.serde_json.specs.Data.{Members, string}
use Rattle.content_json.specs.Faults.{names_kids}
use Rattle.content_json.specs.Parts.{items_from, HoldsMembers, IfHoldsFitMembers, has_unfit, Lists}
use Rattle.content_json.proofs.open_object.kids_in_order.Given as goal

-- the names are those listed so far, the set has them, and where the rest is good, all is
abbrev pub invariant-loop-text : goal.invariant-loop-text
invariant-loop-text l =
    let left = drop l.text-index l.listed in
    (l.names ++ left ≡ l.listed)
    × ((q : List ℕ) → contains_by (λ k. slice_cmp nat_cmp q k.now) l.first ≡ list_any (bytes_eq q) l.names)
    × IfHoldsFitMembers l.members (λ ms. Lists ms l.listed)
    × ((ms : Members) → (before : List (List ℕ)) × ((q : List ℕ) → contains_by (λ k. slice_cmp nat_cmp q k.now) l.first ≡ list_any (λ other. bytes_eq other q) before)
    × ((levels : ℕ) (path : List (List ℕ)) → HoldsMembers levels path (record { members = l.members }) ms → has_unfit levels ms ≡ false → names_kids ms [] (items_from string l.listed) ≡ names_kids ms before (items_from string left)))
