use Rattle.std.proofs.Common.{◌≡◌, ◌++◌, ℕ, List, not, filter}
use Rattle.std.specs.BTreeSet.{contains_by}
use Rattle.std.specs.Cmp.Lexicographic.{slice_cmp}
use Rattle.std.specs.Ordering.{nat_cmp}
use Rattle.content_json.specs.Parts.{kid_keys}
use Rattle.content_json.proofs.open_object.add_others.Given as goal

-- the names so far, and those of the kids that are left
abbrev pub invariant-loop-name : goal.invariant-loop-name
invariant-loop-name l =
    let f = λ (name : List ℕ). not (contains_by (λ k. slice_cmp nat_cmp name k.now) l.first) in
    l.names ++ filter f (kid_keys l.name-iterator) ≡ l.initial.names ++ filter f (kid_keys l.members.entries)
