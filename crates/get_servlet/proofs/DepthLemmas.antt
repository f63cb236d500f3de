-- Below a path of 64 segments there is no kid, so 64 levels show all.
use Rattle.std.proofs.Common.{◌≡◌, ◌+◌, ◌≤◌, ◌++◌, ℕ, zero, suc, List, [], ◌∷◌, length, Bool, true, false, Option, Some, None, Result, Ok, Err, if◌then◌else◌, refl, sym, ◌∙◌, ap, subst, arith, length-append, is_some}
use Rattle.std.specs.Prelude.{◌==◌, option_map}
use Rattle.std.specs.List.{list_any, position}
use Rattle.std.proofs.lemmas.List.Splits.{length-slice_split}
use Rattle.std.specs.FinMap.Entries.{find}
use Rattle.json.specs.Json.{Json, object, Members, no_members, member}
use Rattle.json.specs.Tree.{json_tokens}
use Rattle.json.specs.Print.{print}
use Rattle.sp_base.specs.Names.{by_name}
use Rattle.sp_base.specs.Paths.{is_empty, is_dots, is_long, pieces, fault_of, child_of}
use Rattle.sp_base.specs.declared.path.PathFault.{PathFault}
use Rattle.sp_base.proofs.PathLemmas.{path_made_is}
use Rattle.sp_base.proofs.PathTests.{no_fault_of_path, pieces_fit}
use Rattle.resource_tree.specs.Seen.{Resource, Seen}
use Rattle.property_json.specs.PropertyJson.{members_before}
use Rattle.get_servlet.specs.declared.kids.Kid.{Kid}
use Rattle.get_servlet.specs.Rendering.{make_kid, kid_seen, kid_of_name, shown_kid, kid_before, members_of_kids, resource_json, json_text}

-- ---- a path that was made has at most 64 segments

-- a path one or more segments longer, of at most 64
record IsBelow (path kid : List (List ℕ)) : Type 0 where
  pub longer : length path + 1 ≤ length kid
  pub short : length kid ≤ 64

child_below : (segs : List (List ℕ)) (name : List ℕ) (path : List (List ℕ)) → child_of segs name ≡ Ok path → IsBelow segs path
child_below segs name path is =
    let made = segs ++ pieces name in
    let same : path ≡ made = path_made_is _ _ path is in
    let short = pieces_fit (list_any is_empty made) (list_any is_dots made) (position is_long made) (length made) (no_fault_of_path (fault_of made) made path is) in
    let size = ap length same ∙ length-append segs (pieces name) in
    record {
      longer = omega (arith, size, length-slice_split (λ b. b == 47) name);
      short = omega (arith, ap length same, short);
    }

seen_below : (seen : Option Resource) (path : List (List ℕ)) (kid : Kid) → option_map (make_kid path) seen ≡ Some kid → kid.path ≡ path
seen_below None path kid e = absurd (cc)
seen_below (Some res) path kid e = let same : make_kid path res ≡ kid = cc in sym (ap (λ k. k.path) same)

made_below : (seen : Seen) (segs : List (List ℕ)) (made : Result (List (List ℕ)) PathFault) → ((path : List (List ℕ)) → made ≡ Ok path → IsBelow segs path)
    → (kid : Kid) → kid_seen seen made ≡ Some kid → IsBelow segs kid.path
made_below seen segs (Err e) below kid is = absurd (cc)
made_below seen segs (Ok path) below kid is = subst (λ p. IsBelow segs p) (sym (seen_below (seen path) path kid is)) (below path refl)

pub unless_property : (there : Bool) (kid : Option Kid) (k : Kid) → (if there then None else kid) ≡ Some k → kid ≡ Some k
unless_property true kid k e = absurd (cc)
unless_property false kid k e = e

kid_below : (seen : Seen) (path : List (List ℕ)) (res : Resource) (name : List ℕ) (kid : Kid) → shown_kid seen path res name ≡ Some kid → IsBelow path kid.path
unfolding shown_kid kid_of_name
kid_below seen path res name kid is =
    made_below seen path (child_of path name) (child_below path name) kid
    (unless_property (is_some (find by_name name res.props)) (kid_seen seen (child_of path name)) kid is)

-- ---- the kids of these names as members

before_none : (name : List ℕ) (json : List (List ℕ) → Resource → Json) (kid : Option Kid) (ms : Members) → ((k : Kid) → kid ≡ Some k → ⊥) → kid_before name json kid ms ≡ ms
before_none name json None ms none = refl
before_none name json (Some kid) ms none = absurd (none kid refl)

members_none : (kid : List ℕ → Option Kid) (json : List (List ℕ) → Resource → Json) (names : List (List ℕ)) → ((name : List ℕ) (k : Kid) → kid name ≡ Some k → ⊥)
    → members_of_kids kid json names ≡ no_members
members_none kid json [] none = refl
members_none kid json (name ∷ names) none = before_none name json (kid name) (members_of_kids kid json names) (none name) ∙ members_none kid json names none

before_same : (name : List ℕ) (f g : List (List ℕ) → Resource → Json) (kid : Option Kid) (ms : Members) → ((k : Kid) → kid ≡ Some k → f k.path k.res ≡ g k.path k.res)
    → kid_before name f kid ms ≡ kid_before name g kid ms
before_same name f g None ms same = refl
before_same name f g (Some kid) ms same = ap (λ j. member name j ms) (same kid refl)

members_same : (kid : List ℕ → Option Kid) (f g : List (List ℕ) → Resource → Json) (names : List (List ℕ)) → ((name : List ℕ) (k : Kid) → kid name ≡ Some k → f k.path k.res ≡ g k.path k.res)
    → members_of_kids kid f names ≡ members_of_kids kid g names
members_same kid f g [] same = refl
members_same kid f g (name ∷ names) same =
    before_same name f g (kid name) (members_of_kids kid f names) (same name) ∙ ap (kid_before name g (kid name)) (members_same kid f g names same)

-- ---- depths that reach below 64 segments show the same

none_left : (seen : Seen) (depth : ℕ) (path : List (List ℕ)) (res : Resource) → 64 ≤ length path → members_of_kids (shown_kid seen path res) (resource_json seen depth) res.kids ≡ no_members
none_left seen depth path res full =
    members_none (shown_kid seen path res) (resource_json seen depth) res.kids
    (λ name kid is. let below = kid_below seen path res name kid is in omega (arith, below.longer, below.short, full))

pub same_at : (seen : Seen) (low high : ℕ) (path : List (List ℕ)) (res : Resource) → 64 ≤ length path + low → 64 ≤ length path + high → resource_json seen low path res ≡ resource_json seen high path res
unfolding resource_json
same_at seen zero zero path res l h = refl
same_at seen zero (suc high) path res l h = ap (λ ms. object (members_before res.props ms)) (sym (none_left seen high path res (omega (arith, l))))
same_at seen (suc low) zero path res l h = ap (λ ms. object (members_before res.props ms)) (none_left seen low path res (omega (arith, h)))
same_at seen (suc low) (suc high) path res l h =
    ap (λ ms. object (members_before res.props ms))
    (members_same (shown_kid seen path res) (resource_json seen low) (resource_json seen high) res.kids
    (λ name kid is. let below = kid_below seen path res name kid is in
    same_at seen low high kid.path kid.res (omega (arith, below.longer, l)) (omega (arith, below.longer, h))))

pub same_text : (seen : Seen) (depth : ℕ) (res : Resource) → 64 ≤ depth → json_text seen depth res ≡ json_text seen 64 res
unfolding json_text
same_text seen depth res deep = ap (λ j. print (json_tokens j)) (same_at seen depth 64 res.path res (omega arith) (omega arith))
