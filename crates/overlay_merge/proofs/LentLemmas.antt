-- Properties that are lent, in a map by their names.
use Rattle.std.proofs.Common.{◌≡◌, ◌&&◌, ℕ, Bool, true, not, cond, List, [], ◌∷◌, Bor, nat_cmp, refl, sym, ◌∙◌, ap}
use Rattle.std.specs.List.{AllByRecursion}
use Rattle.std.specs.List.Sorted.{IsStrictlySortedBy}
use Rattle.std.specs.BTreeMap.{insert_entry, is_at}
use Rattle.std.specs.Map.{keys_of, remove_entry}
use Rattle.std.specs.Ordering.{eq_by_cmp, is_eq, is_lt, match_ordering}
use Rattle.std.specs.declared.cmp.Ordering.{Ordering}
use Rattle.std.specs.declared.cmp.Ordering.TheVariants.{Less, Equal, Greater}
use Rattle.std.specs.Cmp.Lexicographic.{nat_list_cmp_total, slice_cmp}
use Rattle.std.specs.FinMap.Entries.{below_all, by_order, is_sorted, put, where_key}
use Rattle.sp_base.specs.Names.{by_name}
use Rattle.sp_base.specs.declared.value.Value.{Value}
use Rattle.overlay_merge.specs.Lent.{properties_lent, property_lent}
use Rattle.overlay_merge.specs.Properties.{put_all}
use Rattle.overlay_merge.proofs.SeenLemmas.{put_sorted}

abbrev pub Lent : Type 0
Lent = List (Bor (List ℕ) × Bor Value)

-- the order of names that are lent
abbrev pub by_lent : Bor (List ℕ) → Bor (List ℕ) → Ordering
by_lent x y = slice_cmp nat_cmp x.now y.now

pub put_lent : (es : Lent) (k : Bor (List ℕ)) (v : Bor Value) → properties_lent (insert_entry by_lent es k v) ≡ put by_name k.now v.now (properties_lent es)
put_lent [] k v = refl
put_lent (e ∷ es) k v =
    elim (by_lent k e.0) as (λ o. properties_lent (match_ordering o ((k, v) ∷ e ∷ es) ((e.0, v) ∷ es) (e ∷ insert_entry by_lent es k v))
    ≡ by_order o ((k.now, v.now) ∷ property_lent e ∷ properties_lent es) ((e.0.now, v.now) ∷ properties_lent es) (property_lent e ∷ put by_name k.now v.now (properties_lent es))) [
      | Less ↦ refl
      | Equal ↦ refl
      | Greater ↦ ap (λ rest. property_lent e ∷ rest) (put_lent es k v)
    ]

-- ---- the names rise

below_lent : (x : Bor (List ℕ)) (es : Lent) → AllByRecursion (λ y. by_lent x y ≡ Less) (keys_of es) → below_all by_name x.now (properties_lent es) ≡ true
below_lent x [] less = refl
below_lent x (e ∷ es) less = ap (λ o. is_lt o && below_all by_name x.now (properties_lent es)) less.0 ∙ below_lent x es less.1

sorted_lent : (es : Lent) → IsStrictlySortedBy by_lent (keys_of es) → is_sorted by_name (properties_lent es) ≡ true
unfolding IsStrictlySortedBy
sorted_lent [] rise = refl
sorted_lent (e ∷ es) rise = ap (λ t. t && is_sorted by_name (properties_lent es)) (below_lent e.0 es rise.0) ∙ sorted_lent es rise.1

-- put one after the other, they are those
pub put_all_lent : (es : Lent) → IsStrictlySortedBy by_lent (keys_of es) → put_all [] (properties_lent es) ≡ properties_lent es
put_all_lent es rise = put_sorted [] (properties_lent es) (sorted_lent es rise)

-- ---- one is taken away

abbrev other_than : List ℕ → List ℕ → Bool
other_than name key = not (eq_by_cmp by_name name key)

-- above a name that ties none has it
none_above : (name : List ℕ) (x : Bor (List ℕ)) (es : Lent) → by_name name x.now ≡ Equal → AllByRecursion (λ y. by_lent x y ≡ Less) (keys_of es)
    → properties_lent es ≡ where_key by_name (other_than name) (properties_lent es)
none_above name x [] tie less = refl
none_above name x (e ∷ es) tie less =
    let rest = where_key by_name (other_than name) (properties_lent es) in
    ap (λ (l : List (List ℕ × Value)). property_lent e ∷ l) (none_above name x es tie less.1)
    ∙ sym (ap (λ o. cond (not (is_eq o)) (property_lent e ∷ rest) rest) (nat_list_cmp_total.congr name x.now e.0.now tie ∙ less.0))

pub remove_lent : (name : List ℕ) (es : Lent) → IsStrictlySortedBy by_lent (keys_of es)
    → properties_lent (remove_entry (is_at (λ (k : Bor (List ℕ)). slice_cmp nat_cmp name k.now)) es) ≡ where_key by_name (other_than name) (properties_lent es)
unfolding IsStrictlySortedBy
remove_lent name [] rise = refl
remove_lent name (e ∷ es) rise =
    let left = remove_entry (is_at (λ (k : Bor (List ℕ)). slice_cmp nat_cmp name k.now)) es in
    let rest = where_key by_name (other_than name) (properties_lent es) in
    let more = ap (λ (l : List (List ℕ × Value)). property_lent e ∷ l) (remove_lent name es rise.1) in
    elim (by_name name e.0.now) as (λ o. by_name name e.0.now ≡ o → properties_lent (cond (is_eq o) es (e ∷ left)) ≡ cond (not (is_eq o)) (property_lent e ∷ rest) rest) [
      | Less ↦ λ tie. more
      | Equal ↦ λ tie. none_above name e.0 es tie rise.0
      | Greater ↦ λ tie. more
    ] refl

-- one more is put at the end
pub copy_step : (props now more : List (List ℕ × Value)) (left : Lent) (e : Bor (List ℕ) × Bor Value) (rest : Lent) (value : Value) → left ≡ e ∷ rest → now ≡ put by_name e.0.now value props → value ≡ e.1.now
    → put_all props (properties_lent left) ≡ more → put_all now (properties_lent rest) ≡ more
unfolding put_all
copy_step props now more left e rest value left_is now_is value_is so_far =
    ap (λ (l : List (List ℕ × Value)). put_all l (properties_lent rest)) (now_is ∙ ap (λ (v : Value). put by_name e.0.now v props) value_is) ∙ sym (ap (λ (l : Lent). put_all props (properties_lent l)) left_is) ∙ so_far

pub copy_end : (props : List (List ℕ × Value)) (left es : Lent) → left ≡ [] → IsStrictlySortedBy by_lent (keys_of es)
    → put_all props (properties_lent left) ≡ put_all [] (properties_lent es) → props ≡ properties_lent es
unfolding put_all
copy_end props left es none rise so_far = sym (ap (λ (l : Lent). put_all props (properties_lent l)) none) ∙ so_far ∙ put_all_lent es rise
