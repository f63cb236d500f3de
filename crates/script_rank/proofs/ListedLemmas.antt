-- Paths in their order: what a binary search says of them, and what an insert and a removal leave.
use Rattle.std.proofs.Common.{◌≡◌, ◌<◌, ◌≤◌, ◌+◌, ◌-◌, ℕ, Bool, true, false, cond, List, [], ◌∷◌, ◌++◌, Result, Ok, Err, length, get_or, take, refl, sym, ◌∙◌, ap, ⊎_elim, arith}
use Rattle.std.specs.Prelude.{◌&&◌, ◌||◌, is_ok, nat_eq, not}
use Rattle.std.specs.declared.cmp.Ordering.{Ordering}
use Rattle.std.specs.declared.cmp.Ordering.TheVariants.{Less, Equal, Greater}
use Rattle.std.specs.Cmp.Lexicographic.{pointwise, nat_list_cmp_total, nat_list_eq_equiv, same_text, slice_cmp}
use Rattle.std.specs.List.{AllPairs, dedup, dedup_from, filter, insert, remove}
use Rattle.std.specs.List.Sorted.{IsBinarySearchResult, IsPartitionPoint, IsSearchInRange, IsSorted, IsStrictlySortedBy}
use Rattle.std.specs.Result.{is_err}
use Rattle.std.specs.Ordering.{is_eq, is_lt, nat_cmp, ordering_reverse, ordering_then}
use Rattle.std.proofs.lemmas.Bool.{and_from, and_parts, cases_Bool, cases_eq, cases_lt, cases_order, false_from_ne_true, false≢true, true≢false}
use Rattle.std.proofs.lemmas.Cmp.{tied_back, tied_itself}
use Rattle.std.proofs.lemmas.List.Edits.{get_or-insert_above, get_or-insert_at, get_or-insert_below, length-insert}
use Rattle.std.proofs.lemmas.List.Folds.{list_any-append, list_any_at, list_any_more, list_any_none}
use Rattle.std.proofs.lemmas.List.Quantifiers.{all_pairs_remove}
use Rattle.std.proofs.lemmas.List.Sorted.{IsPermutation-insert, IsPermutation-remove, list_any-IsPermutation, ranks_by, searchable_from_sorted, sorted_far}
use Rattle.std.proofs.lemmas.Map.Keys.{Less-from_sorted, sorted_from_all_adjacent}
use Rattle.std.proofs.lemmas.Map.Lookups.{exact_bytes}
use Rattle.sp_base.specs.Texts.{Segments}
use Rattle.sp_base.specs.PathExact.{exact_paths}
use Rattle.sp_base.specs.Paths.{by_path, is_under}
use Rattle.sp_base.proofs.BoolLemmas.{or_false}
use Rattle.sp_base.proofs.OrderingLemmas.{by_path_total}
use Rattle.resource_tree.specs.Content.{same_path}
use Rattle.resource_tree.proofs.PathLemmas.{path_from_same}
use Rattle.resource_tree.proofs.Under.{under_root, under_self}
use Rattle.script_rank.specs.Index.{has_path}
use Rattle.script_rank.specs.ScriptPlaceSearch.{has_under}

abbrev less : Segments → Segments → Bool
less p q = is_lt (by_path p q)

abbrev same : List ℕ → List ℕ → Bool
same = pointwise nat_eq

-- ---- paths in their order, each once

follow : (xs : List Segments) (k : ℕ) (d : Segments) → IsStrictlySortedBy by_path xs → k + 1 < length xs → by_path (get_or xs k d) (get_or xs (k + 1) d) ≡ Less
follow xs k d up within = Less-from_sorted by_path xs k (k + 1) d up (omega arith) within

-- ---- one path and another

one_path : (p q : Segments) → by_path p q ≡ Equal → p ≡ q
one_path p q e = exact_paths p q e

apart_below : (x y : Segments) → by_path y x ≡ Less → same_path x y ≡ false
apart_below x y e = ap is_eq (by_path_total.antisymm x y ∙ ap ordering_reverse e)

apart_above : (x y : Segments) → by_path y x ≡ Greater → same_path x y ≡ false
apart_above x y e = ap is_eq (by_path_total.antisymm x y ∙ ap ordering_reverse e)

not_below : (x y : Segments) → by_path y x ≡ Less → less x y ≡ false
not_below x y e = ap is_lt (by_path_total.antisymm x y ∙ ap ordering_reverse e)

above : (x y : Segments) → by_path y x ≡ Greater → by_path x y ≡ Less
above x y e = by_path_total.antisymm x y ∙ ap ordering_reverse e

-- a list of paths in their order, each once, is sorted
pub rises : (xs : List Segments) → IsStrictlySortedBy by_path xs → IsSorted by_path xs
rises xs up k d from within = not_below (get_or xs (k + 1) d) (get_or xs k d) (follow xs k d up within)

-- ---- a path below another

-- none is before it
not_under_below : (p q : Segments) → by_path q p ≡ Less → is_under q p ≡ false
not_under_below [] [] e = absurd (false≢true (ap is_lt e))
not_under_below [] (a ∷ q) e = absurd (false≢true (ap is_lt e))
not_under_below (s ∷ p) [] e = refl
not_under_below (s ∷ p) (a ∷ q) e = false_from_ne_true (is_under (a ∷ q) (s ∷ p)) (λ h.
    let parts = and_parts (same s a) (is_under q p) h in
    let one : s ≡ a = same_text s a (sym parts.0) in
    let tied : slice_cmp nat_cmp a s ≡ Equal = ap (slice_cmp nat_cmp a) one ∙ tied_itself nat_list_cmp_total a in
    let rest : by_path q p ≡ Less = sym (ap (λ o. ordering_then o (by_path q p)) tied) ∙ e in
    true≢false (sym parts.1 ∙ not_under_below p q rest))

-- they stand right after it, one beside the other
between_by : (s r a : List ℕ) (p m q : Segments) (o : Ordering) → slice_cmp nat_cmp r s ≡ o → s ≡ a → by_path (r ∷ m) (s ∷ p) ≡ Greater → less (a ∷ q) (r ∷ m) ≡ false
    → (by_path m p ≡ Greater → less q m ≡ false → is_under m p ≡ true) → is_under (r ∷ m) (s ∷ p) ≡ true
between_by s r a p m q Less is one above up rest = absurd (true≢false (ap is_lt (sym (ap (λ t. ordering_then t (by_path m p)) is) ∙ above)))
between_by s r a p m q Equal is one above up rest =
    let back : slice_cmp nat_cmp a r ≡ Equal = ap (λ t. slice_cmp nat_cmp t r) (sym one) ∙ tied_back nat_list_cmp_total r s is in
    let first : r ≡ s = exact_bytes r s is in
    let equal : same s r ≡ true = ap (same s) first ∙ nat_list_eq_equiv.refl s in
    and_from (same s r) (is_under m p) equal
    (rest (sym (ap (λ t. ordering_then t (by_path m p)) is) ∙ above) (sym (ap (λ t. is_lt (ordering_then t (by_path q m))) back) ∙ up))
between_by s r a p m q Greater is one above up rest =
    let back : slice_cmp nat_cmp a r ≡ Less = ap (λ t. slice_cmp nat_cmp t r) (sym one) ∙ nat_list_cmp_total.antisymm s r ∙ ap ordering_reverse is in
    absurd (true≢false (sym (ap (λ t. is_lt (ordering_then t (by_path q m))) back) ∙ up))

between : (p m q : Segments) → by_path m p ≡ Greater → less q m ≡ false → is_under q p ≡ true → is_under m p ≡ true
between [] m q above up h = under_root m
between (s ∷ p) m [] above up h = absurd (false≢true h)
between (s ∷ p) [] (a ∷ q) above up h = absurd (true≢false (ap is_lt above))
between (s ∷ p) (r ∷ m) (a ∷ q) above up h =
    let parts = and_parts (same s a) (is_under q p) h in
    between_by s r a p m q (slice_cmp nat_cmp r s) refl (same_text s a (sym parts.0)) above up (λ g u. between p m q g u parts.1)

-- ---- a search

abbrev pub IsFound : List Segments → Segments → Result ℕ ℕ → Type 0
IsFound xs x r = IsBinarySearchResult (λ y. by_path y x) xs r

abbrev IsPosition : List Segments → Segments → ℕ → Type 0
IsPosition xs x i = IsPartitionPoint (λ y. by_path y x ≡ Less) (λ y. by_path y x ≡ Greater) xs i

position_found : (xs : List Segments) (x : Segments) (i : ℕ) → IsSorted by_path xs → IsFound xs x (Err i) → IsPosition xs x i
position_found xs x i up found = found (searchable_from_sorted by_path_total (λ p. p) xs x up)

found_at : (xs : List Segments) (x : Segments) (i : ℕ) → IsFound xs x (Ok i) → get_or xs i x ≡ x
found_at xs x i found = one_path (get_or xs i x) x (found x)

listed : (xs : List Segments) (x : Segments) (i : ℕ) → i < length xs → IsFound xs x (Ok i) → has_path xs x ≡ true
listed xs x i within found = list_any_at (same_path x) xs i x within (ap is_eq (tied_back by_path_total (get_or xs i x) x (found x)))

not_listed : (xs : List Segments) (x : Segments) (i : ℕ) → IsPosition xs x i → has_path xs x ≡ false
not_listed xs x i (low, high) = list_any_none (same_path x) xs (λ k d within. ⊎_elim
    (λ (before : k < i). apart_below x (get_or xs k d) (low k d (omega arith) before))
    (λ (after : i ≤ k). apart_above x (get_or xs k d) (high k d after within))
    (cases_lt k i))

pub lists_is : (xs : List Segments) (x : Segments) (r : Result ℕ ℕ) → IsSorted by_path xs → IsSearchInRange r (length xs) → IsFound xs x r → is_ok r ≡ has_path xs x
lists_is xs x (Ok i) up range found = sym (listed xs x i range found)
lists_is xs x (Err i) up range found = sym (not_listed xs x i (position_found xs x i up found))

pub lacks_is : (xs : List Segments) (x : Segments) (r : Result ℕ ℕ) → IsSorted by_path xs → IsSearchInRange r (length xs) → IsFound xs x r → is_err r ≡ not (has_path xs x)
lacks_is xs x r up range found = err_or_ok r ∙ ap not (lists_is xs x r up range found)
  where
    err_or_ok : (r : Result ℕ ℕ) → is_err r ≡ not (is_ok r)
    err_or_ok (Ok i) = refl
    err_or_ok (Err i) = refl

pub under_found : (xs : List Segments) (x : Segments) (i : ℕ) → i < length xs → IsFound xs x (Ok i) → has_under xs x ≡ true
under_found xs x i within found = list_any_at (λ p. is_under p x) xs i x within (ap (λ p. is_under p x) (found_at xs x i found) ∙ under_self x)

-- no path is below, where the next isn't
none_under : (xs : List Segments) (x : Segments) (i : ℕ) → IsSorted by_path xs → IsPosition xs x i → ((d : Segments) → i < length xs → is_under (get_or xs i d) x ≡ false) → has_under xs x ≡ false
none_under xs x i up (low, high) next = list_any_none (λ p. is_under p x) xs (λ k d within. ⊎_elim
    (λ (before : k < i). not_under_below x (get_or xs k d) (low k d (omega arith) before))
    (λ (after : i ≤ k). false_from_ne_true (is_under (get_or xs k d) x) (λ h.
    let here : i < length xs = omega (arith, after, within) in
    true≢false (sym (between x (get_or xs i d) (get_or xs k d) (high i d (omega arith) here) (sorted_far less (ranks_by by_path_total (λ p. p)) xs up i k d after within) h) ∙ next d here)))
    (cases_lt k i))

under_by : (xs : List Segments) (x : Segments) (i : ℕ) (t : Bool) (next : Segments) → IsSorted by_path xs → IsPosition xs x i → i < length xs → ((d : Segments) → next ≡ get_or xs i d) → is_under next x ≡ t → t ≡ has_under xs x
under_by xs x i true next up at within is h = sym (list_any_at (λ p. is_under p x) xs i next within (ap (λ p. is_under p x) (sym (is next)) ∙ h))
under_by xs x i false next up at within is h = sym (none_under xs x i up at (λ d here. ap (λ p. is_under p x) (sym (is d)) ∙ h))

pub under_next : (xs : List Segments) (x : Segments) (i : ℕ) (next : Segments) → IsSorted by_path xs → IsFound xs x (Err i) → i < length xs → ((d : Segments) → next ≡ get_or xs i d) → is_under next x ≡ has_under xs x
under_next xs x i next up found within is = under_by xs x i (is_under next x) next up (position_found xs x i up found) within is refl

pub under_none : (xs : List Segments) (x : Segments) (i : ℕ) → IsSorted by_path xs → IsFound xs x (Err i) → length xs ≤ i → has_under xs x ≡ false
under_none xs x i up found past = none_under xs x i up (position_found xs x i up found) (λ d within. absurd (omega (arith, past, within)))

-- ---- an insert

or_swap : (a b : Bool) → (a || b) ≡ (b || a)
or_swap true true = refl
or_swap true false = refl
or_swap false true = refl
or_swap false false = refl

pub inserted : (xs : List Segments) (i : ℕ) (x q : Segments) → has_path (insert xs i x) q ≡ (has_path xs q || same_path q x)
inserted xs i x q = sym (list_any-IsPermutation (same_path q) (x ∷ xs) (insert xs i x) (IsPermutation-insert xs i x)) ∙ or_swap (same_path q x) (has_path xs q)

-- what is there already needn't be added
pub listed_twice : (xs : List Segments) (i : ℕ) (x q : Segments) → i < length xs → IsFound xs x (Ok i) → has_path xs q ≡ (has_path xs q || same_path q x)
listed_twice xs i x q within found = ⊎_elim
    (λ (e : same_path q x ≡ true). there q (tells_one q x e))
    (λ (e : same_path q x ≡ false). sym (ap (λ b. has_path xs q || b) e ∙ or_none (has_path xs q)))
    (cases_Bool (same_path q x))
  where
    or_none : (a : Bool) → (a || false) ≡ a
    or_none true = refl
    or_none false = refl

    tells_one : (q x : Segments) → same_path q x ≡ true → q ≡ x
    tells_one q x e = path_from_same q x e

    there : (q : Segments) → q ≡ x → has_path xs q ≡ (has_path xs q || same_path q x)
    there q e = let yes : has_path xs q ≡ true = ap (has_path xs) e ∙ listed xs x i within found in yes ∙ sym (ap (λ b. b || same_path q x) yes)

pub rises_insert : (xs : List Segments) (i : ℕ) (x : Segments) → IsStrictlySortedBy by_path xs → i ≤ length xs → IsFound xs x (Err i) → IsStrictlySortedBy by_path (insert xs i x)
rises_insert xs i x up le found =
    let (low, high) = position_found xs x i (rises xs up) found in
    let ys = insert xs i x in
    let size : length ys ≡ length xs + 1 = length-insert xs i x le in
    sorted_from_all_adjacent by_path_total ys x (λ k within. ⊎_elim
    (λ (last : k + 1 ≡ i).
    let here : get_or ys (k + 1) x ≡ x = ap (λ n. get_or ys n x) last ∙ get_or-insert_at xs i x x le in
    ap (by_path (get_or ys k x)) here ∙ ap (λ y. by_path y x) (get_or-insert_below xs i x x k (omega (arith, last)) le) ∙ low k x (omega arith) (omega (arith, last)))
    (λ other. ⊎_elim
    (λ (before : k + 1 < i).
    ap (by_path (get_or ys k x)) (get_or-insert_below xs i x x (k + 1) before le) ∙ ap (λ y. by_path y (get_or xs (k + 1) x)) (get_or-insert_below xs i x x k (omega (arith, before)) le)
    ∙ follow xs k x up (omega (arith, before, le)))
    (λ (after : i < k + 1).
    let next : get_or ys (k + 1) x ≡ get_or xs k x = get_or-insert_above xs i x x k (omega (arith, after)) le in
    ⊎_elim
    (λ (first : k ≡ i).
    ap (by_path (get_or ys k x)) next ∙ ap (λ y. by_path y (get_or xs k x)) (ap (λ n. get_or ys n x) first ∙ get_or-insert_at xs i x x le)
    ∙ above x (get_or xs k x) (high k x (omega (arith, after)) (omega (arith, within, size))))
    (λ ne.
    let one : (k - 1) + 1 ≡ k = omega (arith, after, ne) in
    let under : get_or ys k x ≡ get_or xs (k - 1) x = ap (λ n. get_or ys n x) (sym one) ∙ get_or-insert_above xs i x x (k - 1) (omega (arith, after, ne)) le in
    ap (by_path (get_or ys k x)) next ∙ ap (λ y. by_path y (get_or xs k x)) under ∙ ap (λ n. by_path (get_or xs (k - 1) x) (get_or xs n x)) (sym one)
    ∙ follow xs (k - 1) x up (omega (arith, one, within, size)))
    (cases_eq k i))
    other)
    (cases_order (k + 1) i))

-- ---- a removal

pub removed : (xs : List Segments) (i : ℕ) (x q : Segments) → i < length xs → IsFound xs x (Ok i) → has_path xs q ≡ (same_path q x || has_path (remove xs i) q)
removed xs i x q within found = list_any-IsPermutation (same_path q) xs (x ∷ remove xs i) (IsPermutation-remove xs i x within (sym (found_at xs x i found)))

pub rises_remove : (xs : List Segments) (i : ℕ) → IsStrictlySortedBy by_path xs → i < length xs → IsStrictlySortedBy by_path (remove xs i)
rises_remove xs i up within =
    let pairs : AllPairs (λ p q. by_path p q ≡ Less) xs = λ j k d before inside. Less-from_sorted by_path xs j k d up before inside in
    let left : AllPairs (λ p q. by_path p q ≡ Less) (remove xs i) = all_pairs_remove (λ p q. by_path p q ≡ Less) xs i within pairs in
    sorted_from_all_adjacent by_path_total (remove xs i) [] (λ k inside. left k (k + 1) [] (omega arith) inside)

-- a path that a search doesn't find is none of those that are left
pub forgotten : (xs ys : List Segments) (x q : Segments) (i : ℕ) → IsSorted by_path ys → IsFound ys x (Err i) → (has_path ys q || same_path q x) ≡ (has_path xs q || same_path q x) → has_path ys q ≡ (has_path xs q && not (same_path q x))
forgotten xs ys x q i up found alike = ⊎_elim
    (λ (e : same_path q x ≡ true).
    ap (has_path ys) (path_from_same q x e) ∙ not_listed ys x i (position_found ys x i up found) ∙ sym (and_none (has_path xs q)) ∙ ap (λ b. has_path xs q && not b) (sym e))
    (λ (e : same_path q x ≡ false).
    sym (or_none (has_path ys q)) ∙ ap (λ b. has_path ys q || b) (sym e) ∙ alike ∙ ap (λ b. has_path xs q || b) e ∙ or_and (has_path xs q) ∙ ap (λ b. has_path xs q && not b) (sym e))
    (cases_Bool (same_path q x))
  where
    or_none : (a : Bool) → (a || false) ≡ a
    or_none true = refl
    or_none false = refl

    and_none : (a : Bool) → (a && false) ≡ false
    and_none true = refl
    and_none false = refl

    or_and : (a : Bool) → (a || false) ≡ (a && true)
    or_and true = refl
    or_and false = refl

one_step : (a b s : Bool) → a ≡ (s || b) → (b || s) ≡ (a || s)
one_step a true true e = sym (ap (λ t. t || true) e)
one_step a true false e = sym (ap (λ t. t || false) e)
one_step a false true e = sym (ap (λ t. t || true) e)
one_step a false false e = sym (ap (λ t. t || false) e)

-- a step of the loop that takes a path away
pub forgets_one : (xs : List Segments) (i : ℕ) (x q : Segments) → i < length xs → IsFound xs x (Ok i) → (has_path (remove xs i) q || same_path q x) ≡ (has_path xs q || same_path q x)
forgets_one xs i x q within found = one_step (has_path xs q) (has_path (remove xs i) q) (same_path q x) (removed xs i x q within found)

-- ---- many removals, and many inserts

and_true : (a : Bool) → a ≡ (a && true)
and_true true = refl
and_true false = refl

both_gone : (a g s : Bool) → ((a && not g) && not s) ≡ (a && not (g || s))
both_gone true true s = refl
both_gone true false s = refl
both_gone false g s = refl

pub gone_none : (xs : List Segments) (q : Segments) → has_path xs q ≡ (has_path xs q && not (has_path [] q))
gone_none xs q = and_true (has_path xs q)

pub gone_more : (first old new gone : List Segments) (i : ℕ) (x q : Segments) → i < length gone → x ≡ get_or gone i x → has_path old q ≡ (has_path first q && not (has_path (take i gone) q))
    → has_path new q ≡ (has_path old q && not (same_path q x)) → has_path new q ≡ (has_path first q && not (has_path (take (i + 1) gone) q))
gone_more first old new gone i x q within item so_far one =
    one ∙ ap (λ b. b && not (same_path q x)) so_far ∙ both_gone (has_path first q) (has_path (take i gone) q) (same_path q x)
    ∙ ap (λ b. has_path first q && not b) (ap (λ y. has_path (take i gone) q || same_path q y) item ∙ sym (list_any_more (same_path q) gone i x within))

pub any_last : (xs : List Segments) (x q : Segments) → has_path (xs ++ x ∷ []) q ≡ (has_path xs q || same_path q x)
any_last xs x q = list_any-append (same_path q) xs (x ∷ []) ∙ ap (λ b. has_path xs q || b) (or_false (same_path q x))

turn : (c s n : Bool) → ((c || s) || n) ≡ (c || (n || s))
turn true s n = refl
turn false true true = refl
turn false true false = refl
turn false false true = refl
turn false false false = refl

pub put_one : (old new left rest : List Segments) (x q : Segments) (whole : Bool) → left ≡ rest ++ x ∷ [] → has_path new q ≡ (has_path old q || same_path q x) → (has_path old q || has_path left q) ≡ whole → (has_path new q || has_path rest q) ≡ whole
put_one old new left rest x q whole last one so_far =
    ap (λ b. b || has_path rest q) one ∙ turn (has_path old q) (same_path q x) (has_path rest q)
    ∙ ap (λ b. has_path old q || b) (sym (ap (λ xs. has_path xs q) last ∙ any_last rest x q)) ∙ so_far

pub all_put : (new left : List Segments) (q : Segments) (whole : Bool) → left ≡ [] → (has_path new q || has_path left q) ≡ whole → has_path new q ≡ whole
all_put new left q whole none is = sym (ap (λ xs. has_path new q || has_path xs q) none ∙ or_false (has_path new q)) ∙ is

-- ---- many at once

-- what isn't told twice is told
same_again : (q x y : Segments) (rest : Bool) → same_path y x ≡ true → (same_path q x || rest) ≡ (same_path q x || (same_path q y || rest))
same_again q x y rest e = twice (same_path q x) rest ∙ ap (λ p. same_path q x || (same_path q p || rest)) (sym (path_from_same y x e))
  where
    twice : (a b : Bool) → (a || b) ≡ (a || (a || b))
    twice true b = refl
    twice false b = refl

from_one : (x : Segments) (xs : List Segments) (q : Segments) → has_path (dedup_from same_path x xs) q ≡ (same_path q x || has_path xs q)
from_one x [] q = refl
from_one x (y ∷ xs) q = ⊎_elim
    (λ (e : same_path y x ≡ true).
    ap (λ t. has_path (cond t (dedup_from same_path x xs) (x ∷ dedup_from same_path y xs)) q) e ∙ from_one x xs q ∙ same_again q x y (has_path xs q) e)
    (λ (e : same_path y x ≡ false).
    ap (λ t. has_path (cond t (dedup_from same_path x xs) (x ∷ dedup_from same_path y xs)) q) e ∙ ap (λ b. same_path q x || b) (from_one y xs q))
    (cases_Bool (same_path y x))

pub each_once : (xs : List Segments) (q : Segments) → has_path (dedup same_path xs) q ≡ has_path xs q
each_once [] q = refl
each_once (x ∷ xs) q = from_one x xs q

-- those that pass a test
passes : (test : Segments → Bool) (x : Segments) (xs : List Segments) (q : Segments) (t s : Bool) → test x ≡ t → same_path q x ≡ s → has_path (filter test xs) q ≡ (has_path xs q && test q)
    → has_path (cond t (x ∷ filter test xs) (filter test xs)) q ≡ ((same_path q x || has_path xs q) && test q)
passes test x xs q true true holds e rest =
    ap (λ b. b || has_path (filter test xs) q) e ∙ sym (ap test (path_from_same q x e) ∙ holds) ∙ sym (ap (λ b. (b || has_path xs q) && test q) e)
passes test x xs q true false holds e rest = ap (λ b. b || has_path (filter test xs) q) e ∙ rest ∙ sym (ap (λ b. (b || has_path xs q) && test q) e)
passes test x xs q false true fails e rest =
    let none : test q ≡ false = ap test (path_from_same q x e) ∙ fails in
    rest ∙ ap (λ b. has_path xs q && b) none ∙ and_none (has_path xs q) ∙ sym (ap (λ b. (b || has_path xs q) && test q) e ∙ none)
  where
    and_none : (a : Bool) → (a && false) ≡ false
    and_none true = refl
    and_none false = refl
passes test x xs q false false fails e rest = rest ∙ sym (ap (λ b. (b || has_path xs q) && test q) e)

pub passing : (test : Segments → Bool) (xs : List Segments) (q : Segments) → has_path (filter test xs) q ≡ (has_path xs q && test q)
passing test [] q = refl
passing test (x ∷ xs) q = passes test x xs q (test x) (same_path q x) refl refl (passing test xs q)
