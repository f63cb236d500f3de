-- What entries in order have in common with the entries as they lie.
use Rattle.std.proofs.Common.{◌≡◌, Bool, true, false, cond, T, List, [], ◌∷◌, ◌++◌, refl, sym, ◌∙◌, ap, subst, length, ◌+◌, arith, Some, None}
use Rattle.std.specs.Prelude.{Option, is_some}
use Rattle.std.specs.declared.cmp.Ordering.{Ordering}
use Rattle.std.specs.declared.cmp.Ordering.TheVariants.{Less, Equal, Greater}
use Rattle.std.specs.Ordering.{match_ordering, is_lt, is_eq, eq_by_cmp}
use Rattle.std.specs.BTreeMap.{insert_entry, is_at}
use Rattle.std.specs.Cmp.{IsTotalOrder, eq_by_cmp_equiv}
use Rattle.std.specs.List.{AllByRecursion, IsDistinct}
use Rattle.std.specs.List.Sorted.{IsStrictlySortedBy}
use Rattle.std.specs.Map.{keys_of, lookup, remove_entry}
use Rattle.std.specs.FinMap.Entries.{by_order, put, find, below_all, is_sorted, is_sorted-put, find-put, same_entries, length-put}
use Rattle.std.proofs.lemmas.Bool.{cond_both, true≢false}
use Rattle.std.proofs.lemmas.Map.{lookup-remove_entry, lookup-none}
use Rattle.std.proofs.lemmas.Map.Keys.{sorted_head, sorted_tail, IsDistinct-from_sorted, IsDistinct-head, IsDistinct-tail}
use Rattle.std.proofs.lemmas.Map.Entries.{none_past_head}
use Rattle.std.proofs.lemmas.Map.Lookups.{CmpEqualImpliesEq}
use Rattle.std.proofs.lemmas.Map.Views.{tells_apart}
use Rattle.sp_base.proofs.BoolLemmas.{T_both, T_first, T_second}
use Rattle.sp_base.proofs.OrderingLemmas.{less_from_T}
use Rattle.resource_tree.specs.InOrder.{in_order}

module _ {K X : Type 0} (R : K → K → Ordering) where
  find-is-lookup : (q : K) (es : List (K × X)) → find R q es ≡ lookup (is_at (R q)) es
  find-is-lookup q [] = refl
  find-is-lookup q (e ∷ es) = ap (cond (is_eq (R q e.0)) (Some e.1)) (find-is-lookup q es)

  insert_entry-is-put : (es : List (K × X)) (k : K) (v : X) → insert_entry R es k v ≡ put R k v es
  insert_entry-is-put [] k v = refl
  insert_entry-is-put (e ∷ es) k v =
      elim (R k e.0) as (λ o. match_ordering o ((k, v) ∷ e ∷ es) ((e.0, v) ∷ es) (e ∷ insert_entry R es k v) ≡ by_order o ((k, v) ∷ e ∷ es) ((e.0, v) ∷ es) (e ∷ put R k v es)) [
        | Less ↦ refl
        | Equal ↦ refl
        | Greater ↦ ap (λ l. e ∷ l) (insert_entry-is-put es k v)
      ]

  below_from_test : (k : K) (es : List (K × X)) → T (below_all R k es) → AllByRecursion (λ y. R k y ≡ Less) (keys_of es)
  below_from_test k [] h = tt
  below_from_test k (e ∷ es) h = (less_from_T _ (T_first _ _ h), below_from_test k es (T_second _ _ h))

  test_from_below : (k : K) (es : List (K × X)) → AllByRecursion (λ y. R k y ≡ Less) (keys_of es) → T (below_all R k es)
  test_from_below k [] h = tt
  test_from_below k (e ∷ es) h = T_both _ _ (subst (λ r. T (is_lt r)) (sym h.0) tt) (test_from_below k es h.1)

  sorted_from_test : (es : List (K × X)) → T (is_sorted R es) → IsStrictlySortedBy R (keys_of es)
  unfolding IsStrictlySortedBy
  sorted_from_test [] h = tt
  sorted_from_test (e ∷ es) h = (below_from_test e.0 es (T_first _ _ h), sorted_from_test es (T_second _ _ h))

  test_from_sorted : (es : List (K × X)) → IsStrictlySortedBy R (keys_of es) → T (is_sorted R es)
  test_from_sorted [] h = tt
  test_from_sorted (e ∷ es) h = T_both _ _ (test_from_below e.0 es (sorted_head R e.0 (keys_of es) h)) (test_from_sorted es (sorted_tail R e.0 (keys_of es) h))

  all_without : (P : K → Type 0) (test : K → Bool) (es : List (K × X)) → AllByRecursion P (keys_of es) → AllByRecursion P (keys_of (remove_entry test es))
  all_without P test [] a = tt
  all_without P test (e ∷ es) a = cond_both (test e.0) es (e ∷ remove_entry test es) (λ l. AllByRecursion P (keys_of l)) (λ _. a.1) (λ _. (a.0, all_without P test es a.1))

  pub sorted-remove_entry : (test : K → Bool) (es : List (K × X)) → IsStrictlySortedBy R (keys_of es) → IsStrictlySortedBy R (keys_of (remove_entry test es))
  unfolding IsStrictlySortedBy
  sorted-remove_entry test [] s = tt
  sorted-remove_entry test (e ∷ es) s = cond_both (test e.0) es (e ∷ remove_entry test es) (λ l. IsStrictlySortedBy R (keys_of l)) (λ _. s.1) (λ _. (all_without (λ y. R e.0 y ≡ Less) test es s.0, sorted-remove_entry test es s.1))

  module _ (o : IsTotalOrder R) where
    pub lookup-insert_entry : (q k : K) (v : X) (es : List (K × X)) → lookup (is_at (R q)) (insert_entry R es k v) ≡ cond (is_at (R q) k) (Some v) (lookup (is_at (R q)) es)
    lookup-insert_entry q k v es =
        sym (find-is-lookup q (insert_entry R es k v)) ∙ ap (find R q) (insert_entry-is-put es k v) ∙ find-put R o q k v es ∙ ap (cond (is_eq (R q k)) (Some v)) (find-is-lookup q es)

    pub sorted-insert_entry : (es : List (K × X)) (k : K) (v : X) → IsStrictlySortedBy R (keys_of es) → IsStrictlySortedBy R (keys_of (insert_entry R es k v))
    sorted-insert_entry es k v h =
        sorted_from_test _ (subst (λ (l : List (K × X)). T (is_sorted R l)) (sym (insert_entry-is-put es k v)) (is_sorted-put R o k v es (test_from_sorted es h)))

    pub sorted-in_order : (es : List (K × X)) → IsStrictlySortedBy R (keys_of (in_order R es))
    unfolding in_order IsStrictlySortedBy
    sorted-in_order [] = tt
    sorted-in_order (e ∷ es) = sorted-insert_entry (in_order R es) e.0 e.1 (sorted-in_order es)

    -- a look-up finds in order what it finds as the entries lie
    pub lookup-in_order : (q : K) (es : List (K × X)) → lookup (is_at (R q)) (in_order R es) ≡ lookup (is_at (R q)) es
    unfolding in_order
    lookup-in_order q [] = refl
    lookup-in_order q (e ∷ es) = lookup-insert_entry q e.0 e.1 (in_order R es) ∙ ap (cond (is_eq (R q e.0)) (Some e.1)) (lookup-in_order q es)

    module _ (exact : CmpEqualImpliesEq R) where
      pub same_in_order : (es fs : List (K × X)) → IsStrictlySortedBy R (keys_of es) → IsStrictlySortedBy R (keys_of fs) → ((q : K) → lookup (is_at (R q)) es ≡ lookup (is_at (R q)) fs) → es ≡ fs
      same_in_order es fs s t h =
          same_entries R o exact es fs (test_from_sorted es s) (test_from_sorted fs t) (λ q. find-is-lookup q es ∙ h q ∙ sym (find-is-lookup q fs))

      -- entries with the look-ups of a list in order are that list, once in order
      pub in_order_is : (es fs : List (K × X)) → IsStrictlySortedBy R (keys_of fs) → ((q : K) → lookup (is_at (R q)) es ≡ lookup (is_at (R q)) fs) → in_order R es ≡ fs
      in_order_is es fs t h = same_in_order (in_order R es) fs (sorted-in_order es) t (λ q. lookup-in_order q es ∙ h q)

      -- two lists with the same look-ups are one, once in order
      pub in_order-same : (es fs : List (K × X)) → ((q : K) → lookup (is_at (R q)) fs ≡ lookup (is_at (R q)) es) → in_order R fs ≡ in_order R es
      in_order-same es fs h = in_order_is fs (in_order R es) (sorted-in_order es) (λ q. h q ∙ sym (lookup-in_order q es))

      -- a value that is put at a key
      pub in_order-put : (es fs : List (K × X)) (k : K) (v : X) → ((q : K) → lookup (is_at (R q)) fs ≡ cond (is_at (R k) q) (Some v) (lookup (is_at (R q)) es)) → in_order R fs ≡ insert_entry R (in_order R es) k v
      in_order-put es fs k v h =
          in_order_is fs (insert_entry R (in_order R es) k v) (sorted-insert_entry (in_order R es) k v (sorted-in_order es)) (λ q.
          h q ∙ ap (λ b. cond b (Some v) (lookup (is_at (R q)) es)) ((eq_by_cmp_equiv o).symm k q) ∙ ap (cond (is_at (R q) k) (Some v)) (sym (lookup-in_order q es)) ∙ sym (lookup-insert_entry q k v (in_order R es)))

      -- a key that is taken out
      pub in_order-removed : (es fs : List (K × X)) (k : K) → ((q : K) → lookup (is_at (R q)) fs ≡ cond (is_at (R k) q) None (lookup (is_at (R q)) es)) → in_order R fs ≡ remove_entry (is_at (R k)) (in_order R es)
      in_order-removed es fs k h =
          let laws = eq_by_cmp_equiv o in
          let sorted = sorted-in_order es in
          in_order_is fs (remove_entry (is_at (R k)) (in_order R es)) (sorted-remove_entry (is_at (R k)) (in_order R es) sorted) (λ q.
          h q ∙ ap (cond (is_at (R k) q) None) (sym (lookup-in_order q es)) ∙ sym (lookup-remove_entry laws (is_at (R k)) (laws.congr k) q (in_order R es) (IsDistinct-from_sorted R _ sorted)))

    -- where no two keys tie, the length is the same
    pub length-in_order : (es : List (K × X)) → IsDistinct (eq_by_cmp R) (keys_of es) → length (in_order R es) ≡ length es
    unfolding in_order
    length-in_order [] d = refl
    length-in_order (e ∷ es) d =
        let laws = eq_by_cmp_equiv o in
        let free : find R e.0 (in_order R es) ≡ None = find-is-lookup e.0 (in_order R es) ∙ lookup-in_order e.0 es ∙ lookup-none (is_at (R e.0)) es (none_past_head laws e.0 e es d (laws.refl e.0)) in
        let size : length (insert_entry R (in_order R es) e.0 e.1) ≡ length (in_order R es) + 1 =
        ap length (insert_entry-is-put (in_order R es) e.0 e.1) ∙ length-put R o e.0 e.1 (in_order R es) (test_from_sorted _ (sorted-in_order es))
        ∙ ap (λ x. cond (is_some x) (length (in_order R es)) (length (in_order R es) + 1)) free in
        let rest = length-in_order es (IsDistinct-tail (eq_by_cmp R) e.0 (keys_of es) d) in
        omega (arith, size, rest)

-- ---- entries that are added in any order

all_at : {K X : Type 0} (P : K → Type 0) (beginning : List (K × X)) (e : K × X) (back : List (K × X)) → AllByRecursion P (keys_of (beginning ++ e ∷ back)) → P e.0
all_at P [] e back h = h.0
all_at P (f ∷ beginning) e back h = all_at P beginning e back h.1

none_parts : {X : Type 0} (b : Bool) (x : X) (o : Option X) → cond b (Some x) o ≡ None → (b ≡ false) × (o ≡ None)
none_parts true x o e = absurd (true≢false (ap is_some e))
none_parts false x o e = (refl, e)

turned : {X : Type 0} (a b : Bool) (x y : X) (o : Option X) → (b ≡ true → a ≡ false) → cond a (Some x) (cond b (Some y) o) ≡ cond b (Some y) (cond a (Some x) o)
turned true true x y o h = absurd (true≢false (h refl))
turned true false x y o h = refl
turned false true x y o h = refl
turned false false x y o h = refl

module _ {K X : Type 0} (R : K → K → Ordering) (o : IsTotalOrder R) where
  -- a key that the later entries don't have, of keys that differ
  pub fresh : (seen : List (K × X)) (e : K × X) (rest : List (K × X)) → IsDistinct (eq_by_cmp R) (keys_of (seen ++ e ∷ rest)) → lookup (is_at (R e.0)) seen ≡ None
  fresh [] e rest d = refl
  fresh (f ∷ seen) e rest d =
      let apart : is_at (R e.0) f.0 ≡ false = (eq_by_cmp_equiv o).symm e.0 f.0 ∙ all_at (λ y. eq_by_cmp R f.0 y ≡ false) seen e rest (IsDistinct-head (eq_by_cmp R) f.0 (keys_of (seen ++ e ∷ rest)) d) in
      ap (λ b. cond b (Some f.1) (lookup (is_at (R e.0)) seen)) apart ∙ fresh seen e rest (IsDistinct-tail (eq_by_cmp R) f.0 (keys_of (seen ++ e ∷ rest)) d)

  module _ (exact : CmpEqualImpliesEq R) where
    lookup-push : (q k : K) (v : X) (es : List (K × X)) → lookup (is_at (R k)) es ≡ None → lookup (is_at (R q)) (es ++ (k, v) ∷ []) ≡ cond (is_at (R k) q) (Some v) (lookup (is_at (R q)) es)
    lookup-push q k v [] free = ap (λ b. cond b (Some v) None) ((eq_by_cmp_equiv o).symm q k)
    lookup-push q k v (e ∷ es) free =
        let parts = none_parts _ _ _ free in
        ap (cond (is_at (R q) e.0) (Some e.1)) (lookup-push q k v es parts.1)
        ∙ turned (is_at (R q) e.0) (is_at (R k) q) e.1 v (lookup (is_at (R q)) es) (λ same. ap (λ x. is_at (R x) e.0) (sym (tells_apart exact k q same)) ∙ parts.0)

    -- an entry with a new key, after the others
    pub in_order-push : (es : List (K × X)) (k : K) (v : X) → lookup (is_at (R k)) es ≡ None → in_order R (es ++ (k, v) ∷ []) ≡ insert_entry R (in_order R es) k v
    in_order-push es k v free = in_order-put R o exact es (es ++ (k, v) ∷ []) k v (λ q. lookup-push q k v es free)

pub nil_in_order : {K X : Type 0} (R : K → K → Ordering) (es : List (K × X)) → es ≡ [] → in_order R es ≡ []
unfolding in_order
nil_in_order R es e = ap (in_order R) e
