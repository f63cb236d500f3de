-- Lists of properties in the order of their names: what a search, a write and a removal make of them.
use Rattle.std.proofs.Common.{◌≡◌, ℕ, zero, suc, ◌+◌, ◌<◌, Bool, not, T, List, [], ◌∷◌, ◌++◌, Some, None, length, get_or, take, drop, refl, sym, ◌∙◌, ap, subst, arith, add-one}
use Rattle.std.proofs.lemmas.List.{take-append-drop, take-set, drop-set}
use Rattle.std.proofs.Math.Seq.{drop-cons}
use Rattle.std.proofs.Common.{cond}
use Rattle.std.proofs.Math.ListN.{set}
use Rattle.std.specs.List.{remove}
use Rattle.std.specs.Ordering.{is_eq, eq_by_cmp, ordering_reverse}
use Rattle.std.specs.declared.cmp.Ordering.TheVariants.{Less, Equal, Greater}
use Rattle.std.specs.Cmp.{IsTotalOrder}
use Rattle.std.specs.Cmp.Lexicographic.{nat_list_cmp_total}
use Rattle.std.specs.FinMap.{slice_cmp-IsAntisymmetric, nat_cmp-IsAntisymmetric}
use Rattle.std.specs.FinMap.Entries.{put, find, is_sorted, below_all, where_key, by_order}
use Rattle.std.proofs.lemmas.Cmp.{tied_itself}
use Rattle.sp_base.specs.declared.value.Value.{Value}
use Rattle.sp_base.specs.Properties.{by_name}
use Rattle.sp_base.specs.PropertyPlaces.{all_before, IsAt, IsGap}
use Rattle.sp_base.proofs.BoolLemmas.{T_both, T_first, T_second}
use Rattle.sp_base.proofs.OrderingLemmas.{T_from_less, less_from_T}

abbrev Props : Type 0
Props = List (List ℕ × Value)

total : IsTotalOrder by_name
total = nat_list_cmp_total

pub same_name : (x y : List ℕ) → by_name x y ≡ Equal → x ≡ y
same_name = slice_cmp-IsAntisymmetric nat_cmp-IsAntisymmetric

greater_back : (x y : List ℕ) → by_name x y ≡ Less → by_name y x ≡ Greater
greater_back x y e = total.antisymm y x ∙ ap ordering_reverse e

pub less_back : (x y : List ℕ) → by_name x y ≡ Greater → by_name y x ≡ Less
less_back x y e = total.antisymm y x ∙ ap ordering_reverse e

below_less : (x y : List ℕ) (es : Props) → by_name x y ≡ Less → T (below_all by_name y es) → T (below_all by_name x es)
below_less x y [] p h = tt
below_less x y (e ∷ es) p h =
    T_both _ _ (T_from_less _ (total.trans x y e.0 p (less_from_T _ (T_first _ _ h)))) (below_less x y es p (T_second _ _ h))

below_at : (x : List ℕ) (es : Props) (i : ℕ) (d : List ℕ × Value) → T (below_all by_name x es) → i < length es → d ≡ get_or es i d → by_name x d.0 ≡ Less
below_at x [] i d h lt is = absurd (omega (arith, lt))
below_at x (e ∷ es) zero d h lt is = ap (λ (p : List ℕ × Value). by_name x p.0) is ∙ less_from_T _ (T_first _ _ h)
below_at x (e ∷ es) (suc i) d h lt is = below_at x es i d (T_second _ _ h) (omega (arith, lt)) is

-- the names up to one that is before this one are before it
before_to : (name : List ℕ) (es : Props) (i : ℕ) (d : List ℕ × Value) → T (is_sorted by_name es) → i < length es → d ≡ get_or es i d
    → by_name d.0 name ≡ Less → all_before name (take (suc i) es)
before_to name [] i d s lt is less = absurd (omega (arith, lt))
before_to name (e ∷ es) zero d s lt is less = T_both _ _ (T_from_less _ (ap (λ (p : List ℕ × Value). by_name p.0 name) (sym is) ∙ less)) tt
before_to name (e ∷ es) (suc i) d s lt is less =
    let shorter : i < length es = omega (arith, lt) in
    T_both _ _ (T_from_less _ (total.trans e.0 d.0 name (below_at e.0 es i d (T_first _ _ s) shorter is) less))
    (before_to name es i d (T_second _ _ s) shorter is less)

pub before_more : (name : List ℕ) (es : Props) (i : ℕ) (d : List ℕ × Value) → T (is_sorted by_name es) → i < length es → d ≡ get_or es i d
    → by_name name d.0 ≡ Greater → all_before name (take (i + 1) es)
before_more name es i d s lt is greater = rw (add-one) (before_to name es i d s lt is (less_back name d.0 greater))

-- the names from one on that is after this one are after it
pub after_from : (name : List ℕ) (es : Props) (i : ℕ) (d : List ℕ × Value) → T (is_sorted by_name es) → i < length es → d ≡ get_or es i d
    → by_name name d.0 ≡ Less → T (below_all by_name name (drop i es))
after_from name [] i d s lt is less = absurd (omega (arith, lt))
after_from name (e ∷ es) zero d s lt is less =
    let here = ap (λ (p : List ℕ × Value). by_name name p.0) (sym is) ∙ less in
    T_both _ _ (T_from_less _ here) (below_less name e.0 es here (T_first _ _ s))
after_from name (e ∷ es) (suc i) d s lt is less = after_from name es i d (T_second _ _ s) (omega (arith, lt)) is less

before_name : (es : Props) (i : ℕ) (d : List ℕ × Value) → T (is_sorted by_name es) → i < length es → d ≡ get_or es i d → all_before d.0 (take i es)
before_name [] i d s lt is = absurd (omega (arith, lt))
before_name (e ∷ es) zero d s lt is = tt
before_name (e ∷ es) (suc i) d s lt is =
    let shorter : i < length es = omega (arith, lt) in
    T_both _ _ (T_from_less _ (below_at e.0 es i d (T_first _ _ s) shorter is)) (before_name es i d (T_second _ _ s) shorter is)

parts_at : (es : Props) (i : ℕ) (d : List ℕ × Value) → i < length es → d ≡ get_or es i d → es ≡ take i es ++ d ∷ drop (i + 1) es
parts_at es i d lt is =
    sym (take-append-drop i es) ∙ ap (λ rest. take i es ++ rest) (drop-cons es i d lt ∙ ap (λ p. p ∷ drop (suc i) es) (sym is))
    ∙ ap (λ n. take i es ++ d ∷ drop n es) (sym (add-one i))

one_item : (es : Props) (i : ℕ) (d e : List ℕ × Value) → i < length es → d ≡ get_or es i d → e ≡ get_or es i e → e ≡ d
one_item [] i d e lt is same = absurd (omega (arith, lt))
one_item (x ∷ es) zero d e lt is same = same ∙ sym is
one_item (x ∷ es) (suc i) d e lt is same = one_item es i d e (omega (arith, lt)) is same

pub found_at : (name : List ℕ) (es : Props) (i : ℕ) (d : List ℕ × Value) → T (is_sorted by_name es) → i < length es → d ≡ get_or es i d
    → by_name name d.0 ≡ Equal → IsAt name es i
found_at name es i (key, value) s lt is tie =
    let same = same_name name key tie in
    record {
      value = value;
      within = lt;
      before = subst (λ n. all_before n (take i es)) (sym same) (before_name es i (key, value) s lt is);
      parts = parts_at es i (key, value) lt is ∙ ap (λ n. take i es ++ (n, value) ∷ drop (i + 1) es) (sym same);
      item = λ p at. one_item es i (key, value) p lt is at ∙ ap (λ (n : List ℕ). (n, value)) (sym same);
    }

-- look-ups, writes and removals at a place
find_prefix : (name : List ℕ) (leading rest : Props) → all_before name leading → find by_name name (leading ++ rest) ≡ find by_name name rest
find_prefix name [] rest h = refl
find_prefix name (e ∷ leading) rest h =
    ap (λ o. cond (is_eq o) (Some e.1) (find by_name name (leading ++ rest))) (greater_back e.0 name (less_from_T _ (T_first _ _ h)))
    ∙ find_prefix name leading rest (T_second _ _ h)

find_after : (name : List ℕ) (rest : Props) → T (below_all by_name name rest) → find by_name name rest ≡ None
find_after name [] h = refl
find_after name (e ∷ rest) h =
    ap (λ o. cond (is_eq o) (Some e.1) (find by_name name rest)) (less_from_T _ (T_first _ _ h)) ∙ find_after name rest (T_second _ _ h)

put_prefix : (name : List ℕ) (value : Value) (leading rest : Props) → all_before name leading → put by_name name value (leading ++ rest) ≡ leading ++ put by_name name value rest
put_prefix name value [] rest h = refl
put_prefix name value (e ∷ leading) rest h =
    ap (λ o. by_order o ((name, value) ∷ e ∷ (leading ++ rest)) ((e.0, value) ∷ (leading ++ rest)) (e ∷ put by_name name value (leading ++ rest)))
    (greater_back e.0 name (less_from_T _ (T_first _ _ h)))
    ∙ ap (λ es. e ∷ es) (put_prefix name value leading rest (T_second _ _ h))

put_after : (name : List ℕ) (value : Value) (rest : Props) → T (below_all by_name name rest) → put by_name name value rest ≡ (name, value) ∷ rest
put_after name value [] h = refl
put_after name value (e ∷ rest) h =
    ap (λ o. by_order o ((name, value) ∷ e ∷ rest) ((e.0, value) ∷ rest) (e ∷ put by_name name value rest)) (less_from_T _ (T_first _ _ h))

abbrev is_other : List ℕ → List ℕ → Bool
is_other name key = not (eq_by_cmp by_name name key)

others_prefix : (name : List ℕ) (leading rest : Props) → all_before name leading → where_key by_name (is_other name) (leading ++ rest) ≡ leading ++ where_key by_name (is_other name) rest
others_prefix name [] rest h = refl
others_prefix name (e ∷ leading) rest h =
    ap (λ o. cond (not (is_eq o)) (e ∷ where_key by_name (is_other name) (leading ++ rest)) (where_key by_name (is_other name) (leading ++ rest)))
    (greater_back e.0 name (less_from_T _ (T_first _ _ h)))
    ∙ ap (λ es. e ∷ es) (others_prefix name leading rest (T_second _ _ h))

others_after : (name : List ℕ) (rest : Props) → T (below_all by_name name rest) → where_key by_name (is_other name) rest ≡ rest
others_after name [] h = refl
others_after name (e ∷ rest) h =
    ap (λ o. cond (not (is_eq o)) (e ∷ where_key by_name (is_other name) rest) (where_key by_name (is_other name) rest)) (less_from_T _ (T_first _ _ h))
    ∙ ap (λ es. e ∷ es) (others_after name rest (T_second _ _ h))

sorted_rest : (leading rest : Props) → T (is_sorted by_name (leading ++ rest)) → T (is_sorted by_name rest)
sorted_rest [] rest h = h
sorted_rest (e ∷ leading) rest h = sorted_rest leading rest (T_second _ _ h)

pub find_at : (name : List ℕ) (es : Props) (i : ℕ) → (p : IsAt name es i) → find by_name name es ≡ Some p.value
find_at name es i p =
    ap (find by_name name) p.parts ∙ find_prefix name (take i es) ((name, p.value) ∷ drop (i + 1) es) p.before
    ∙ ap (λ o. cond (is_eq o) (Some p.value) (find by_name name (drop (i + 1) es))) (tied_itself total name)

pub find_gap : (name : List ℕ) (es : Props) (i : ℕ) → IsGap name es i → find by_name name es ≡ None
find_gap name es i p =
    ap (find by_name name) (sym (take-append-drop i es)) ∙ find_prefix name (take i es) (drop i es) p.before ∙ find_after name (drop i es) p.remainder

pub put_at : (name : List ℕ) (value : Value) (es : Props) (i : ℕ) → IsAt name es i → put by_name name value es ≡ take i es ++ (name, value) ∷ drop (i + 1) es
put_at name value es i p =
    ap (put by_name name value) p.parts ∙ put_prefix name value (take i es) ((name, p.value) ∷ drop (i + 1) es) p.before
    ∙ ap (λ o. take i es ++ by_order o ((name, value) ∷ (name, p.value) ∷ drop (i + 1) es) ((name, value) ∷ drop (i + 1) es)
    ((name, p.value) ∷ put by_name name value (drop (i + 1) es))) (tied_itself total name)

pub put_gap : (name : List ℕ) (value : Value) (es : Props) (i : ℕ) → IsGap name es i → put by_name name value es ≡ take i es ++ (name, value) ∷ drop i es
put_gap name value es i p =
    ap (put by_name name value) (sym (take-append-drop i es)) ∙ put_prefix name value (take i es) (drop i es) p.before
    ∙ ap (λ rest. take i es ++ rest) (put_after name value (drop i es) p.remainder)

pub others_at : (name : List ℕ) (es : Props) (i : ℕ) → IsAt name es i → T (is_sorted by_name es)
    → where_key by_name (is_other name) es ≡ take i es ++ drop (i + 1) es
others_at name es i p s =
    let rest = drop (i + 1) es in
    let sorted = sorted_rest (take i es) ((name, p.value) ∷ rest) (subst (λ list. T (is_sorted by_name list)) p.parts s) in
    ap (where_key by_name (is_other name)) p.parts ∙ others_prefix name (take i es) ((name, p.value) ∷ rest) p.before
    ∙ ap (λ o. take i es ++ cond (not (is_eq o)) ((name, p.value) ∷ where_key by_name (is_other name) rest) (where_key by_name (is_other name) rest)) (tied_itself total name)
    ∙ ap (λ list. take i es ++ list) (others_after name rest (T_first _ _ sorted))

pub others_gap : (name : List ℕ) (es : Props) (i : ℕ) → IsGap name es i → where_key by_name (is_other name) es ≡ es
others_gap name es i p =
    ap (where_key by_name (is_other name)) (sym (take-append-drop i es)) ∙ others_prefix name (take i es) (drop i es) p.before
    ∙ ap (λ rest. take i es ++ rest) (others_after name (drop i es) p.remainder) ∙ take-append-drop i es

pub set_at : (name : List ℕ) (value : Value) (es : Props) (i : ℕ) (d : List ℕ × Value) → IsAt name es i → d ≡ get_or es i d
    → set es i (d.0, value) ≡ put by_name name value es
set_at name value es i d p is =
    ap (λ (e : List ℕ × Value). set es i (e.0, value)) (p.item d is)
    ∙ sym (take-append-drop i (set es i (name, value)))
    ∙ ap (λ leading. leading ++ drop i (set es i (name, value))) (take-set es i (name, value))
    ∙ ap (λ rest. take i es ++ rest) (drop-set es i (name, value) p.within) ∙ sym (put_at name value es i p)

pub value_at : (name : List ℕ) (es : Props) (i : ℕ) (d : List ℕ × Value) → IsAt name es i → d ≡ get_or es i d → Some d.1 ≡ find by_name name es
value_at name es i d p is = ap (λ (e : List ℕ × Value). Some e.1) (p.item d is) ∙ sym (find_at name es i p)

pub remove_at : (name : List ℕ) (es : Props) (i : ℕ) → IsAt name es i → T (is_sorted by_name es) → remove es i ≡ where_key by_name (is_other name) es
remove_at name es i p s = ap (λ n. take i es ++ drop n es) (sym (add-one i)) ∙ sym (others_at name es i p s)
