-- The properties that are set, one entry after another.
use Rattle.std.proofs.Common.{◌≡◌, ◌<◌, ◌≤◌, ◌+◌, ℕ, zero, suc, Bool, true, false, cond, not, ◌||◌, List, [], ◌∷◌, ◌++◌, Option, Some, None, map, filter, take, drop, length, get_or, slice_get, refl, ap, sym, ◌∙◌, arith, append_assoc}
use Rattle.std.specs.Cmp.Lexicographic.{pointwise, slice_cmp, lists_ties, texts_ties}
use Rattle.std.specs.Ordering.{nat_cmp, eq_by_cmp}
use Rattle.std.specs.Str.{bytes_eq}
use Rattle.std.specs.List.{cons_option, filter_map}
use Rattle.std.proofs.lemmas.List.{append-nil}
use Rattle.std.proofs.lemmas.Option.{slice_get-get_or}
use Rattle.std.proofs.lemmas.List.Folds.{list_any-append}
use Rattle.sp_base.proofs.BoolLemmas.{or_false}
use Rattle.post_plan.specs.declared.spot.Spot.{Spot}
use Rattle.post_plan.specs.declared.operation.PropSet.{PropSet}
use Rattle.post_plan.specs.Entries.{Entry, same_spot, distinct, set_of, sets, set_here, sets_from, is_spot_named}

pub same_path : (s t : List (List ℕ)) → eq_by_cmp (slice_cmp (slice_cmp nat_cmp)) s t ≡ pointwise bytes_eq s t
same_path s t = sym (lists_ties (slice_cmp nat_cmp) texts_ties s t)

-- whether no entry names the spot
abbrev fresh : List Entry → Spot → Bool
fresh es spot = not (is_spot_named spot es)

pub named_push : (before : List Entry) (e : Entry) (spot : Spot) → is_spot_named spot (before ++ e ∷ []) ≡ is_spot_named spot before || same_spot e.spot spot
named_push before e spot = list_any-append (λ f. same_spot f.spot spot) before (e ∷ []) ∙ ap (λ (b : Bool). is_spot_named spot before || b) (or_false (same_spot e.spot spot))

-- those that neither an entry of a list nor one more names
fresh_push : (before : List Entry) (e : Entry) (spots : List Spot) → filter (fresh (before ++ e ∷ [])) spots ≡ filter (fresh before) (filter (λ t. not (same_spot e.spot t)) spots)
fresh_push before e [] = refl
fresh_push before e (t ∷ spots) = ap (λ (b : Bool). cond (not b) (t ∷ all) all) (named_push before e t) ∙ go (is_spot_named t before) (same_spot e.spot t) refl refl (fresh_push before e spots)
  where
    all : List Spot
    all = filter (fresh (before ++ e ∷ [])) spots

    others : List Spot
    others = filter (λ t. not (same_spot e.spot t)) spots

    kept : Bool → List Spot
    kept b = cond (not b) (t ∷ filter (fresh before) others) (filter (fresh before) others)

    go : (n s : Bool) → is_spot_named t before ≡ n → same_spot e.spot t ≡ s → all ≡ filter (fresh before) others → cond (not (n || s)) (t ∷ all) all ≡ filter (fresh before) (cond (not s) (t ∷ others) others)
    go true true en es ih = ih
    go true false en es ih = ih ∙ ap kept (sym en)
    go false true en es ih = ih
    go false false en es ih = ap (λ (l : List Spot). t ∷ l) ih ∙ ap kept (sym en)

pub nothing_left : (es : List Entry) (n : ℕ) → length es ≤ n → drop n es ≡ []
nothing_left [] zero le = refl
nothing_left [] (suc n) le = refl
nothing_left (e ∷ es) zero le = absurd (omega arith)
nothing_left (e ∷ es) (suc n) le = nothing_left es n (omega (arith, le))

pub drop_here : (es : List Entry) (n : ℕ) (e : Entry) → slice_get es n ≡ Some e → drop n es ≡ e ∷ drop (suc n) es
drop_here [] n e here = absurd cc
drop_here (f ∷ es) zero e here = cc
drop_here (f ∷ es) (suc n) e here = drop_here es n e here

pub take_more : (es : List Entry) (n : ℕ) (e : Entry) → slice_get es n ≡ Some e → take (suc n) es ≡ take n es ++ e ∷ []
take_more [] n e here = absurd cc
take_more (f ∷ es) zero e here = cc
take_more (f ∷ es) (suc n) e here = ap (λ (l : List Entry). f ∷ l) (take_more es n e here)

from_is : (pairs : List (List ℕ × List ℕ)) (es before later : List Entry) → sets_from pairs es before later ≡ filter_map (set_of pairs es) (filter (fresh before) (distinct (map (λ e. e.spot) later)))
unfolding sets_from distinct
from_is pairs es before [] = refl
from_is pairs es before (e ∷ later) = go (is_spot_named e.spot before) refl (from_is pairs es (before ++ e ∷ []) later ∙ ap (filter_map (set_of pairs es)) (fresh_push before e (distinct (map (λ f. f.spot) later))))
  where
    rest : List Spot
    rest = filter (fresh before) (filter (λ t. not (same_spot e.spot t)) (distinct (map (λ f. f.spot) later)))

    kept : Bool → List PropSet
    kept b = filter_map (set_of pairs es) (cond (not b) (e.spot ∷ rest) rest)

    go : (b : Bool) → is_spot_named e.spot before ≡ b → sets_from pairs es (before ++ e ∷ []) later ≡ filter_map (set_of pairs es) rest
        → cons_option (cond b None (set_of pairs es e.spot)) (sets_from pairs es (before ++ e ∷ []) later) ≡ kept (is_spot_named e.spot before)
    go true en ih = ih ∙ ap kept (sym en)
    go false en ih = ap (cons_option (set_of pairs es e.spot)) ih ∙ ap kept (sym en)

all_fresh : (spots : List Spot) → filter (fresh []) spots ≡ spots
all_fresh [] = refl
all_fresh (s ∷ spots) = ap (λ (l : List Spot). s ∷ l) (all_fresh spots)

pub sets_are : (pairs : List (List ℕ × List ℕ)) (es : List Entry) → sets_from pairs es [] es ≡ sets pairs es
sets_are pairs es = from_is pairs es [] es ∙ ap (filter_map (set_of pairs es)) (all_fresh (distinct (map (λ e. e.spot) es)))

cons_is : (set : Option PropSet) (more : List PropSet) → cons_option set more ≡ cons_option set [] ++ more
cons_is None more = refl
cons_is (Some s) more = refl

entry_at : (es : List Entry) (n : ℕ) (e : Entry) → slice_get es n ≡ Some e → e ≡ get_or es n e
entry_at [] n e here = absurd cc
entry_at (f ∷ es) zero e here = cc
entry_at (f ∷ es) (suc n) e here = entry_at es n e here

none_here : (es : List Entry) (n : ℕ) → n < length es → slice_get es n ≡ None → ⊥
none_here [] n lt none = omega (arith, lt)
none_here (f ∷ es) zero lt none = cc
none_here (f ∷ es) (suc n) lt none = none_here es n (omega (arith, lt)) none

-- one turn of the walk
pub turn : (pairs : List (List ℕ × List ℕ)) (es : List Entry) (n : ℕ) (e : Entry) (list next all : List PropSet) (set : Option PropSet) → n < length es → e ≡ get_or es n e → set ≡ set_here pairs es (take n es) e → next ≡ list ++ cons_option set []
    → list ++ sets_from pairs es (take n es) (drop n es) ≡ all → next ++ sets_from pairs es (take (n + 1) es) (drop (n + 1) es) ≡ all
unfolding sets_from
turn pairs es n e list next all set lt at is pushed same =
    let here : slice_get es n ≡ Some e = slice_get-get_or es n e lt ∙ ap (λ (x : Entry). Some x) (sym at) in
    let one : n + 1 ≡ suc n = omega arith in
    let first : cons_option set (sets_from pairs es (take (n + 1) es) (drop (n + 1) es)) ≡ sets_from pairs es (take n es) (drop n es) =
    rw (one, drop_here es n e here, take_more es n e here, is) refl
    in
    ap (λ (l : List PropSet). l ++ sets_from pairs es (take (n + 1) es) (drop (n + 1) es)) pushed
    ∙ append_assoc list (cons_option set []) (sets_from pairs es (take (n + 1) es) (drop (n + 1) es))
    ∙ ap (λ (l : List PropSet). list ++ l) (sym (cons_is set (sets_from pairs es (take (n + 1) es) (drop (n + 1) es))) ∙ first)
    ∙ same

-- the same by what the entry at the index sets
pub turn_by : (pairs : List (List ℕ × List ℕ)) (es : List Entry) (n : ℕ) (list next all : List PropSet) (set : Option PropSet) → n < length es
    → ((e : Entry) → slice_get es n ≡ Some e → set ≡ set_here pairs es (take n es) e) → next ≡ list ++ cons_option set []
    → list ++ sets_from pairs es (take n es) (drop n es) ≡ all → next ++ sets_from pairs es (take (n + 1) es) (drop (n + 1) es) ≡ all
turn_by pairs es n list next all set lt is pushed same = by (slice_get es n) refl
  where
    by : (o : Option Entry) → slice_get es n ≡ o → next ++ sets_from pairs es (take (n + 1) es) (drop (n + 1) es) ≡ all
    by (Some e) here = turn pairs es n e list next all set lt (entry_at es n e here) (is e here) pushed same
    by None here = absurd (none_here es n lt here)

pub done : (pairs : List (List ℕ × List ℕ)) (es : List Entry) (n : ℕ) (list : List PropSet) → length es ≤ n → list ++ sets_from pairs es (take n es) (drop n es) ≡ sets_from pairs es [] es → list ≡ sets pairs es
unfolding sets_from
done pairs es n list le same =
    let none : drop n es ≡ [] = nothing_left es n le in
    sym (append-nil list) ∙ ap (λ (l : List PropSet). list ++ l) (sym (ap (sets_from pairs es (take n es)) none)) ∙ same ∙ sets_are pairs es
