-- Lists: their parts, their lengths and what holds of each element.
use Rattle.std.proofs.Common.{Bool, List, None, Some, [], ap, arith, cond, drop, eqb, false, filter, get_or, inl, inr, length, refl, slice_get, slice_index, subst, suc, sym, take, true, zero, ℕ, ⊎_elim, ◌++◌, ◌+◌, ◌-◌, ◌<◌, ◌==◌, ◌∙◌, ◌∷◌, ◌≡◌, ◌≤◌, ◌⊎◌}
use Rattle.std.specs.List.{AllByRecursion, list_all, list_any}
use Rattle.std.specs.Prelude.{Contains, find, ◌||◌}
use Rattle.std.proofs.Math.Nat.{eq-or-lt_of_le}
use Rattle.std.proofs.Math.Seq.{get_or-append_seam, take-suc}
use Rattle.std.proofs.lemmas.Bool.{and_from, and_parts, cases_Bool, eqb-true}
use Rattle.std.proofs.lemmas.Bool.Decides.{nat_tests}
use Rattle.std.proofs.lemmas.List.{get_or_append_left, length-append, length-drop, take_all, take_more}
use Rattle.std.proofs.lemmas.List.Folds.{list_any_more}
use Rattle.std.proofs.lemmas.Option.{get_or_from_slice_get, slice_get-get_or, slice_get_within}

pub nil_from_test : (name : List ℕ) → eqb (length name) 0 ≡ true → name ≡ []
nil_from_test [] e = refl
nil_from_test (c ∷ name) e = let f = eqb-true (length (c ∷ name)) 0 e in absurd (omega (arith, f))

pub some_from_test : (t : List ℕ) → (eqb (length t) 0) ≡ false → 0 < length t
some_from_test [] h = absurd cc
some_from_test (c ∷ t) h = omega arith

pub cons_is_some : (x : ℕ) (more : List ℕ) → (length (x ∷ more) == 0) ≡ false
cons_is_some x more = grind (arith, nat_tests)

pub push_is_some : (t : List ℕ) (b : ℕ) → eqb (length (t ++ b ∷ [])) 0 ≡ false
push_is_some [] b = refl
push_is_some (c ∷ t) b = grind (arith, nat_tests)

pub cons_parts : (x y : ℕ) (xs ys : List ℕ) → x ∷ xs ≡ y ∷ ys → (x ≡ y) × (xs ≡ ys)
cons_parts x y xs ys e = (cc, cc)

pub same_tail : (b : ℕ) (xs ys : List ℕ) → b ∷ xs ≡ b ∷ ys → xs ≡ ys
same_tail b xs ys e = cc (e)

pub index_drop : (m : ℕ) (t : List ℕ) → slice_index (drop m t) 0 ≡ slice_index t m
index_drop zero t = refl
index_drop (suc m) [] = refl
index_drop (suc m) (c ∷ t) = index_drop m t

pub drop_short : (k : ℕ) (t : List ℕ) → length (drop k t) ≤ length t
drop_short zero t = omega arith
drop_short (suc k) [] = omega arith
drop_short (suc k) (c ∷ t) = omega (arith, drop_short k t)

pub rest_short : (n : ℕ) (t remainder : List ℕ) → remainder ≡ drop n t → length remainder ≤ length t
rest_short n t remainder e = let l : length remainder ≡ length t - n = rw e (length-drop n t) in omega (arith, l)

pub drop_past : (text : List ℕ) (k : ℕ) → length text ≤ k → drop k text ≡ []
drop_past [] zero h = refl
drop_past [] (suc k) h = refl
drop_past (b ∷ text) zero h = absurd (omega (arith, h))
drop_past (b ∷ text) (suc k) h = drop_past text k (omega (arith, h))

pub take_none : (xs : List ℕ) → take 0 xs ≡ []
take_none [] = refl
take_none (x ∷ xs) = refl

pub last_apart : (rest : List ℕ) → 1 ≤ length rest → take (length rest - 1) rest ++ get_or rest (length rest - 1) 0 ∷ [] ≡ rest
last_apart rest some =
    let n : length rest - 1 + 1 ≡ length rest = omega (arith, some) in
    sym (take_more rest (length rest - 1) 0 (omega (arith, some))) ∙ rw n (take_all (length rest) rest (omega arith))

pub take_last : {A : Type 0} (xs : List A) (n : ℕ) (x : A) → 0 < n → n ≤ length xs → x ≡ get_or xs (n - 1) x → take n xs ≡ take (n - 1) xs ++ x ∷ []
take_last {A} xs zero x lt le e = absurd (omega arith)
take_last {A} xs (suc n) x lt le e =
    let less : suc n - 1 ≡ n = omega arith in
    let within : n < length xs = omega arith in
    let at : get_or xs n x ≡ x = sym (subst (λ (m : ℕ). x ≡ get_or xs m x) less e) in
    take-suc xs n x within ∙ ap (λ (y : A). take n xs ++ y ∷ []) at ∙ ap (λ (m : ℕ). take m xs ++ x ∷ []) (sym less)

pub take_more_of : (items names : List (List ℕ)) (i : ℕ) (item : List ℕ) → items ≡ names → i < length items → item ≡ get_or items i item
    → take (i + 1) names ≡ take i names ++ item ∷ []
take_more_of items names i item same lt is =
    sym (ap (take (i + 1)) same) ∙ take_more items i item lt ∙ ap (λ ns. take i ns ++ get_or items i item ∷ []) same
    ∙ ap (λ n. take i names ++ n ∷ []) (sym is)

pub no_place : {A : Type 0} (xs : List A) (i : ℕ) → None ≡ slice_get xs i → i < length xs → ⊥
no_place {A} [] i e lt = omega (arith, lt)
no_place {A} (x ∷ xs) i e lt = cc (e, slice_get-get_or (x ∷ xs) i x lt)

pub any_next : {X : Type 0} (test : X → Bool) (xs : List X) (i : ℕ) (x : X) → slice_get xs i ≡ Some x → list_any test (take (i + 1) xs) ≡ (list_any test (take i xs) || test x)
any_next test xs i x is = list_any_more test xs i x (slice_get_within xs i x is) ∙ ap (λ y. list_any test (take i xs) || test y) (get_or_from_slice_get xs i x x is)

pub find_passes : {X : Type 0} (test : X → Bool) (xs : List X) (x : X) → find test xs ≡ Some x → test x ≡ true
find_passes test [] x is = cc
find_passes test (y ∷ xs) x is =
    ⊎_elim
    (λ (passes_it : test y ≡ true). let e : Some y ≡ Some x = sym (ap (λ b. cond b (Some y) (find test xs)) passes_it) ∙ is in let same : y ≡ x = cc in ap test (sym same) ∙ passes_it)
    (λ (fails : test y ≡ false). find_passes test xs x (sym (ap (λ b. cond b (Some y) (find test xs)) fails) ∙ is))
    (cases_Bool (test y))

pub all_append : {A : Type 0} (P : A → Type 0) (xs ys : List A) → AllByRecursion P xs → AllByRecursion P ys → AllByRecursion P (xs ++ ys)
all_append P [] ys a b = b
all_append P (x ∷ xs) ys a b = (a.0, all_append P xs ys a.1 b)

pub all_weaker : {A : Type 0} (P Q : A → Type 0) → ((x : A) → P x → Q x) → (xs : List A) → AllByRecursion P xs → AllByRecursion Q xs
all_weaker P Q gives [] h = tt
all_weaker P Q gives (x ∷ xs) h = (gives x h.0, all_weaker P Q gives xs h.1)

pub all_filter : {A : Type 0} (P : A → Type 0) (f : A → Bool) (xs : List A) → AllByRecursion P xs → AllByRecursion P (filter f xs)
all_filter P f [] h = tt
all_filter P f (x ∷ xs) h =
    let rest = all_filter P f xs h.1 in elim (f x) as (λ t. AllByRecursion P (cond t (x ∷ filter f xs) (filter f xs))) [ true ↦ (h.0, rest) | false ↦ rest ]

pub list_all_filter : {A : Type 0} (p f : A → Bool) (xs : List A) → list_all p xs ≡ true → list_all p (filter f xs) ≡ true
list_all_filter p f [] h = refl
list_all_filter p f (x ∷ xs) h =
    let parts = and_parts (p x) (list_all p xs) h in
    let rest = list_all_filter p f xs parts.1 in
    elim (f x) as (λ t. list_all p (cond t (x ∷ filter f xs) (filter f xs)) ≡ true) [ true ↦ and_from (p x) (list_all p (filter f xs)) parts.0 rest | false ↦ rest ]

pub last_or_before : {A : Type 0} (xs : List A) (last x : A) → Contains (xs ++ last ∷ []) x → Contains xs x ⊎ (x ≡ last)
last_or_before xs last x has = ⊎_elim
    (λ same. inr (sym has.2 ∙ ap (λ k. get_or (xs ++ last ∷ []) k x) same ∙ get_or-append_seam xs last [] x))
    (λ less. inl (has.0, less, sym (get_or_append_left xs (last ∷ []) x has.0 less) ∙ has.2))
    (eq-or-lt_of_le (omega (arith, has.1, length-append xs (last ∷ []))))

pub contains_first : {A : Type 0} (x : A) (xs : List A) → Contains (x ∷ xs) x
contains_first x xs = (0, omega arith, refl)

pub contains_later : {A : Type 0} (x y : A) (xs : List A) → Contains xs y → Contains (x ∷ xs) y
contains_later x y xs has = (suc has.0, omega (arith, has.1), has.2)

pub first_or_later : {A : Type 0} (x y : A) (xs : List A) (k : ℕ) → k < length (x ∷ xs) → get_or (x ∷ xs) k y ≡ y → (x ≡ y) ⊎ Contains xs y
first_or_later x y xs zero lt e = inl e
first_or_later x y xs (suc k) lt e = inr (k, omega (arith, lt), e)
