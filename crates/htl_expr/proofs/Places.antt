-- The order of two lists, by their places.
use Rattle.std.proofs.Common.{◌≡◌, ◌<◌, ◌+◌, ℕ, zero, suc, true, false, List, [], ◌∷◌, length, drop, get_or, Ordering, refl, sym, ap, ◌∙◌, arith}
use Rattle.std.proofs.lemmas.Bool.Decides.{nat_tests}
use Rattle.std.proofs.lemmas.List.{at_drop_more, drop_all}
use Rattle.std.specs.Cmp.Lexicographic.{slice_cmp}
use Rattle.std.specs.Ordering.{nat_cmp, ordering_then, is_ne}
use Rattle.std.specs.declared.cmp.Ordering.TheVariants.{Less, Equal, Greater}
use Rattle.htl_expr.specs.ComparedValue.{by_texts}

-- a text alone has one place
pub only_place : (text : List ℕ) (place : ℕ) → place < length (text ∷ []) → get_or (text ∷ []) place [] ≡ text
only_place text zero lt = refl
only_place text (suc place) lt = absurd (omega (arith, lt))

abbrev from : {X : Type 0} → (X → X → Ordering) → ℕ → List X → List X → Ordering
from order place xs ys = slice_cmp order (drop place xs) (drop place ys)

at_place : {X : Type 0} (order : X → X → Ordering) (xs ys : List X) (place : ℕ) (none : X) → place < length xs → place < length ys
    → from order place xs ys ≡ ordering_then (order (get_or xs place none) (get_or ys place none)) (from order (place + 1) xs ys)
at_place order xs ys place none lt more =
    at_drop_more (λ rest. slice_cmp order rest (drop place ys)) xs place none lt ∙ at_drop_more (slice_cmp order (get_or xs place none ∷ drop (place + 1) xs)) ys place none more

pub same_here : {X : Type 0} (order : X → X → Ordering) (xs ys : List X) (place : ℕ) (none : X) (here whole : Ordering) → place < length xs → place < length ys → here ≡ order (get_or xs place none) (get_or ys place none)
    → is_ne here ≡ false → from order place xs ys ≡ whole → from order (place + 1) xs ys ≡ whole
same_here order xs ys place none here whole lt more is equal inv =
    sym (then here (from order (place + 1) xs ys) equal) ∙ ap (λ o. ordering_then o (from order (place + 1) xs ys)) is ∙ sym (at_place order xs ys place none lt more) ∙ inv
  where
    then : (o rest : Ordering) → is_ne o ≡ false → ordering_then o rest ≡ rest
    then Less rest e = absurd cc
    then Equal rest e = refl
    then Greater rest e = absurd cc

pub differs_here : {X : Type 0} (order : X → X → Ordering) (xs ys : List X) (place : ℕ) (none : X) (here whole : Ordering) → place < length xs → place < length ys → here ≡ order (get_or xs place none) (get_or ys place none)
    → is_ne here ≡ true → from order place xs ys ≡ whole → here ≡ whole
differs_here order xs ys place none here whole lt more is differs inv =
    sym (then here (from order (place + 1) xs ys) differs) ∙ ap (λ o. ordering_then o (from order (place + 1) xs ys)) is ∙ sym (at_place order xs ys place none lt more) ∙ inv
  where
    then : (o rest : Ordering) → is_ne o ≡ true → ordering_then o rest ≡ o
    then Less rest e = refl
    then Equal rest e = absurd cc
    then Greater rest e = refl

-- where both end, no place differs
pub both_end : {X : Type 0} (order : X → X → Ordering) (xs ys : List X) (place : ℕ) (whole : Ordering) → place ≡ length xs → place ≡ length ys → from order place xs ys ≡ whole → Equal ≡ whole
both_end order xs ys place whole end other_end inv =
    sym (ap (λ rest. slice_cmp order rest (drop place ys)) (drop_all place xs (omega (arith, end))) ∙ ap (slice_cmp order []) (drop_all place ys (omega (arith, other_end)))) ∙ inv

-- lists that are as long are told apart by their texts
pub as_many : (xs ys : List (List ℕ)) → is_ne (nat_cmp (length xs) (length ys)) ≡ false → slice_cmp (slice_cmp nat_cmp) xs ys ≡ by_texts xs ys
as_many xs ys e = go (nat_cmp (length xs) (length ys)) (slice_cmp (slice_cmp nat_cmp) xs ys) e
  where
    go : (o rest : Ordering) → is_ne o ≡ false → rest ≡ ordering_then o rest
    go Less rest e = absurd cc
    go Equal rest e = refl
    go Greater rest e = absurd cc

-- and others by their lengths
pub unlike : (xs ys : List (List ℕ)) → is_ne (nat_cmp (length xs) (length ys)) ≡ true → nat_cmp (length xs) (length ys) ≡ by_texts xs ys
unlike xs ys e = go (nat_cmp (length xs) (length ys)) (slice_cmp (slice_cmp nat_cmp) xs ys) e
  where
    go : (o rest : Ordering) → is_ne o ≡ true → o ≡ ordering_then o rest
    go Less rest e = refl
    go Equal rest e = absurd cc
    go Greater rest e = refl

-- a text is at its own place in the order
pub texts_alike : (xs : List ℕ) → Equal ≡ slice_cmp nat_cmp xs xs
texts_alike [] = refl
texts_alike (x ∷ xs) = texts_alike xs ∙ sym (ap (λ o. ordering_then o (slice_cmp nat_cmp xs xs)) (nat_alike x))
  where
    nat_alike : (x : ℕ) → nat_cmp x x ≡ Equal
    nat_alike x = grind (arith, nat_tests)
