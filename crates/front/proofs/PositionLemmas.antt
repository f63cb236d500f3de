-- Where the first stands that passes, among what others are made of.
use Rattle.std.proofs.Common.{◌≡◌, ℕ, Bool, true, false, List, [], ◌∷◌, map, zero, suc, refl, ap, arith}
use Rattle.std.specs.Prelude.{position, remove}
use Rattle.std.specs.List.{position_or_len}
use Rattle.std.proofs.lemmas.Grind.{common_steps}
use Rattle.std.proofs.lemmas.List.{length-map}

position_or_len-map : {A B : Type 0} (f : A → B) (test : B → Bool) (xs : List A) → position_or_len test (map f xs) ≡ position_or_len (λ x. test (f x)) xs
position_or_len-map f test [] = refl
position_or_len-map f test (x ∷ xs) = by_test (test (f x)) refl (position_or_len-map f test xs)
  where
    by_test : (b : Bool) → test (f x) ≡ b → position_or_len test (map f xs) ≡ position_or_len (λ y. test (f y)) xs → position_or_len test (f x ∷ map f xs) ≡ position_or_len (λ y. test (f y)) (x ∷ xs)
    by_test true e rest = grind (arith, common_steps, e)
    by_test false e rest = grind (arith, common_steps, e, rest)

pub position-map : {A B : Type 0} (f : A → B) (test : B → Bool) (xs : List A) → position test (map f xs) ≡ position (λ x. test (f x)) xs
position-map f test xs = rw (position_or_len-map f test xs, length-map xs f) refl

pub map-remove : {A B : Type 0} (f : A → B) (xs : List A) (i : ℕ) → map f (remove xs i) ≡ remove (map f xs) i
map-remove f [] zero = refl
map-remove f [] (suc i) = refl
map-remove f (x ∷ xs) zero = refl
map-remove f (x ∷ xs) (suc i) = ap (λ ys. f x ∷ ys) (map-remove f xs i)
