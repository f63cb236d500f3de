-- Names that grow by a byte.
use Rattle.std.proofs.Common.{◌≡◌, ◌<◌, ◌+◌, ◌++◌, ◌∷◌, ℕ, zero, suc, List, [], length, take, get_or, flat_map, refl, ◌∙◌, ap, arith, add-one}
use Rattle.std.proofs.lemmas.List.{append-nil}
use Rattle.cover_rules.specs.Names.{file_byte}

pub append_both : {A : Type 0} (xs ys zs : List A) → xs ++ (ys ++ zs) ≡ (xs ++ ys) ++ zs
append_both [] ys zs = refl
append_both (x ∷ xs) ys zs = ap (λ rest. x ∷ rest) (append_both xs ys zs)

one_more : {A : Type 0} (f : A → List ℕ) (n : ℕ) (xs : List A) (d : A) → n < length xs → flat_map f (take (suc n) xs) ≡ flat_map f (take n xs) ++ f (get_or xs n d)
one_more f n [] d lt = absurd (omega (arith, lt))
one_more f zero (x ∷ xs) d lt = append-nil (f x)
one_more f (suc n) (x ∷ xs) d lt = ap (λ rest. f x ++ rest) (one_more f n xs d (omega (arith, lt))) ∙ append_both (f x) (flat_map f (take n xs)) (f (get_or xs n d))

pub byte_more : (n : ℕ) (seg : List ℕ) (d : ℕ) → n < length seg → flat_map file_byte (take (n + 1) seg) ≡ flat_map file_byte (take n seg) ++ file_byte (get_or seg n d)
byte_more n seg d lt = rw (add-one n) (one_more file_byte n seg d lt)
