-- Lists of things that have numbers, which rise.
use Rattle.std.proofs.Common.{◌≡◌, ◌≢◌, ℕ, ◌<◌, ◌≤◌, ◌++◌, Bool, true, false, not, List, [], ◌∷◌, Option, Some, None, refl, sym, subst, ap, ◌∙◌, arith}
use Rattle.std.specs.Prelude.{nat_eq, filter, if◌then◌else◌}
use Rattle.std.specs.List.{find}
use Rattle.std.proofs.lemmas.Bool.{ne_eqb}

-- the first with this number
abbrev pub numbered_at : {A : Type 0} → (A → ℕ) → ℕ → List A → Option A
numbered_at number n xs = find (λ x. nat_eq (number x) n) xs

-- all but those with this number
abbrev pub all_but : {A : Type 0} → (A → ℕ) → ℕ → List A → List A
all_but number n xs = filter (λ x. not (nat_eq (number x) n)) xs

-- the numbers rise, all above the one and none above the other
abbrev pub Rising : {A : Type 0} → (A → ℕ) → ℕ → List A → ℕ → Type 0
Rising number least [] most = least ≤ most
Rising number least (x ∷ xs) most = (least < number x) × Rising number (number x) xs most

pub at-number : {A : Type 0} (number : A → ℕ) (n : ℕ) (xs : List A) (x : A) → numbered_at number n xs ≡ Some x → number x ≡ n
at-number number n [] x e = absurd (cc e)
at-number number n (y ∷ xs) x e = by_test (nat_eq (number y) n) refl (at-number number n xs x)
  where
    by_test : (b : Bool) → nat_eq (number y) n ≡ b → (numbered_at number n xs ≡ Some x → number x ≡ n) → number x ≡ n
    by_test true is rest =
        let same : Some y ≡ Some x = rw is at e in
        let here : y ≡ x = cc same in
        subst (λ z. number z ≡ n) here (grind (arith, is))
    by_test false is rest = rest (rw is at e)

pub at-bounds : {A : Type 0} (number : A → ℕ) (n least : ℕ) (xs : List A) (most : ℕ) (x : A) → Rising number least xs most → numbered_at number n xs ≡ Some x → (least < n) × (n ≤ most)
at-bounds number n least [] most x rising e = absurd (cc e)
at-bounds number n least (y ∷ xs) most x rising e = by_test (nat_eq (number y) n) refl (at-bounds number n (number y) xs most x rising.1)
  where
    under : {A : Type 0} (number : A → ℕ) (least : ℕ) (xs : List A) (most : ℕ) → Rising number least xs most → least ≤ most
    under number least [] most rising = rising
    under number least (y ∷ xs) most rising = omega (arith, rising.0, under number (number y) xs most rising.1)

    by_test : (b : Bool) → nat_eq (number y) n ≡ b → (numbered_at number n xs ≡ Some x → (number y < n) × (n ≤ most)) → (least < n) × (n ≤ most)
    by_test true is rest =
        let same : number y ≡ n = grind (arith, is) in
        (omega (arith, rising.0, same), omega (arith, under number (number y) xs most rising.1, same))
    by_test false is rest =
        let more : (number y < n) × (n ≤ most) = rest (rw is at e) in
        (omega (arith, rising.0, more.0), more.1)

pub rising-lower : {A : Type 0} (number : A → ℕ) (a b : ℕ) (xs : List A) (most : ℕ) → b ≤ a → Rising number a xs most → Rising number b xs most
rising-lower number a b [] most l rising = omega (arith, l, rising)
rising-lower number a b (x ∷ xs) most l rising = (omega (arith, l, rising.0), rising.1)

pub rising-push : {A : Type 0} (number : A → ℕ) (least : ℕ) (xs : List A) (most : ℕ) (x : A) → Rising number least xs most → most < number x → Rising number least (xs ++ x ∷ []) (number x)
rising-push number least [] most x rising above = (omega (arith, rising, above), omega arith)
rising-push number least (y ∷ xs) most x rising above = (rising.0, rising-push number (number y) xs most x rising.1 above)

pub rising-but : {A : Type 0} (number : A → ℕ) (n least : ℕ) (xs : List A) (most : ℕ) → Rising number least xs most → Rising number least (all_but number n xs) most
rising-but number n least [] most rising = rising
rising-but number n least (x ∷ xs) most rising = by_test (nat_eq (number x) n) (rising-but number n (number x) xs most rising.1)
  where
    by_test : (b : Bool) → Rising number (number x) (all_but number n xs) most → Rising number least (if not b then x ∷ all_but number n xs else all_but number n xs) most
    by_test true rest = rising-lower number (number x) least (all_but number n xs) most (omega (arith, rising.0)) rest
    by_test false rest = (rising.0, rest)

-- ---- one more
pub push-some : {A : Type 0} (number : A → ℕ) (n : ℕ) (xs : List A) (x y : A) → numbered_at number n xs ≡ Some y → numbered_at number n (xs ++ x ∷ []) ≡ Some y
push-some number n [] x y e = absurd (cc e)
push-some number n (z ∷ xs) x y e = by_test (nat_eq (number z) n) refl (push-some number n xs x y)
  where
    by_test : (b : Bool) → nat_eq (number z) n ≡ b → (numbered_at number n xs ≡ Some y → numbered_at number n (xs ++ x ∷ []) ≡ Some y) → numbered_at number n (z ∷ xs ++ x ∷ []) ≡ Some y
    by_test true is rest = rw is (rw is at e)
    by_test false is rest = rw is (rest (rw is at e))

pub push-none : {A : Type 0} (number : A → ℕ) (n : ℕ) (xs : List A) (x : A) → numbered_at number n xs ≡ None → numbered_at number n (xs ++ x ∷ []) ≡ numbered_at number n (x ∷ [])
push-none number n [] x e = refl
push-none number n (z ∷ xs) x e = by_test (nat_eq (number z) n) refl (push-none number n xs x)
  where
    by_test : (b : Bool) → nat_eq (number z) n ≡ b → (numbered_at number n xs ≡ None → numbered_at number n (xs ++ x ∷ []) ≡ numbered_at number n (x ∷ [])) → numbered_at number n (z ∷ xs ++ x ∷ []) ≡ numbered_at number n (x ∷ [])
    by_test true is rest = absurd (let some : Some z ≡ None = rw is at e in let no : ⊥ = cc in no)
    by_test false is rest = rw is (rest (rw is at e))

pub at-here : {A : Type 0} (number : A → ℕ) (x : A) (xs : List A) → numbered_at number (number x) (x ∷ xs) ≡ Some x
at-here number x xs = let here : nat_eq (number x) (number x) ≡ true = grind arith in rw here refl

pub at-apart : {A : Type 0} (number : A → ℕ) (n : ℕ) (x : A) (xs : List A) → number x ≢ n → numbered_at number n (x ∷ xs) ≡ numbered_at number n xs
at-apart number n x xs apart = let other : nat_eq (number x) n ≡ false = ne_eqb (number x) n apart in rw other refl

-- ---- one less
pub but-other : {A : Type 0} (number : A → ℕ) (n m : ℕ) (xs : List A) → n ≢ m → numbered_at number m (all_but number n xs) ≡ numbered_at number m xs
but-other number n m [] apart = refl
but-other number n m (x ∷ xs) apart = by_test (nat_eq (number x) n) refl (but-other number n m xs apart)
  where
    by_test : (b : Bool) → nat_eq (number x) n ≡ b → numbered_at number m (all_but number n xs) ≡ numbered_at number m xs → numbered_at number m (if not b then x ∷ all_but number n xs else all_but number n xs) ≡ numbered_at number m (x ∷ xs)
    by_test true is rest =
        let here : number x ≡ n = grind (arith, is) in
        rest ∙ sym (at-apart number m x xs (λ same. apart (sym here ∙ same)))
    by_test false is rest = ap (λ o. if nat_eq (number x) m then Some x else o) rest

pub but-same : {A : Type 0} (number : A → ℕ) (n : ℕ) (xs : List A) → numbered_at number n (all_but number n xs) ≡ None
but-same number n [] = refl
but-same number n (x ∷ xs) = by_test (nat_eq (number x) n) refl (but-same number n xs)
  where
    by_test : (b : Bool) → nat_eq (number x) n ≡ b → numbered_at number n (all_but number n xs) ≡ None → numbered_at number n (if not b then x ∷ all_but number n xs else all_but number n xs) ≡ None
    by_test true is rest = rest
    by_test false is rest = rw is rest

-- of numbers above this one none is it
but-none : {A : Type 0} (number : A → ℕ) (n least : ℕ) (xs : List A) (most : ℕ) → n ≤ least → Rising number least xs most → all_but number n xs ≡ xs
but-none number n least [] most l rising = refl
but-none number n least (x ∷ xs) most l rising =
    let above : n < number x = omega (arith, l, rising.0) in
    let other : nat_eq (number x) n ≡ false = grind (arith, above) in
    rw other (ap (λ ys. x ∷ ys) (but-none number n (number x) xs most (omega (arith, above)) rising.1))

-- without the first are the others
pub but-first : {A : Type 0} (number : A → ℕ) (x : A) (xs : List A) (most : ℕ) → Rising number (number x) xs most → all_but number (number x) (x ∷ xs) ≡ xs
but-first number x xs most rising =
    let here : nat_eq (number x) (number x) ≡ true = grind arith in
    rw here (but-none number (number x) (number x) xs most (omega arith) rising)

-- none has a lower number than the first
pub first-least : {A : Type 0} (number : A → ℕ) (n least : ℕ) (x : A) (xs : List A) (most : ℕ) (y : A) → Rising number least (x ∷ xs) most → numbered_at number n (x ∷ xs) ≡ Some y → number x ≤ n
first-least number n least x xs most y rising e = by_test (nat_eq (number x) n) refl
  where
    by_test : (b : Bool) → nat_eq (number x) n ≡ b → number x ≤ n
    by_test true is = omega (arith, let same : number x ≡ n = grind (arith, is) in same)
    by_test false is =
        let later : (number x < n) × (n ≤ most) = at-bounds number n (number x) xs most y rising.1 (rw is at e) in
        omega (arith, later.0)
