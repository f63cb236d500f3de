-- How many names a walk has still to look at, after those of a list.
use Rattle.std.proofs.Common.{◌≡◌, ◌≤◌, ◌+◌, ℕ, zero, suc, Bool, true, false, cond, List, [], ◌∷◌, length, take, refl, sym, ap, arith}
use Rattle.std.specs.Prelude.{Contains}
use Rattle.std.specs.List.{filter}
use Rattle.std.proofs.lemmas.Bool.{true≢false}
use Rattle.std.proofs.lemmas.List.{take_all}
use Rattle.sp_base.specs.Texts.{Text}
use Rattle.sp_base.proofs.ListLemmas.{contains_first, contains_later}

-- how many names of a list pass a test
abbrev pub count : (Text → Bool) → List Text → ℕ
count test names = length (filter test names)

none_there : (y : Text) → Contains [] y → ⊥
none_there y has = omega (arith, has.1)

-- ---- one name more

bump : (q p : Bool) (x : Text) (xs ys : List Text) (n : ℕ) → (q ≡ true → p ≡ true) → length xs + n ≤ length ys → length (cond q (x ∷ xs) xs) + n ≤ length (cond p (x ∷ ys) ys)
bump true true x xs ys n mono le = omega (arith, le)
bump true false x xs ys n mono le = absurd (true≢false (sym (mono refl)))
bump false true x xs ys n mono le = omega (arith, le)
bump false false x xs ys n mono le = le

bump_listed : (q p : Bool) (x : Text) (xs ys : List Text) (n : ℕ) → (p ≡ true) × (q ≡ false) → length xs + n ≤ length ys → length (cond q (x ∷ xs) xs) + suc n ≤ length (cond p (x ∷ ys) ys)
bump_listed true p x xs ys n is le = absurd (true≢false is.1)
bump_listed false true x xs ys n is le = omega (arith, le)
bump_listed false false x xs ys n is le = absurd (true≢false (sym is.0))

-- ---- the names of a list

-- the names of a list were to look at, and no longer are
abbrev AreSeen : (p q : Text → Bool) → List Text → Type 0
AreSeen p q names = (x : Text) → Contains names x → (p x ≡ true) × (q x ≡ false)

taken : (f p q : Text → Bool) (m : ℕ) (x : Text) (keys : List Text) → (q x ≡ true → p x ≡ true)
    → ((n : ℕ) → AreSeen p q (take n (filter f keys)) → count q keys + length (take n (filter f keys)) ≤ count p keys)
    → AreSeen p q (take m (x ∷ filter f keys)) → count q (x ∷ keys) + length (take m (x ∷ filter f keys)) ≤ count p (x ∷ keys)
taken f p q zero x keys mono rest seen = bump (q x) (p x) x (filter q keys) (filter p keys) 0 mono (rest 0 (λ y has. absurd (none_there y has)))
taken f p q (suc m) x keys mono rest seen =
    let names = take m (filter f keys) in
    bump_listed (q x) (p x) x (filter q keys) (filter p keys) (length names) (seen x (contains_first x names)) (rest m (λ y has. seen y (contains_later x y names has)))

-- of the names of which a list gives the first, as many fewer are to look at
pub counted : (f p q : Text → Bool) (m : ℕ) (keys : List Text) → ((x : Text) → q x ≡ true → p x ≡ true) → AreSeen p q (take m (filter f keys)) → count q keys + length (take m (filter f keys)) ≤ count p keys
counted f p q m [] mono seen = (let none : length (take m (filter f [])) ≡ 0 = ap length (take_all m [] (omega arith)) in omega (arith, none))
counted f p q m (x ∷ keys) mono seen =
    elim (f x) as (λ b. AreSeen p q (take m (cond b (x ∷ filter f keys) (filter f keys))) → count q (x ∷ keys) + length (take m (cond b (x ∷ filter f keys) (filter f keys))) ≤ count p (x ∷ keys)) [
      | true ↦ λ s. taken f p q m x keys (mono x) (λ n. counted f p q n keys mono) s
      | false ↦ λ s. bump (q x) (p x) x (filter q keys) (filter p keys) (length (take m (filter f keys))) (mono x) (counted f p q m keys mono s)
    ] seen
