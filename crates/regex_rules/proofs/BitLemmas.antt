-- Sets of characters as numbers.
use Rattle.std.proofs.Common.{◌≡◌, ◌↔◌, ◌⊎◌, inl, inr, ℕ, ◌^◌, ◌<◌, Bool, true, false, refl, ap, ◌∙◌, arith, min, max, bit_and, bit_or, if◌then◌else◌, mod-eq_of_lt}
use Rattle.std.proofs.lemmas.Nat.{pow_below}
use Rattle.std.specs.Int.{bit_at}
use Rattle.std.proofs.lemmas.Bool.{cases_eq}
use Rattle.std.proofs.lemmas.Nat.Bits.{bit_at-lt, bit_at_and, bit_at_or, bit_at-zero, bit_at-pow_same, bit_at-pow_other, same_from_bits}
use Rattle.regex_rules.specs.Positions.{Has, bit_of}

pub has_or : (a b p : ℕ) → Has (bit_or a b) p ↔ (Has a p ⊎ Has b p)
unfolding Has
has_or a b p = (there, back)
  where
    both : bit_at (bit_or a b) p ≡ max (bit_at a p) (bit_at b p)
    both = bit_at_or a b p

    there : bit_at (bit_or a b) p ≡ 1 → (bit_at a p ≡ 1) ⊎ (bit_at b p ≡ 1)
    there e = elim (cases_eq (bit_at a p) 1) [ inl one ↦ inl one | inr other ↦ inr (omega (arith, both, e, bit_at-lt a p, bit_at-lt b p, other)) ]

    back : (bit_at a p ≡ 1) ⊎ (bit_at b p ≡ 1) → bit_at (bit_or a b) p ≡ 1
    back (inl one) = omega (arith, both, one, bit_at-lt a p, bit_at-lt b p)
    back (inr one) = omega (arith, both, one, bit_at-lt a p, bit_at-lt b p)

pub has_and : (a b p : ℕ) → Has (bit_and a b) p ↔ (Has a p × Has b p)
unfolding Has
has_and a b p = (λ e. (omega (arith, both, e, bit_at-lt a p, bit_at-lt b p), omega (arith, both, e, bit_at-lt a p, bit_at-lt b p)), λ s. omega (arith, both, s.0, s.1))
  where
    both : bit_at (bit_and a b) p ≡ min (bit_at a p) (bit_at b p)
    both = bit_at_and a b p

pub has_nothing : (p : ℕ) → Has 0 p → ⊥
unfolding Has
has_nothing p e = omega (arith, e, bit_at-zero p)

bit_within : (m : ℕ) → m < 64 → bit_of m ≡ 2 ^ m
unfolding bit_of
bit_within m small = let low : 2 ^ m < 2 ^ 64 = pow_below m 64 small in mod-eq_of_lt low

pub has_only : (m p : ℕ) → m < 64 → Has (bit_of m) p ↔ p ≡ m
unfolding Has
has_only m p small = (there, back)
  where
    there : bit_at (bit_of m) p ≡ 1 → p ≡ m
    there e =
        elim (cases_eq p m) [
          | inl same ↦ same
          | inr other ↦ absurd (let none : bit_at (bit_of m) p ≡ 0 = ap (λ (n : ℕ). bit_at n p) (bit_within m small) ∙ bit_at-pow_other m p other in omega (arith, none, e))
        ]

    back : p ≡ m → bit_at (bit_of m) p ≡ 1
    back e = ap (bit_at (bit_of m)) e ∙ ap (λ (n : ℕ). bit_at n m) (bit_within m small) ∙ bit_at-pow_same m

-- a set without a member is the number 0
pub none_is_zero : (set : ℕ) → ((p : ℕ) → Has set p → ⊥) → set ≡ 0
unfolding Has
none_is_zero set none =
    same_from_bits set 0
    (λ i. elim (cases_eq (bit_at set i) 1) [ inl one ↦ absurd (none i one) | inr other ↦ omega (arith, bit_at-lt set i, bit_at-zero i, other) ])

-- a set that another one is added to where something holds
pub has_if : (lacks : Bool) (a b p : ℕ) → Has (if lacks then bit_or a b else a) p ↔ (Has a p ⊎ ((lacks ≡ true) × Has b p))
has_if true a b p = (λ h. elim ((has_or a b p).0 h) [ inl x ↦ inl x | inr y ↦ inr (refl, y) ], λ s. (has_or a b p).1 (elim s [ inl x ↦ inl x | inr y ↦ inr y.1 ]))
has_if false a b p = (λ h. inl h, λ s. elim s [ inl x ↦ x | inr y ↦ absurd (no y.0) ])
  where
    no : false ≡ true → ⊥
    no e = absurd cc
