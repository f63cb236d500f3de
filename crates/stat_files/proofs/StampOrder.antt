-- The order of stamps.
use Rattle.std.proofs.Common.{◌≡◌, ◌⊎◌, ◌<◌, ◌^◌, ◌&&◌, ◌||◌, inl, inr, ℕ, true, false, nat_eq, nat_lt, refl, arith}
use Rattle.std.proofs.lemmas.Bool.{cases_lt}
use Rattle.std.proofs.lemmas.Bool.Decides.{nat_tests}
use Rattle.sp_base.specs.Limits.{greatest_u64}
use Rattle.cover_rules.specs.declared.stamp.Stamp.{Stamp}
use Rattle.stat_files.specs.Outdated.{is_older}
use Rattle.stat_files.specs.Stamps.{greatest_stamp}

never_both : (e c f d : ℕ) → nat_lt e f || (nat_eq e f && nat_lt c d) ≡ true → nat_lt f e || (nat_eq f e && nat_lt d c) ≡ false
never_both e c f d h = grind (arith, nat_tests)

never_self : (e c : ℕ) → nat_lt e e || (nat_eq e e && nat_lt c c) ≡ false
never_self e c = grind (arith, nat_tests)

chained : (e c f d g b : ℕ) → nat_lt e f || (nat_eq e f && nat_lt c d) ≡ true → nat_lt f g || (nat_eq f g && nat_lt d b) ≡ true → nat_lt e g || (nat_eq e g && nat_lt c b) ≡ true
chained e c f d g b h k = grind (arith, nat_tests)

by_epoch : (e c f d : ℕ) → e < f → nat_lt e f || (nat_eq e f && nat_lt c d) ≡ true
by_epoch e c f d h = grind (arith, nat_tests)

pub same : (stamp : Stamp) → is_older stamp stamp ≡ false
same stamp = never_self stamp.epoch stamp.count

pub apart : (stamp other : Stamp) → is_older stamp other ≡ true → is_older other stamp ≡ false
apart stamp other = never_both stamp.epoch stamp.count other.epoch other.count

pub through : (stamp other more : Stamp) → is_older stamp other ≡ true → is_older other more ≡ true → is_older stamp more ≡ true
through stamp other more = chained stamp.epoch stamp.count other.epoch other.count more.epoch more.count

one_stamp : (e c f d : ℕ) → e ≡ f → c ≡ d → (let s : Stamp = record { epoch = e; count = c } in s) ≡ record { epoch = f; count = d }
one_stamp e c f d p q = rw (p, q) refl

of_numbers : (e c f d : ℕ) → (nat_lt e f || (nat_eq e f && nat_lt c d) ≡ true) ⊎ (((e ≡ f) × (c ≡ d)) ⊎ (nat_lt f e || (nat_eq f e && nat_lt d c) ≡ true))
of_numbers e c f d = elim (cases_lt e f) [
  | inl h ↦ inl (by_epoch e c f d h)
  | inr h ↦ elim (cases_lt f e) [
    | inl k ↦ inr (inr (by_epoch f d e c k))
    | inr k ↦ elim (cases_lt c d) [
      | inl m ↦ inl (grind (arith, nat_tests))
      | inr m ↦ elim (cases_lt d c) [
        | inl n ↦ inr (inr (grind (arith, nat_tests)))
        | inr n ↦ inr (inl (omega arith, omega arith))
      ]
    ]
  ]
]

pub one : (stamp other : Stamp) → (is_older stamp other ≡ true) ⊎ ((stamp ≡ other) ⊎ (is_older other stamp ≡ true))
one stamp other = elim (of_numbers stamp.epoch stamp.count other.epoch other.count) [
  | inl h ↦ inl h
  | inr h ↦ elim h [
    | inl e ↦ inr (inl (one_stamp stamp.epoch stamp.count other.epoch other.count e.0 e.1))
    | inr h ↦ inr (inr h)
  ]
]

greatest_last : (e c : ℕ) → e < 18446744073709551616 → c < 18446744073709551616
    → nat_lt greatest_u64 e || (nat_eq greatest_u64 e && nat_lt greatest_u64 c) ≡ false
greatest_last e c p q = grind (arith, nat_tests)

-- no stamp is newer than the greatest
pub greatest_not_older : (page : Stamp) → page.epoch < 2 ^ 64 → page.count < 2 ^ 64 → is_older greatest_stamp page ≡ false
greatest_not_older page epoch count = greatest_last page.epoch page.count epoch count
