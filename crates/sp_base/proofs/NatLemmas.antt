-- Numbers, by their tests.
use Rattle.std.proofs.Common.{arith, false, nat_eq, nat_lt, suc, true, ℕ, ◌+◌, ◌<◌, ◌==◌, ◌≡◌}
use Rattle.std.specs.Ordering.{nat_cmp}
use Rattle.std.specs.Prelude.{nat_le}
use Rattle.std.specs.declared.cmp.Ordering.TheVariants.{Less}
use Rattle.std.proofs.lemmas.Bool.Decides.{nat_tests}

pub nat_eq_itself : (n : ℕ) → nat_eq n n ≡ true
nat_eq_itself n = grind (arith, nat_tests)

pub not_zero : (n : ℕ) → 0 < n → (n == 0) ≡ false
not_zero n h = grind (arith, nat_tests)

pub zero_from_test : (n : ℕ) → (n == 0) ≡ true → n ≡ 0
zero_from_test n e = grind (arith, nat_tests)

pub positive : (n : ℕ) → (n == 0) ≡ false → 0 < n
positive n h = grind (arith, nat_tests)

pub suc_is_not_zero : (n : ℕ) → (suc n == 0) ≡ false
suc_is_not_zero n = grind (arith, nat_tests)

pub zero_below_suc : (n : ℕ) → nat_lt 0 (suc n) ≡ true
zero_below_suc n = grind (arith, nat_tests)

pub below_suc : (k n : ℕ) → nat_lt (suc k) (suc n) ≡ nat_lt k n
below_suc k n = grind (arith, nat_tests)

pub not_below_itself : (n : ℕ) → nat_lt n n ≡ false
not_below_itself n = grind (arith, nat_tests)

pub part_within : (n m k : ℕ) → nat_le (n + m) k ≡ true → nat_le n k ≡ true
part_within n m k h = grind (arith, nat_tests)

pub below_from_cmp : (x y : ℕ) → nat_cmp x y ≡ Less → x < y
below_from_cmp x y is = grind (arith, is)
