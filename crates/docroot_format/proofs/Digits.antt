-- Steps of reading a number.
use Rattle.std.proofs.Common.{◌≡◌, ◌<◌, ◌+◌, ◌-◌, ◌*◌, ℕ, ◌&&◌, leb, List, [], ◌∷◌, drop, length, Some, None, refl, sym, arith}
use Rattle.std.proofs.lemmas.Option.{cond_some}
use Rattle.sp_base.specs.Bytes.{is_digit}
use Rattle.sp_base.specs.Limits.{greatest_u64}
use Rattle.sp_base.proofs.OptionLemmas.{cond_none}
use Rattle.docroot_format.specs.Readings.{digit_fits, digits_from, next_of}

pub record Next (m n : ℕ) (t : List ℕ) : Type 0 where
  pub same : digits_from n (drop 1 t) ≡ digits_from m t
  pub less : length (drop 1 t) < length t

pub next_some : (m n : ℕ) (t : List ℕ) → next_of m t ≡ Some n → Next m n t
unfolding digit_fits digits_from
next_some m n [] e = absurd cc
next_some m n (c ∷ t) e =
    let b = cond_some (is_digit c && leb (m * 10 + (c - 48)) greatest_u64) (m * 10 + (c - 48)) n e in
    record { same = rw (b.0, sym b.1) refl; less = omega arith }

pub next_none : (m : ℕ) (t : List ℕ) → next_of m t ≡ None → digits_from m t ≡ (m, t)
unfolding digit_fits digits_from
next_none m [] e = refl
next_none m (c ∷ t) e = rw (cond_none (is_digit c && leb (m * 10 + (c - 48)) greatest_u64) (m * 10 + (c - 48)) e) refl
