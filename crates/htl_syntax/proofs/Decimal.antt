-- Steps of reading a number.
use Rattle.std.proofs.Common.{◌≡◌, ◌<◌, ◌≤◌, ◌+◌, ◌-◌, ◌*◌, ℕ, true, ◌&&◌, leb, List, [], ◌∷◌, drop, length, slice_index, Some, None, refl, sym, arith}
use Rattle.std.proofs.lemmas.Bool.Decides.{nat_tests}
use Rattle.std.proofs.lemmas.Option.{cond_some}
use Rattle.sp_base.specs.Bytes.{is_digit}
use Rattle.sp_base.proofs.OptionLemmas.{cond_none}
use Rattle.htl_syntax.specs.Tokens.{expression_digit_fits, expression_digits_from, next_number}

pub record Next (limit m n : ℕ) (t : List ℕ) : Type 0 where
  pub same : expression_digits_from limit n (drop 1 t) ≡ expression_digits_from limit m t
  pub ascii : slice_index t 0 < 128
  pub less : length (drop 1 t) < length t
  pub fits : n ≤ limit

fits_ascii : (limit m c : ℕ) → (is_digit c && leb (m * 10 + (c - 48)) limit) ≡ true → (c < 128) × (m * 10 + (c - 48) ≤ limit)
fits_ascii limit m c h = grind (arith, nat_tests)

pub next_some : (limit m n : ℕ) (t : List ℕ) → next_number limit m t ≡ Some n → Next limit m n t
unfolding expression_digit_fits expression_digits_from
next_some limit m n [] e = absurd cc
next_some limit m n (c ∷ t) e =
    let b = cond_some (is_digit c && leb (m * 10 + (c - 48)) limit) (m * 10 + (c - 48)) n e in
    let f = fits_ascii limit m c b.0 in
    record { same = rw (b.0, sym b.1) refl; ascii = f.0; less = omega arith; fits = omega (arith, f.1, b.1) }

pub next_none : (limit m : ℕ) (t : List ℕ) → next_number limit m t ≡ None → expression_digits_from limit m t ≡ (m, t)
unfolding expression_digit_fits expression_digits_from
next_none limit m [] e = refl
next_none limit m (c ∷ t) e = rw (cond_none (is_digit c && leb (m * 10 + (c - 48)) limit) (m * 10 + (c - 48)) e) refl
