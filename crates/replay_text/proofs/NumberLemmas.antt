-- Numbers in decimal digits: where one ends before another byte, and that none has a newline.
use Rattle.std.proofs.Common.{◌≡◌, ◌≢◌, ◌<◌, ◌^◌, ◌++◌, ◌∙◌, ℕ, true, false, List, [], ◌∷◌, codes, ap, refl, arith, eqb}
use Rattle.std.specs.Char.{is_ascii_digit}
use Rattle.std.specs.Fmt.{decimal}
use Rattle.std.specs.Str.{all_ascii_digits}
use Rattle.std.proofs.lemmas.Bool.{and_parts, false≢true}
use Rattle.std.proofs.lemmas.Bool.Decides.{nat_tests}
use Rattle.std.proofs.lemmas.Fmt.{digits_decimal, decimal_injective}
use Rattle.sp_base.proofs.TextLemmas.{digits_are_numerals, one_run_of_digits}
use Rattle.replay_text.specs.Lines.{newlines}

decimal_digits : (n : ℕ) → n < 2 ^ 64 → all_ascii_digits (decimal n) ≡ true
decimal_digits n p = digits_decimal digits_are_numerals n p

-- a number, and the byte that ends it
pub one_number : (end m n : ℕ) (r s : List ℕ) → is_ascii_digit end ≡ false → m < 2 ^ 64 → n < 2 ^ 64
    → decimal m ++ end ∷ r ≡ decimal n ++ end ∷ s → (m ≡ n) × (r ≡ s)
one_number end m n r s none p q e =
    let x = one_run_of_digits end (decimal m) (decimal n) r s none (decimal_digits m p) (decimal_digits n q) e in
    (decimal_injective m n p q x.0, x.1)

-- no number is a word
pub decimal_not_first : (n : ℕ) → n < 2 ^ 64 → codes "first" ≢ decimal n
decimal_not_first n p e = false≢true (ap all_ascii_digits e ∙ decimal_digits n p)

digit_is_no_newline : (b : ℕ) → is_ascii_digit b ≡ true → eqb b 10 ≡ false
digit_is_no_newline b e = grind (arith, nat_tests)

newlines-digits : (ds : List ℕ) → all_ascii_digits ds ≡ true → newlines ds ≡ 0
newlines-digits [] e = refl
newlines-digits (b ∷ ds) e =
    let parts = and_parts (is_ascii_digit b) (all_ascii_digits ds) e in
    let apart = digit_is_no_newline b parts.0 in
    rw apart (omega (arith, newlines-digits ds parts.1))

-- no number has a newline
pub newlines-decimal : (n : ℕ) → n < 2 ^ 64 → newlines (decimal n) ≡ 0
newlines-decimal n p = newlines-digits (decimal n) (decimal_digits n p)
