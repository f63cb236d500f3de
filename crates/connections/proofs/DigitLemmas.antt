-- The digits of a number, however large it is: which numbers are written as these.
use Rattle.std.proofs.Common.{◌≡◌, ◌≤◌, ◌+◌, ◌*◌, ◌/◌, ◌%◌, ◌&&◌, ◌==◌, ◌∙◌, ℕ, zero, suc, Bool, true, false, List, [], ◌∷◌, decimal, length, refl, ap, sym, arith}
use Rattle.std.specs.Prelude.{if◌then◌else◌}
use Rattle.std.specs.Char.{is_ascii_digit}
use Rattle.std.specs.Fmt.{digits, digits_onto, digit_glyph}
use Rattle.std.specs.Str.{all_ascii_digits}
use Rattle.sp_base.proofs.NatLemmas.{zero_from_test}

glyph-is : (n : ℕ) → digit_glyph false (n % 10) ≡ 48 + n % 10
glyph-is n = grind arith

glyph-digit : (n : ℕ) → is_ascii_digit (digit_glyph false (n % 10)) ≡ true
glyph-digit n = ap is_ascii_digit (glyph-is n) ∙ grind arith

onto-digits : (k n : ℕ) (ds : List ℕ) → all_ascii_digits ds ≡ true → all_ascii_digits (digits_onto k 10 false n ds) ≡ true
onto-digits zero n ds all = all
onto-digits (suc k) n ds all = by_test (n / 10 == 0) (onto-digits k (n / 10) (digit_glyph false (n % 10) ∷ ds))
  where
    more : all_ascii_digits (digit_glyph false (n % 10) ∷ ds) ≡ true
    more = ap (λ b. b && all_ascii_digits ds) (glyph-digit n) ∙ all

    by_test : (t : Bool) → (all_ascii_digits (digit_glyph false (n % 10) ∷ ds) ≡ true → all_ascii_digits (digits_onto k 10 false (n / 10) (digit_glyph false (n % 10) ∷ ds)) ≡ true) → all_ascii_digits (if t then digit_glyph false (n % 10) ∷ ds else digits_onto k 10 false (n / 10) (digit_glyph false (n % 10) ∷ ds)) ≡ true
    by_test true rest = more
    by_test false rest = rest more

-- all bytes of a number are digits
pub decimal-all : (n : ℕ) → all_ascii_digits (decimal n) ≡ true
unfolding digits
decimal-all n = onto-digits 64 n [] refl

onto-longer : (k n : ℕ) (ds : List ℕ) → length ds ≤ length (digits_onto k 10 false n ds)
onto-longer zero n ds = omega arith
onto-longer (suc k) n ds = by_test (n / 10 == 0) (onto-longer k (n / 10) (digit_glyph false (n % 10) ∷ ds))
  where
    by_test : (t : Bool) → suc (length ds) ≤ length (digits_onto k 10 false (n / 10) (digit_glyph false (n % 10) ∷ ds)) → length ds ≤ length (if t then digit_glyph false (n % 10) ∷ ds else digits_onto k 10 false (n / 10) (digit_glyph false (n % 10) ∷ ds))
    by_test true rest = omega arith
    by_test false rest = omega (arith, rest)

onto-more : (k n : ℕ) (ds : List ℕ) → length ds + 1 ≤ length (digits_onto (suc k) 10 false n ds)
onto-more k n ds = by_test (n / 10 == 0)
  where
    by_test : (t : Bool) → length ds + 1 ≤ length (if t then digit_glyph false (n % 10) ∷ ds else digits_onto k 10 false (n / 10) (digit_glyph false (n % 10) ∷ ds))
    by_test true = omega arith
    by_test false = omega (arith, onto-longer k (n / 10) (digit_glyph false (n % 10) ∷ ds))

-- a number that is written as 0
pub written-0 : (n : ℕ) → decimal n ≡ decimal 0 → n ≡ 0
unfolding digits
written-0 n e = by_test (n / 10 == 0) refl e
  where
    by_test : (t : Bool) → (n / 10 == 0) ≡ t → (if t then digit_glyph false (n % 10) ∷ [] else digits_onto 63 10 false (n / 10) (digit_glyph false (n % 10) ∷ [])) ≡ 48 ∷ [] → n ≡ 0
    by_test true small is =
        let digit : digit_glyph false (n % 10) ≡ 48 = cc in
        let none : n / 10 ≡ 0 = grind (arith, small) in
        omega (arith, glyph-is n, digit, none)
    by_test false small is = absurd (omega (arith, ap length is, onto-more 62 (n / 10) (digit_glyph false (n % 10) ∷ [])))

parts : (n : ℕ) → n ≡ 10 * (n / 10) + n % 10
parts n = omega arith

joined : (n a b h x y z : ℕ) → n ≡ 10 * a + x → a ≡ 10 * b + y → b ≡ 10 * h + z → 48 + x ≡ 55 → 48 + y ≡ 48 → 48 + z ≡ 53 → h ≡ 0 → n ≡ 507
joined n a b h x y z p q r one two three none = omega (arith, p, q, r, one, two, three, none)

-- a number that is written as 507
pub written-507 : (n : ℕ) → decimal n ≡ decimal 507 → n ≡ 507
unfolding digits
written-507 n e = first (n / 10 == 0) e
  where
    one : List ℕ
    one = digit_glyph false (n % 10) ∷ []

    two : List ℕ
    two = digit_glyph false (n / 10 % 10) ∷ one

    three : List ℕ
    three = digit_glyph false (n / 10 / 10 % 10) ∷ two

    third : (t : Bool) → (n / 10 / 10 / 10 == 0) ≡ t → (if t then three else digits_onto 61 10 false (n / 10 / 10 / 10) three) ≡ 53 ∷ 48 ∷ 55 ∷ [] → n ≡ 507
    third true small is =
        let hundreds : digit_glyph false (n / 10 / 10 % 10) ≡ 53 = cc in
        let tens : digit_glyph false (n / 10 % 10) ≡ 48 = cc in
        let ones : digit_glyph false (n % 10) ≡ 55 = cc in
        let none : n / 10 / 10 / 10 ≡ 0 = zero_from_test (n / 10 / 10 / 10) small in
        joined n (n / 10) (n / 10 / 10) (n / 10 / 10 / 10) (n % 10) (n / 10 % 10) (n / 10 / 10 % 10) (parts n) (parts (n / 10)) (parts (n / 10 / 10)) (sym (glyph-is n) ∙ ones) (sym (glyph-is (n / 10)) ∙ tens) (sym (glyph-is (n / 10 / 10)) ∙ hundreds) none
    third false small is = absurd (omega (arith, ap length is, onto-more 60 (n / 10 / 10 / 10) three))

    second : (t : Bool) → (if t then two else digits_onto 62 10 false (n / 10 / 10) two) ≡ 53 ∷ 48 ∷ 55 ∷ [] → n ≡ 507
    second true is = absurd (omega (arith, ap length is))
    second false is = third (n / 10 / 10 / 10 == 0) refl is

    first : (t : Bool) → (if t then one else digits_onto 63 10 false (n / 10) one) ≡ 53 ∷ 48 ∷ 55 ∷ [] → n ≡ 507
    first true is = absurd (omega (arith, ap length is))
    first false is = second (n / 10 / 10 == 0) is
