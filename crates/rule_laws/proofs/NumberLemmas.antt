-- What reads as a number is its digits.
use Rattle.std.proofs.Common.{◌≡◌, ◌<◌, ◌≤◌, ◌+◌, ◌-◌, ◌*◌, ◌/◌, ◌%◌, ◌^◌, ◌==◌, ℕ, zero, suc, Bool, true, false, not, cond, ◌&&◌, ◌++◌, List, [], ◌∷◌, Option, Some, None, length, get_or, nat_le, refl, sym, ◌∙◌, ap, subst, arith}
use Rattle.std.specs.Fmt.{decimal as digits_of_number}
use Rattle.std.proofs.lemmas.Bool.{le-leb}
use Rattle.std.proofs.lemmas.Bool.Decides.{nat_tests}
use Rattle.std.proofs.lemmas.Fmt.{decimal_by_steps, decimal_digit, decimal_nonempty, decimal_step, first_decimal}
use Rattle.std.proofs.lemmas.List.{append-nil, append_assoc}
use Rattle.sp_base.specs.Bytes.{is_digit}
use Rattle.any_config.specs.Farms.{decimal, digits_after}
use Rattle.rule_laws.specs.Numbers.{WritesNumber}

-- ---- what is read is written

digit_more : (m k : ℕ) → 1 ≤ m → k < 10 → m * 10 + k < 2 ^ 64 → digits_of_number (m * 10 + k) ≡ digits_of_number m ++ (48 + k) ∷ []
digit_more m k some small short =
    let leading : (m * 10 + k) / 10 ≡ m = omega (arith, small) in
    let last : (m * 10 + k) % 10 ≡ k = omega (arith, small) in
    decimal_step (m * 10 + k) (omega (arith, some)) short
    ∙ ap (λ q. digits_of_number q ++ (48 + (m * 10 + k) % 10) ∷ []) leading
    ∙ ap (λ r. digits_of_number m ++ (48 + r) ∷ []) last

some_number : (one other : ℕ) → ◌≡◌ {A = Option ℕ} (Some one) (Some other) → one ≡ other
some_number one other e = cc

-- a byte that is a digit of a number that fits
record Digit (most m b : ℕ) : Type 0 where
  pub small : b - 48 < 10
  pub is : 48 + (b - 48) ≡ b
  pub fits : m * 10 + (b - 48) ≤ most

digit_of : (most m b : ℕ) → is_digit b && nat_le (m * 10 + (b - 48)) most ≡ true → Digit most m b
digit_of most m b e = record { small = grind (arith, nat_tests); is = grind (arith, nat_tests); fits = grind (arith, nat_tests) }

digits_found : (most : ℕ) (t : List ℕ) (m n : ℕ) → most < 2 ^ 64 → 1 ≤ m → m ≤ most → digits_after most m t ≡ Some n → (digits_of_number m ++ t ≡ digits_of_number n) × (n ≤ most)
digits_found most [] m n short some low e =
    let same = some_number m n e in
    (append-nil (digits_of_number m) ∙ ap digits_of_number same, omega (arith, low, same))
digits_found most (b ∷ t) m n short some low e = go (is_digit b && nat_le (m * 10 + (b - 48)) most) refl (λ more fits f. digits_found most t (m * 10 + (b - 48)) n short more fits f) e
  where
    go : (x : Bool) → is_digit b && nat_le (m * 10 + (b - 48)) most ≡ x
        → (1 ≤ m * 10 + (b - 48) → m * 10 + (b - 48) ≤ most → digits_after most (m * 10 + (b - 48)) t ≡ Some n → (digits_of_number (m * 10 + (b - 48)) ++ t ≡ digits_of_number n) × (n ≤ most))
        → cond x (digits_after most (m * 10 + (b - 48)) t) None ≡ Some n → (digits_of_number m ++ b ∷ t ≡ digits_of_number n) × (n ≤ most)
    go true is ih f =
        let d = digit_of most m b is in
        let fits = d.fits in
        let rest = ih (omega (arith, some)) d.fits f in (
          sym (append_assoc (digits_of_number m) (b ∷ []) t)
              ∙ ap (λ x. (digits_of_number m ++ x ∷ []) ++ t) (sym d.is)
              ∙ ap (λ ds. ds ++ t) (sym (digit_more m (b - 48) some d.small (omega (arith, fits, short))))
              ∙ rest.0,
          rest.1,
        )
    go false is ih f = absurd cc

first_found : (most c : ℕ) (t : List ℕ) (n k : ℕ) → most < 2 ^ 64 → c ≡ 48 + k → k < 10 → k ≤ most → (c == 48) && not (length t == 0) ≡ false → digits_after most k t ≡ Some n → WritesNumber most (c ∷ t) n
first_found most c [] n zero short is small low alone e =
    let same = some_number 0 n e in
    (ap (λ (b : ℕ). b ∷ []) is ∙ sym (decimal_digit 0 (omega arith)) ∙ ap digits_of_number same, omega (arith, low, same))
first_found most c (b ∷ t) n zero short is small low alone e =
    let long : (length (b ∷ t) == 0) ≡ false = grind (arith, nat_tests) in
    absurd (let f : true ≡ false = sym (ap (λ (x : ℕ). (x == 48) && not (length (b ∷ t) == 0)) is ∙ ap not long) ∙ alone in cc)
first_found most c t n (suc k) short is small low alone e =
    let rest = digits_found most t (suc k) n short (omega arith) low e in
    (ap (λ (b : ℕ). b ∷ t) is ∙ ap (λ (ds : List ℕ). ds ++ t) (sym (decimal_digit (suc k) small)) ∙ rest.0, rest.1)

number_found : (most : ℕ) (text : List ℕ) (n : ℕ) → most < 2 ^ 64 → decimal most text ≡ Some n → WritesNumber most text n
unfolding decimal
number_found most [] n short e = absurd cc
number_found most (c ∷ t) n short e = go ((c == 48) && not (length t == 0)) refl e
  where
    digit : (y : Bool) → is_digit c && nat_le (0 * 10 + (c - 48)) most ≡ y → (c == 48) && not (length t == 0) ≡ false → cond y (digits_after most (0 * 10 + (c - 48)) t) None ≡ Some n → WritesNumber most (c ∷ t) n
    digit true is alone f =
        let d = digit_of most 0 c is in
        let at = d.is in
        let small = d.small in
        first_found most c t n (0 * 10 + (c - 48)) short (omega (arith, at)) (omega (arith, small)) d.fits alone f
    digit false is alone f = absurd cc

    go : (x : Bool) → (c == 48) && not (length t == 0) ≡ x → cond x None (digits_after most 0 (c ∷ t)) ≡ Some n → WritesNumber most (c ∷ t) n
    go true is f = absurd cc
    go false is f = digit (is_digit c && nat_le (0 * 10 + (c - 48)) most) refl is f

-- ---- what is written is read

digit_read : (most m k n : ℕ) (t : List ℕ) → k < 10 → n ≡ m * 10 + k → n ≤ most → digits_after most m ((48 + k) ∷ t) ≡ digits_after most n t
digit_read most m k n t small is low =
    let same : m * 10 + (48 + k - 48) ≡ n = omega (arith, is) in
    rw (fits, same) refl
  where
    fits : is_digit (48 + k) && nat_le (m * 10 + (48 + k - 48)) most ≡ true
    fits = grind (arith, nat_tests)

module _ (most : ℕ) where
  abbrev Reads : ℕ → List ℕ → Type 0
  Reads n ds = n ≤ most → (t : List ℕ) → digits_after most 0 (ds ++ t) ≡ digits_after most n t

  one_digit : (n : ℕ) → n < 10 → Reads n ((48 + n) ∷ [])
  one_digit n small low t = digit_read most 0 n n t small (omega arith) low

  more_digits : (n : ℕ) (ds : List ℕ) → 10 ≤ n → Reads (n / 10) ds → Reads n (ds ++ (48 + n % 10) ∷ [])
  more_digits n ds large so_far low t =
      ap (digits_after most 0) (append_assoc ds ((48 + n % 10) ∷ []) t)
      ∙ so_far (omega (arith, low)) ((48 + n % 10) ∷ t)
      ∙ digit_read most (n / 10) (n % 10) n t (omega arith) (omega arith) low

  digits_read : (n : ℕ) → n < 2 ^ 64 → n ≤ most → digits_after most 0 (digits_of_number n) ≡ Some n
  digits_read n short low = ap (digits_after most 0) (sym (append-nil (digits_of_number n))) ∙ decimal_by_steps Reads one_digit more_digits n short low []

number_only : (most : ℕ) (text : List ℕ) (n : ℕ) → most < 2 ^ 64 → WritesNumber most text n → decimal most text ≡ Some n
unfolding decimal
number_only most [] n short w =
    let low = w.1 in
    let some = decimal_nonempty n (omega (arith, short, low)) in
    let none : 0 ≡ length (digits_of_number n) = ap (λ (ds : List ℕ). length ds) w.0 in
    absurd (omega (arith, some, none))
number_only most (c ∷ t) zero short w =
    ap (λ (ds : List ℕ). decimal most ds) (w.0 ∙ decimal_digit 0 (omega arith)) ∙ ap (λ (b : Bool). cond b (Some 0) None) (le-leb 0 most (omega arith))
number_only most (c ∷ t) (suc n) short w =
    let low = w.1 in
    let below : suc n < 2 ^ 64 = omega (arith, short, low) in
    let first : 48 < c = subst (λ (ds : List ℕ). 48 < get_or ds 0 0) (sym w.0) (first_decimal (suc n) (omega arith) below) in
    rw (other first) (ap (digits_after most 0) w.0 ∙ digits_read most (suc n) below low)
  where
    other : 48 < c → (c == 48) ≡ false
    other more = grind (arith, nat_tests)

pub numbers_are_written : (most : ℕ) (text : List ℕ) (n : ℕ) → most < 2 ^ 64 → (decimal most text ≡ Some n → WritesNumber most text n) × (WritesNumber most text n → decimal most text ≡ Some n)
numbers_are_written most text n short = (number_found most text n short, number_only most text n short)
