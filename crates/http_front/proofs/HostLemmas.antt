-- The parts of a Host field's value, and numbers.
use Rattle.std.proofs.Common.{◌≡◌, ◌<◌, ◌≤◌, ◌+◌, ◌*◌, ◌^◌, ◌-◌, ℕ, Bool, true, false, List, [], ◌∷◌, Some, None, length, take, drop, get_or, position, sym, ◌∙◌, ap, refl, arith, rules, cond, zero, suc}
use Rattle.std.specs.Prelude.{IsTrue, ◌&&◌, nat_lt, nat_le}
use Rattle.std.specs.List.{before_first, list_all, position_or_len}
use Rattle.std.specs.Char.{is_ascii_digit, digit_value}
use Rattle.std.specs.Str.{IsUtf8}
use Rattle.std.specs.Str.Parse.{digits_value}
use Rattle.std.specs.Int.{IsInRange}
use Rattle.std.proofs.lemmas.Bool.{and_parts, ltb-true, leb-true}
use Rattle.std.proofs.lemmas.Bool.Decides.{nat_tests}
use Rattle.std.proofs.lemmas.List.{drop_all, length-take-le}
use Rattle.std.proofs.lemmas.Int.Digits.{digits_value_more}
use Rattle.std.proofs.lemmas.Str.Parse.{IsNumeralModel, numerals_by_value, digits_value_short, digits_value-take-le, digit_at}
use Rattle.std.proofs.lemmas.Str.{IsUtf8-from_ascii}
use Rattle.http_front.specs.Hosts.{is_number, is_asked_host_name, is_asked_host_byte}
use Rattle.http_front.proofs.TargetLemmas.{before_place, before_none}

in_range : (b : Bool) (n at : ℕ) → Some at ≡ cond b (Some n) None → b ≡ true
in_range true n at e = refl
in_range false n at e = absurd cc

first_at : (b : Bool) (n at : ℕ) → Some at ≡ cond b (Some n) None → at ≡ n
first_at true n at e = cc
first_at false n at e = absurd cc

-- what stands after the first place
pub after_place : (p : ℕ → Bool) (xs : List ℕ) (at : ℕ) → Some at ≡ position p xs → drop (at + 1) xs ≡ drop (length (before_first p xs) + 1) xs
after_place p xs at e =
    let n = position_or_len p xs in
    let same : at ≡ n = first_at (nat_lt n (length xs)) n at e in
    let inside : n < length xs = ltb-true n (length xs) (in_range (nat_lt n (length xs)) n at e) in
    let long : length (before_first p xs) ≡ at = ap length (sym (before_place p xs at e)) ∙ length-take-le at xs (omega arith) in
    ap (λ k. drop (k + 1) xs) (sym long)

pub after_none : (p : ℕ → Bool) (xs : List ℕ) → None ≡ position p xs → [] ≡ drop (length (before_first p xs) + 1) xs
after_none p xs e =
    let long : length xs ≡ length (before_first p xs) = ap length (before_none p xs e) in
    sym (drop_all (length (before_first p xs) + 1) xs (omega arith))

own : IsNumeralModel (λ ds. list_all is_ascii_digit ds ≡ true) (digits_value 10)
own = numerals_by_value _ (search rules)

-- a number of 18 digits fits
pub small : (text : List ℕ) → IsTrue (is_number text) → digits_value 10 text < 10 ^ 18
small text h =
    let parts = and_parts (list_all is_ascii_digit text) (nat_lt 0 (length text) && nat_le (length text) 18) h in
    let sizes = and_parts (nat_lt 0 (length text)) (nat_le (length text) 18) parts.1 in
    digits_value_short own text 18 parts.0 (leb-true (length text) 18 sizes.1)

-- one digit more
pub record Step (text : List ℕ) (i : ℕ) : Type 0 where
  pub digit : 48 ≤ get_or text i 0
  pub more : digits_value 10 (take (i + 1) text) ≡ digits_value 10 (take i text) * 10 + (get_or text i 0 - 48)
  pub fits : digits_value 10 (take (i + 1) text) < 10 ^ 18

pub step : (text : List ℕ) (i : ℕ) → IsTrue (is_number text) → i < length text → Step text i
step text i h inside =
    let parts = and_parts (list_all is_ascii_digit text) (nat_lt 0 (length text) && nat_le (length text) 18) h in
    let range : IsInRange 48 57 (get_or text i 0) = digit_at text i (own.to text parts.0) inside in
    let value : digit_value (get_or text i 0) ≡ get_or text i 0 - 48 = grind (arith, nat_tests) in
    record {
      digit = range.0;
      more = digits_value_more 10 text i inside ∙ ap (λ d. digits_value 10 (take i text) * 10 + d) value;
      fits = omega (arith, digits_value-take-le 10 text (i + 1) (omega arith), small text h);
    }

name_byte_is_ascii : (b : ℕ) → is_asked_host_byte b ≡ true → b < 128
name_byte_is_ascii b h = grind (arith, nat_tests)

-- a name is a text
pub name_text : (name : List ℕ) → is_asked_host_name name ≡ true → IsUtf8 name
name_text name h =
    let parts = and_parts (nat_lt 0 (length name)) (list_all is_asked_host_byte name) h in
    IsUtf8-from_ascii name (λ i. ascii_at name i parts.1)
  where
    ascii_at : (name : List ℕ) (i : ℕ) → list_all is_asked_host_byte name ≡ true → get_or name i 0 < 128
    ascii_at [] i all = omega arith
    ascii_at (b ∷ name) zero all = name_byte_is_ascii b (and_parts (is_asked_host_byte b) (list_all is_asked_host_byte name) all).0
    ascii_at (b ∷ name) (suc i) all = ascii_at name i (and_parts (is_asked_host_byte b) (list_all is_asked_host_byte name) all).1
