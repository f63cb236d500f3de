-- The number that digits spell.
use Rattle.std.proofs.Common.{◌≡◌, ◌<◌, ◌&&◌, ◌^◌, cond, ℕ, Bool, true, false, List, [], ◌∷◌, Some, None, Result, Ok, Err, length, codes, nat_eq, refl, ap, sym, arith}
use Rattle.std.specs.Prelude.{nat_lt}
use Rattle.std.specs.Char.{is_ascii_digit}
use Rattle.std.specs.List.{list_all, starts_with}
use Rattle.std.specs.Result.{result_ok, OkIff}
use Rattle.std.specs.Str.{all_ascii_digits, bytes_eq}
use Rattle.std.specs.Str.Parse.{ParsesUnsigned, digits_value}
use Rattle.std.proofs.lemmas.Bool.{lt-ltb, ltb-true}
use Rattle.std.proofs.lemmas.Bool.Decides.{nat_tests}
use Rattle.std.proofs.lemmas.Str.Parse.{parse_digits}
use Rattle.sp_base.proofs.TextLemmas.{digits_are_numerals}
use Rattle.post_plan.specs.Plan.{is_numeral, place_number, place_at, place_named}

pub all_digits : (word : List ℕ) → list_all is_ascii_digit word ≡ all_ascii_digits word
all_digits [] = refl
all_digits (b ∷ word) = ap (λ rest. is_ascii_digit b && rest) (all_digits word)

record Spelled (word : List ℕ) : Type 0 where
  digits : all_ascii_digits word ≡ true
  some : 0 < length word

spelled : (word : List ℕ) → is_numeral word ≡ true → Spelled word
spelled word is = grind (arith, nat_tests)

pub number_value : {E : Type 0} (word : List ℕ) (r : Result ℕ E) → is_numeral word ≡ true → ParsesUnsigned 64 10 word r → result_ok r ≡ place_number word
number_value word r is h =
    let s = spelled word is in
    rw is (go r (parse_digits digits_are_numerals 64 word r h s.digits) s.some)
  where
    go : {E : Type 0} (r : Result ℕ E) → OkIff r ((0 < length word) × (digits_value 10 word < 2 ^ 64)) (digits_value 10 word) → 0 < length word → result_ok r ≡ cond (nat_lt (digits_value 10 word) (2 ^ 64)) (Some (digits_value 10 word)) None
    go (Ok n) h some = let fits : nat_lt (digits_value 10 word) (2 ^ 64) ≡ true = lt-ltb (digits_value 10 word) (2 ^ 64) h.0.1 in rw fits (ap Some h.1)
    go (Err e) h some = by (nat_lt (digits_value 10 word) (2 ^ 64)) refl
      where
        by : (b : Bool) → nat_lt (digits_value 10 word) (2 ^ 64) ≡ b → None ≡ cond b (Some (digits_value 10 word)) None
        by true e = absurd (h (some, ltb-true (digits_value 10 word) (2 ^ 64) e))
        by false e = refl

pub place_rest : (word : List ℕ) → bytes_eq word (codes "first") ≡ false → bytes_eq word (codes "last") ≡ false → false ≡ starts_with nat_eq word (codes "before ") → false ≡ starts_with nat_eq word (codes "after ")
    → place_at (place_number word) ≡ place_named word
place_rest word first last before after = rw (first, last, sym before, sym after) refl
