-- The number that a selector spells.
use Rattle.std.proofs.Common.{◌≡◌, ◌<◌, ◌≤◌, ◌&&◌, ◌^◌, ℕ, true, List, [], ◌∷◌, Some, Result, length, refl, ap, arith}
use Rattle.std.specs.Char.{is_ascii_digit}
use Rattle.std.specs.List.{list_all}
use Rattle.std.specs.Result.{result_ok}
use Rattle.std.specs.Str.{all_ascii_digits}
use Rattle.std.specs.Str.Parse.{ParsesUnsigned, digits_value}
use Rattle.std.proofs.lemmas.Bool.Decides.{nat_tests}
use Rattle.std.proofs.lemmas.Str.Parse.{parse_gives, digits_value_short}
use Rattle.sp_base.proofs.TextLemmas.{digits_are_numerals}
use Rattle.publisher.specs.Depths.{is_depth}

pub all_digits : (word : List ℕ) → list_all is_ascii_digit word ≡ all_ascii_digits word
all_digits [] = refl
all_digits (b ∷ word) = ap (λ rest. is_ascii_digit b && rest) (all_digits word)

record Spelled (word : List ℕ) : Type 0 where
  digits : all_ascii_digits word ≡ true
  some : 0 < length word
  few : length word ≤ 9

spelled : (word : List ℕ) → is_depth word ≡ true → Spelled word
spelled word is = grind (arith, nat_tests)

pub depth_value : {E : Type 0} (word : List ℕ) (r : Result ℕ E) → is_depth word ≡ true → ParsesUnsigned 32 10 word r → result_ok r ≡ Some (digits_value 10 word)
depth_value word r is h =
    let s = spelled word is in
    let small : digits_value 10 word < 2 ^ 32 = omega (arith, digits_value_short digits_are_numerals word 9 s.digits s.few) in
    ap result_ok (parse_gives digits_are_numerals 32 word r h s.digits s.some small)
