-- What a parsed number is, and lists of numbers up to the first word that is none.
use Rattle.std.proofs.Common.{◌≡◌, ◌≢◌, ◌==◌, ◌<◌, ◌+◌, ℕ, zero, suc, ℤ, pos, neg_ℤ, Bool, true, false, cond, not, ◌&&◌, List, [], ◌∷◌, ◌++◌, Some, None, is_none, Result, Ok, Err, map, length, get_or, take, drop, nat_lt, nat_le, unwrap_or, refl, sym, ◌∙◌, ap, arith}
use Rattle.std.specs.Int.{w64}
use Rattle.std.specs.Result.{OkIff, result_ok}
use Rattle.std.specs.Str.Parse.{ParsesSigned, digits_value}
use Rattle.std.proofs.lemmas.Bool.{and_from, eqb-false, eqb-true, le-leb, leb-true, lt-ltb, ltb-true}
use Rattle.std.proofs.lemmas.Bool.Decides.{nat_tests}
use Rattle.std.proofs.lemmas.List.{take_more, map-append}
use Rattle.std.proofs.lemmas.List.Sums.{position_or_len_is}
use Rattle.std.proofs.lemmas.Str.Parse.{parse_signed_minus, parse_signed_plain}
use Rattle.sp_base.specs.declared.hint.ValueFault.TheVariants.{NotANumber}
use Rattle.sp_base.specs.Typed.{are_digits, number_of, longs_of, longs_at}
use Rattle.sp_base.proofs.BoolLemmas.{and_first, and_second}
use Rattle.sp_base.proofs.NatLemmas.{not_below_itself}
use Rattle.sp_base.proofs.TextLemmas.{digits_are_numerals}

tested : {A E : Type 0} (r : Result A E) (P : Type 0) (b : Bool) (v : A) → OkIff r P v → (b ≡ true → P) → (P → b ≡ true) → result_ok r ≡ cond b (Some v) None
tested (Ok x) P b v h to from = let yes = from h.0 in let same = h.1 in cc (yes, same)
tested (Err e) P true v h to from = absurd (h (to refl))
tested (Err e) P false v h to from = refl

filled : (n : ℕ) → not (n == 0) ≡ true → 0 < n
filled n e = grind (arith, nat_tests)

fills : (n : ℕ) → 0 < n → not (n == 0) ≡ true
fills n e = grind (arith, nat_tests)

pub number_is : {E : Type 0} (word : List ℕ) (r : Result ℤ E) → ParsesSigned w64 10 word r → get_or word 0 0 ≢ 43 → result_ok r ≡ number_of word
number_is word r h without_plus =
    let ds = drop 1 word in
    elim (get_or word 0 0 == 45) as (λ b. (get_or word 0 0 == 45) ≡ b → result_ok r ≡ cond b
    (cond (are_digits ds && nat_le (digits_value 10 ds) 9223372036854775808) (Some (neg_ℤ (pos (digits_value 10 ds)))) None)
    (cond (are_digits word && nat_lt (digits_value 10 word) 9223372036854775808) (Some (pos (digits_value 10 word))) None)) [
      | true ↦ λ e. tested r _ (are_digits ds && nat_le (digits_value 10 ds) 9223372036854775808) (neg_ℤ (pos (digits_value 10 ds)))
          (parse_signed_minus digits_are_numerals w64 word r h (eqb-true (get_or word 0 0) 45 e))
          (λ t. let d = and_first _ _ t in (and_second _ _ d, filled (length ds) (and_first _ _ d), leb-true (digits_value 10 ds) 9223372036854775808 (and_second _ _ t)))
          (λ p. and_from _ _ (and_from _ _ (fills (length ds) p.1) p.0) (le-leb (digits_value 10 ds) 9223372036854775808 p.2))
      | false ↦ λ e. tested r _ (are_digits word && nat_lt (digits_value 10 word) 9223372036854775808) (pos (digits_value 10 word))
          (parse_signed_plain digits_are_numerals w64 word r h without_plus (eqb-false (get_or word 0 0) 45 e))
          (λ t. let d = and_first _ _ t in (and_second _ _ d, filled (length word) (and_first _ _ d), ltb-true (digits_value 10 word) 9223372036854775808 (and_second _ _ t)))
          (λ p. and_from _ _ (and_from _ _ (fills (length word) p.1) p.0) (lt-ltb (digits_value 10 word) 9223372036854775808 p.2))
    ] refl

-- the first word that is no number stands at this place
pub longs_fail : (words : List (List ℕ)) (i : ℕ) → i < length words → ((k : ℕ) → k < i → is_none (number_of (get_or words k [])) ≡ false)
    → number_of (get_or words i []) ≡ None → longs_of words ≡ Err (NotANumber i)
longs_fail words i lt before here =
    let p : List ℕ → Bool = λ word. is_none (number_of word) in
    let at = position_or_len_is p words i [] (omega (arith, lt)) before (λ _. ap is_none here) in
    ap (λ n. longs_at (cond (nat_lt n (length words)) (Some n) None) words) at
    ∙ ap (λ b. longs_at (cond b (Some i) None) words) (lt-ltb i (length words) lt)

pub longs_all : (words : List (List ℕ)) → ((k : ℕ) → k < length words → is_none (number_of (get_or words k [])) ≡ false)
    → longs_of words ≡ Ok (map (λ word. unwrap_or (number_of word) (pos 0)) words)
longs_all words each =
    let p : List ℕ → Bool = λ word. is_none (number_of word) in
    let at = position_or_len_is p words (length words) [] (omega arith) each (λ lt. absurd (omega (arith, lt))) in
    ap (λ n. longs_at (cond (nat_lt n (length words)) (Some n) None) words) at
    ∙ ap (λ b. longs_at (cond b (Some (length words)) None) words) (not_below_itself (length words))

pub not_plus : (word : List ℕ) → ((rest : List ℕ) → word ≢ 43 ∷ rest) → get_or word 0 0 ≢ 43
not_plus [] none e = cc (e)
not_plus (b ∷ word) none e = none word (ap (λ (c : ℕ). c ∷ word) e)

pub item_is : (xs : List (List ℕ)) (i : ℕ) (x : List ℕ) → i < length xs → x ≡ get_or xs i x → get_or xs i [] ≡ x
item_is [] i x lt e = absurd (omega (arith, lt))
item_is (y ∷ xs) zero x lt e = sym e
item_is (y ∷ xs) (suc i) x lt e = item_is xs i x (omega (arith, lt)) e

pub one_more : (words : List (List ℕ)) (i : ℕ) (n : ℤ) → i < length words → number_of (get_or words i []) ≡ Some n
    → map (λ word. unwrap_or (number_of word) (pos 0)) (take (i + 1) words) ≡ map (λ word. unwrap_or (number_of word) (pos 0)) (take i words) ++ n ∷ []
one_more words i n lt e =
    let f : List ℕ → ℤ = λ word. unwrap_or (number_of word) (pos 0) in
    ap (map f) (take_more words i [] lt) ∙ map-append f (take i words) (get_or words i [] ∷ []) ∙ ap (λ o. map f (take i words) ++ unwrap_or o (pos 0) ∷ []) e
