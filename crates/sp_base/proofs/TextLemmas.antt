-- Texts: when two are one, what one begins with, and digits.
use Rattle.std.proofs.Common.{[], ap, append_assoc, arith, drop, false, inl, inr, length, nat_eq, refl, sym, take, true, ℕ, ⊎_elim, ◌&&◌, ◌++◌, ◌<◌, ◌==◌, ◌∙◌, ◌∷◌, ◌≡◌, ◌≢◌, ◌≤◌, ◌⊎◌}
use Rattle.std.specs.Char.{is_ascii_digit}
use Rattle.std.specs.Cmp.Lexicographic.{bytes_decides, nat_list_eq_equiv, pointwise, same_text}
use Rattle.std.specs.List.{starts_with}
use Rattle.std.specs.Prelude.{encode_utf8_all}
use Rattle.std.specs.Str.{all_ascii_digits, bytes_eq}
use Rattle.std.specs.Str.Parse.{digits_value}
use lib.Utf8.{encode}
use Rattle.std.proofs.lemmas.Bool.{and_parts, cases_Bool, false_from_ne_true, false≢true, true≢false}
use Rattle.std.proofs.lemmas.Bool.Decides.{nat_tests}
use Rattle.std.proofs.lemmas.List.{length-take, take-append-drop, take_at}
use Rattle.std.proofs.lemmas.Str.Parse.{IsNumeralModel, numerals_by_value, tells_all_ascii_digits}
use Rattle.sp_base.specs.Bytes.{begins_with_byte}
use Rattle.sp_base.specs.Texts.{Segments, Text}
use Rattle.sp_base.proofs.BoolLemmas.{and_first, and_second}

pub text_itself : (name : Text) → pointwise nat_eq name name ≡ true
text_itself name = nat_list_eq_equiv.refl name

pub text_is : (a b : Text) → pointwise nat_eq a b ≡ true → a ≡ b
text_is a b e = same_text a b (sym e)

pub one_text_or_two : (xs ys : Text) → (xs ≡ ys) ⊎ (xs ≢ ys)
one_text_or_two xs ys = elim (pointwise nat_eq xs ys) as (λ t. pointwise nat_eq xs ys ≡ t → (xs ≡ ys) ⊎ (xs ≢ ys)) [
  | true ↦ λ e. inl ((bytes_decides xs ys).0 e)
  | false ↦ λ e. inr (λ q. true≢false (sym ((bytes_decides xs ys).1 q) ∙ e))
] refl

pub bytes_eq_swapped : (a b : Text) → bytes_eq a b ≡ bytes_eq b a
bytes_eq_swapped a b =
    ⊎_elim
    (λ (same : bytes_eq a b ≡ true). same ∙ sym (ap (bytes_eq b) (same_text a b (sym same)) ∙ nat_list_eq_equiv.refl b))
    (λ (other : bytes_eq a b ≡ false). other ∙ sym (false_from_ne_true (bytes_eq b a) (λ same. true≢false (sym (nat_list_eq_equiv.refl a) ∙ ap (bytes_eq a) (sym (same_text b a (sym same))) ∙ other))))
    (cases_Bool (bytes_eq a b))

pub segments_themselves : (xs : Segments) → pointwise (pointwise nat_eq) xs xs ≡ true
segments_themselves [] = refl
segments_themselves (x ∷ xs) = ap (λ t. t && pointwise (pointwise nat_eq) xs xs) ((bytes_decides x x).1 refl) ∙ segments_themselves xs

pub segments_are : (xs ys : Segments) → pointwise (pointwise nat_eq) xs ys ≡ true → xs ≡ ys
segments_are [] [] h = refl
segments_are [] (y ∷ ys) h = absurd (true≢false (sym h))
segments_are (x ∷ xs) [] h = absurd (true≢false (sym h))
segments_are (x ∷ xs) (y ∷ ys) h =
    ap (λ z. z ∷ xs) ((bytes_decides x y).0 (and_first (pointwise nat_eq x y) (pointwise (pointwise nat_eq) xs ys) h))
    ∙ ap (λ zs. y ∷ zs) (segments_are xs ys (and_second (pointwise nat_eq x y) (pointwise (pointwise nat_eq) xs ys) h))

pub begins_with : (text prefix : Text) → starts_with nat_eq text prefix ≡ true → text ≡ prefix ++ drop (length prefix) text
begins_with text prefix h =
    sym (take-append-drop (length prefix) text) ∙ ap (λ (t : Text). t ++ drop (length prefix) text) (sym ((bytes_decides prefix (take (length prefix) text)).0 h))

pub begun_and_rest : (text prefix rest : Text) → pointwise nat_eq (take (length prefix) text) prefix ≡ true → rest ≡ drop (length prefix) text → text ≡ prefix ++ rest
begun_and_rest text prefix rest e is =
    sym (take-append-drop (length prefix) text) ∙ ap (λ (t : Text). t ++ drop (length prefix) text) ((bytes_decides (take (length prefix) text) prefix).0 e) ∙ ap (λ (t : Text). prefix ++ t) (sym is)

pub not_begun : (text prefix more : Text) → pointwise nat_eq (take (length prefix) text) prefix ≡ false → text ≡ prefix ++ more → ⊥
not_begun text prefix more e is =
    cc (e, (bytes_decides (take (length prefix) text) prefix).1 (ap (take (length prefix)) is ∙ take_at prefix more (length prefix) refl))

pub prefix_fits : (text prefix : Text) → prefix ≡ take (length prefix) text → length prefix ≤ length text
prefix_fits text prefix is = omega (arith, ap length is, length-take (length prefix) text)

pub rest_after_byte : (c : ℕ) (t : Text) → begins_with_byte c t ≡ true → length (drop 1 t) < length t
unfolding begins_with_byte
rest_after_byte c [] h = absurd cc
rest_after_byte c (d ∷ t) h = omega arith

pub not_slash : (b : ℕ) → b ≢ 47 → (b == 47) ≡ false
not_slash b h = grind (arith, nat_tests)

pub encode_append : (xs ys : Text) → encode_utf8_all (xs ++ ys) ≡ encode_utf8_all xs ++ encode_utf8_all ys
encode_append [] ys = refl
encode_append (x ∷ xs) ys = ap (λ (l : Text). encode x ++ l) (encode_append xs ys) ∙ sym (append_assoc (encode x) (encode_utf8_all xs) (encode_utf8_all ys))

pub digit_is_not : (b end : ℕ) → is_ascii_digit b ≡ true → is_ascii_digit end ≡ false → b ≢ end
digit_is_not b end p q e = false≢true (sym q ∙ sym (ap is_ascii_digit e) ∙ p)

pub one_run_of_digits : (end : ℕ) (x y r s : Text) → is_ascii_digit end ≡ false → all_ascii_digits x ≡ true → all_ascii_digits y ≡ true → x ++ end ∷ r ≡ y ++ end ∷ s → (x ≡ y) × (r ≡ s)
one_run_of_digits end [] [] r s n p q e = (refl, cc)
one_run_of_digits end [] (c ∷ y) r s n p q e =
    let head : c ≡ end = cc in absurd (digit_is_not c end (and_parts (is_ascii_digit c) (all_ascii_digits y) q).0 n head)
one_run_of_digits end (b ∷ x) [] r s n p q e =
    let head : b ≡ end = cc in absurd (digit_is_not b end (and_parts (is_ascii_digit b) (all_ascii_digits x) p).0 n head)
one_run_of_digits end (b ∷ x) (c ∷ y) r s n p q e =
    let head : b ≡ c = cc in
    let more : x ++ end ∷ r ≡ y ++ end ∷ s = cc in
    let tail = one_run_of_digits end x y r s n (and_parts (is_ascii_digit b) (all_ascii_digits x) p).1 (and_parts (is_ascii_digit c) (all_ascii_digits y) q).1 more in
    (cc (head, tail.0), tail.1)

pub digits_are_numerals : IsNumeralModel (λ ds. all_ascii_digits ds ≡ true) (digits_value 10)
digits_are_numerals = numerals_by_value (λ ds. all_ascii_digits ds ≡ true) tells_all_ascii_digits
