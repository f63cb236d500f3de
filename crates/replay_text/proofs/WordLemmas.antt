-- A text has one first word: it ends at the first blank. No number has a blank.
use Rattle.std.proofs.Common.{◌≡◌, ◌+◌, ◌<◌, ◌≤◌, ◌++◌, ◌&&◌, ℕ, Bool, List, [], ◌∷◌, length, take, Option, Some, None, IfNone, Result, Ok, Err, IfOk, ◌∙◌, ap, sym, subst, refl, arith, eqb, get_or, ⊎_elim, codes, true, false, ◌==◌, not}
use Rattle.std.proofs.lemmas.Bool.{false≢true, cases_Bool}
use Rattle.std.proofs.lemmas.Bool.Decides.{nat_tests}
use Rattle.std.proofs.lemmas.List.{take_more, append_cancel_left}
use Rattle.std.proofs.lemmas.Fmt.{decimal_is_IsNumeral}
use Rattle.std.proofs.lemmas.Str.Parse.{digit_from_value}
use Rattle.std.specs.Str.Parse.{AllDigits}
use Rattle.std.proofs.lemmas.List.Sums.{AllPass-from_list_all, list_all-from_AllPass}
use Rattle.std.specs.List.{list_all}
use Rattle.std.specs.Fmt.{decimal}
use Rattle.replay_text.specs.Transcript.{IsConnectionNumber}
use Rattle.sp_base.specs.Bytes.{is_visible_ascii}
use Rattle.replay_text.specs.Quoting.{not_blank, connection_text}
use Rattle.replay_text.specs.EventLines.{is_visible_text, flight_text, IsFlightText}
use Rattle.replay_text.specs.declared.event_line.NamedFlight.{NamedFlight}
use Rattle.replay_text.specs.declared.event_line.NamedFlight.TheVariants.{First, Numbered}

all-append : (a b : List ℕ) → list_all not_blank a ≡ true → list_all not_blank b ≡ true → list_all not_blank (a ++ b) ≡ true
all-append [] b p q = q
all-append (x ∷ a) b p q = ⊎_elim
    (λ (e : not_blank x ≡ true).
    let rest : list_all not_blank a ≡ true = sym (ap (λ t. t && list_all not_blank a) e) ∙ p in
    ap (λ t. t && list_all not_blank (a ++ b)) e ∙ all-append a b rest q)
    (λ (e : not_blank x ≡ false). absurd (false≢true (sym (ap (λ t. t && list_all not_blank a) e) ∙ p)))
    (cases_Bool (not_blank x))

pub no_blank_more : (text : List ℕ) (i : ℕ) → i < length text → list_all not_blank (take i text) ≡ true → (get_or text i 0 ≡ 32 → ⊥)
    → list_all not_blank (take (i + 1) text) ≡ true
no_blank_more text i lt none other =
    let tests : eqb (get_or text i 0) 32 ≡ false = grind (arith, nat_tests) in
    let last : list_all not_blank (get_or text i 0 ∷ []) ≡ true = rw tests refl in
    ap (list_all not_blank) (take_more text i 0 lt) ∙ all-append (take i text) (get_or text i 0 ∷ []) none last

no_blank_first : (y : ℕ) (word : List ℕ) → list_all not_blank (y ∷ word) ≡ true → y ≡ 32 → ⊥
no_blank_first y word none e = false≢true (subst (λ v. list_all not_blank (v ∷ word) ≡ true) e none)

no_blank_after : (y : ℕ) (word : List ℕ) → list_all not_blank (y ∷ word) ≡ true → list_all not_blank word ≡ true
no_blank_after y word none = ⊎_elim
    (λ (e : not_blank y ≡ true). sym (ap (λ t. t && list_all not_blank word) e) ∙ none)
    (λ (e : not_blank y ≡ false). absurd (false≢true (sym (ap (λ t. t && list_all not_blank word) e) ∙ none)))
    (cases_Bool (not_blank y))

pub one_first_word : (a b r s : List ℕ) → list_all not_blank a ≡ true → list_all not_blank b ≡ true → a ++ 32 ∷ r ≡ b ++ 32 ∷ s → (a ≡ b) × (r ≡ s)
one_first_word [] [] r s p q e = (refl, cc)
one_first_word [] (y ∷ b) r s p q e = let h : y ≡ 32 = cc in absurd (no_blank_first y b q h)
one_first_word (x ∷ a) [] r s p q e = let h : x ≡ 32 = cc in absurd (no_blank_first x a p h)
one_first_word (x ∷ a) (y ∷ b) r s p q e =
    let rest : a ++ 32 ∷ r ≡ b ++ 32 ∷ s = cc in
    let heads : x ≡ y = cc in
    let same = one_first_word a b r s (no_blank_after x a p) (no_blank_after y b q) rest in
    (cc (same.0, heads), same.1)

-- a word names no flight
pub no_flight : (word : List ℕ) → (word ≡ codes "first" → ⊥) → ((n : ℕ) → 1 ≤ n → n < 18446744073709551616 → word ≡ decimal n → ⊥)
    → (f : NamedFlight) → IsFlightText f → word ≡ flight_text f → ⊥
no_flight word not_first none First is e = not_first e
no_flight word not_first none (Numbered n) is e = none n is.0 is.1 e

pub IfOkNone-weaker : {A E : Type 0} (r : Result (Option A) E) (P Q : Type 0) → (P → Q) → IfOk r (λ o. IfNone o P) → IfOk r (λ o. IfNone o Q)
IfOkNone-weaker (Ok None) P Q f h = f h
IfOkNone-weaker (Ok (Some x)) P Q f h = tt
IfOkNone-weaker (Err e) P Q f h = tt

-- no number has a blank
not_blank_above : (b : ℕ) → 48 ≤ b → not_blank b ≡ true
not_blank_above b le = let t : eqb b 32 ≡ false = grind (arith, nat_tests) in rw t refl

pub decimal_no_blank : (n : ℕ) → n < 18446744073709551616 → list_all not_blank (decimal n) ≡ true
decimal_no_blank n small = digits_no_blank (decimal n) (decimal_is_IsNumeral n (omega (arith, small))).0.1
  where
    digits_no_blank : (ds : List ℕ) → AllDigits 10 ds → list_all not_blank ds ≡ true
    digits_no_blank [] d = refl
    digits_no_blank (c ∷ ds) d =
        ap (λ t. t && list_all not_blank ds) (not_blank_above c (omega (arith, digit_from_value c d.0))) ∙ digits_no_blank ds d.1

-- a line with a number goes on in one way
pub one_numbered : (word line rest other : List ℕ) (c d : ℕ) → c < 18446744073709551616 → d < 18446744073709551616 → line ≡ connection_text word c rest → line ≡ connection_text word d other → rest ≡ other
one_numbered word line rest other c d is_c is_d e f =
    (one_first_word (decimal c) (decimal d) rest other (decimal_no_blank c is_c) (decimal_no_blank d is_d)
    (append_cancel_left word (decimal c ++ 32 ∷ rest) (decimal d ++ 32 ∷ other) (sym e ∙ f))).1

-- a line about a connection does
pub one_connection : (word line rest other : List ℕ) (c d : ℕ) → IsConnectionNumber c → IsConnectionNumber d → line ≡ connection_text word c rest → line ≡ connection_text word d other → rest ≡ other
one_connection word line rest other c d is_c is_d e f = one_numbered word line rest other c d (omega (arith, is_c)) (omega (arith, is_d)) e f

-- a text without a blank isn't cut by one
pub not_cut : (word rest : List ℕ) → list_all not_blank (word ++ 32 ∷ rest) ≡ true → ⊥
not_cut [] rest e = no_blank_first 32 rest e refl
not_cut (b ∷ word) rest e = not_cut word rest (no_blank_after b (word ++ 32 ∷ rest) e)

visible_not_blank : (b : ℕ) → is_visible_ascii b ≡ true → not_blank b ≡ true
visible_not_blank b e = not_blank_from b (grind (arith, nat_tests))
  where
    not_blank_from : (b : ℕ) → 33 ≤ b → not_blank b ≡ true
    not_blank_from b le = let t : eqb b 32 ≡ false = grind (arith, nat_tests) in rw t refl

-- no target has a blank
pub target_no_blank : (text : List ℕ) → is_visible_text text ≡ true → list_all not_blank text ≡ true
target_no_blank text is = list_all-from_AllPass not_blank text (λ k d lt.
    visible_not_blank (get_or text k d) (AllPass-from_list_all is_visible_ascii text (and_second (not (length text == 0)) (list_all is_visible_ascii text) is) k d lt))
  where
    and_second : (a b : Bool) → (a && b) ≡ true → b ≡ true
    and_second true b e = e
    and_second false b e = absurd (false≢true e)
