-- What is written is read back: numbers, and the texts of heads, stamps and epochs.
use Rattle.std.proofs.Common.{◌≡◌, ◌<◌, ◌≤◌, ◌+◌, ◌-◌, ◌*◌, ◌/◌, ◌%◌, ◌^◌, ℕ, zero, suc, true, false, not, cond, ◌&&◌, ◌++◌, List, [], ◌∷◌, Some, None, IsTrue, length, slice_index, get_or, nat_le, nat_eq, nat_lt, codes, refl, sym, ◌∙◌, ap, arith, option_and_then, option_map}
use Rattle.std.specs.Fmt.{decimal}
use Rattle.std.proofs.lemmas.Bool.Decides.{nat_tests}
use Rattle.std.proofs.lemmas.Fmt.{decimal_by_steps, decimal_digit}
use Rattle.std.proofs.lemmas.List.{length-append, take_at, drop_at}
use Rattle.sp_base.specs.Bytes.{is_digit}
use Rattle.sp_base.specs.Limits.{greatest_u64}
use Rattle.sp_base.specs.MediaTypes.{is_kind}
use Rattle.cover_rules.specs.declared.stamp.Stamp.{Stamp}
use Rattle.docroot_format.specs.Readings.{digit_fits, digits_from, begins_number, leading_number, after_word, is_end, stamp_of, stat_of, epoch_of, stored_kind, HeadLine, body_of, head_of}
use Rattle.docroot_format.specs.Texts.{head_text, stat_text, epoch_text}
use Rattle.docroot_format.proofs.NameLemmas.{append_both}

fits : (m k n : ℕ) → k < 10 → n ≡ m * 10 + k → n < 2 ^ 64 → is_digit (48 + k) && nat_le (m * 10 + (48 + k - 48)) greatest_u64 ≡ true
fits m k n small is short = grind (arith, nat_tests)

-- a digit more
pub digit : (m k n : ℕ) (t : List ℕ) → k < 10 → n ≡ m * 10 + k → n < 2 ^ 64 → digits_from m ((48 + k) ∷ t) ≡ digits_from n t
unfolding digit_fits digits_from
digit m k n t small is short =
    let same : m * 10 + (48 + k - 48) ≡ n = omega (arith, is) in
    rw (fits m k n small is short, same) refl

abbrev Reads : ℕ → List ℕ → Type 0
Reads n ds = n < 2 ^ 64 → (t : List ℕ) → digits_from 0 (ds ++ t) ≡ digits_from n t

one_digit : (n : ℕ) → n < 10 → Reads n ((48 + n) ∷ [])
one_digit n small short t = digit 0 n n t small (omega arith) short

more_digits : (n : ℕ) (ds : List ℕ) → 10 ≤ n → Reads (n / 10) ds → Reads n (ds ++ (48 + n % 10) ∷ [])
more_digits n ds large so_far short t =
    ap (digits_from 0) (sym (append_both ds ((48 + n % 10) ∷ []) t))
    ∙ so_far (omega (arith, short)) ((48 + n % 10) ∷ t)
    ∙ digit (n / 10) (n % 10) n t (omega arith) (omega arith) short

digits_read : (n : ℕ) (t : List ℕ) → n < 2 ^ 64 → digits_from 0 (decimal n ++ t) ≡ digits_from n t
digits_read n t short = decimal_by_steps Reads one_digit more_digits n short short t

-- no digit, so the number ends
pub ends : (n : ℕ) (t : List ℕ) → is_digit (slice_index t 0) ≡ false → digits_from n t ≡ (n, t)
unfolding digit_fits digits_from
ends n [] none = refl
ends n (b ∷ t) none = rw none refl

-- the first digit of a number but zero
record FirstDigit (ds : List ℕ) : Type 0 where
  some : 0 < length ds
  low : 49 ≤ get_or ds 0 0
  high : get_or ds 0 0 ≤ 57

abbrev HasFirst : ℕ → List ℕ → Type 0
HasFirst n ds = 1 ≤ n → FirstDigit ds

one_first : (n : ℕ) → n < 10 → HasFirst n ((48 + n) ∷ [])
one_first n small some = record { some = omega arith; low = omega (arith, some); high = omega (arith, small) }

onto : (ds : List ℕ) (x : ℕ) → FirstDigit ds → FirstDigit (ds ++ x ∷ [])
onto [] x first = absurd (omega (arith, first.some))
onto (d ∷ ds) x first = record { some = omega arith; low = first.low; high = first.high }

more_first : (n : ℕ) (ds : List ℕ) → 10 ≤ n → HasFirst (n / 10) ds → HasFirst n (ds ++ (48 + n % 10) ∷ [])
more_first n ds large so_far some = onto ds (48 + n % 10) (so_far (omega (arith, large)))

begins_first : (b c : ℕ) → 49 ≤ b → b ≤ 57 → is_digit b && not (nat_eq b 48 && is_digit c) ≡ true
begins_first b c low high = grind (arith, nat_tests)

begins_from : (ds t : List ℕ) → FirstDigit ds → begins_number (ds ++ t) ≡ true
begins_from [] t first = absurd (omega (arith, first.some))
begins_from (d ∷ ds) t first = begins_first d (slice_index (ds ++ t) 0) first.low first.high

begins : (n : ℕ) (t : List ℕ) → n < 2 ^ 64 → is_digit (slice_index t 0) ≡ false → begins_number (decimal n ++ t) ≡ true
begins zero t short none =
    ap (λ ds. begins_number (ds ++ t)) (decimal_digit 0 (omega arith))
    ∙ ap (λ b. is_digit 48 && not (nat_eq 48 48 && b)) none
begins (suc n) t short none = begins_from (decimal (suc n)) t (decimal_by_steps HasFirst one_first more_first (suc n) short (omega arith))

pub number_read : (n : ℕ) (t : List ℕ) → n < 2 ^ 64 → is_digit (slice_index t 0) ≡ false → leading_number (decimal n ++ t) ≡ Some (n, t)
unfolding leading_number
number_read n t short none =
    ap (λ b. cond b (Some (digits_from 0 (decimal n ++ t))) None) (begins n t short none)
    ∙ ap Some (digits_read n t short ∙ ends n t none)

abbrev pair : ℕ → ℕ × List ℕ → Stamp × List ℕ
pair e q = (record { epoch = e; count = q.0 }, q.1)

stamp_read : (e c : ℕ) (t : List ℕ) → e < 2 ^ 64 → c < 2 ^ 64 → is_digit (slice_index t 0) ≡ false
    → stamp_of (decimal e ++ (codes " " ++ (decimal c ++ t))) ≡ Some (record { epoch = e; count = c }, t)
unfolding stamp_of after_word
stamp_read e c t short_e short_c none =
    ap (option_and_then (λ p. option_and_then (λ rest. option_map (pair p.0) (leading_number rest)) (after_word (codes " ") p.1)))
    (number_read e (codes " " ++ (decimal c ++ t)) short_e refl)
    ∙ ap (option_map (pair e)) (number_read c t short_c none)

-- five parts, nested to the right
flat : (a b c d e : List ℕ) → (((a ++ b) ++ c) ++ d) ++ e ≡ a ++ (b ++ (c ++ (d ++ e)))
flat a b c d e = sym (append_both ((a ++ b) ++ c) d e) ∙ sym (append_both (a ++ b) c (d ++ e)) ∙ sym (append_both a b (c ++ (d ++ e)))

pub stat_read : (stamp : Stamp) → stamp.epoch < 2 ^ 64 → stamp.count < 2 ^ 64 → stat_of (stat_text stamp) ≡ Some stamp
unfolding stat_of after_word
stat_read stamp short_e short_c =
    ap stat_of (flat (codes "stat 1 ") (decimal stamp.epoch) (codes " ") (decimal stamp.count) (codes "\n"))
    ∙ ap (option_and_then (λ s. cond (is_end s.1) (Some s.0) None)) (stamp_read stamp.epoch stamp.count (codes "\n") short_e short_c refl)

above_zero : (e : ℕ) → 0 < e → nat_lt 0 e ≡ true
above_zero e some = grind (arith, nat_tests)

pub epoch_read : (e : ℕ) → 0 < e → e < 2 ^ 64 → epoch_of (epoch_text e) ≡ Some e
unfolding epoch_of after_word
epoch_read e some short = rw (number_read e (codes "\n") short refl, above_zero e some) refl

kind_read : (kind : List ℕ) → is_kind kind ≡ true → stored_kind (kind ++ codes "\n") ≡ Some kind
unfolding stored_kind
kind_read kind good =
    let len : length (kind ++ codes "\n") - 1 ≡ length kind = omega (arith, length-append kind (codes "\n")) in
    rw (len, take_at kind (codes "\n") (length kind) refl, drop_at kind (codes "\n") (length kind) refl, good) refl

abbrev line : Stamp → ℕ → List ℕ → HeadLine
line stamp n kind = record { stamp = stamp; size = n; kind = kind }

body_read : (stamp : Stamp) (n : ℕ) (kind : List ℕ) → n < 2 ^ 64 → is_kind kind ≡ true
    → body_of stamp (codes " " ++ (decimal n ++ (codes " " ++ (kind ++ codes "\n")))) ≡ Some (record { stamp = stamp; size = n; kind = kind })
unfolding body_of after_word
body_read stamp n kind short good =
    ap (option_and_then (λ p. option_map (line stamp p.0) (option_and_then stored_kind (after_word (codes " ") p.1))))
    (number_read n (codes " " ++ (kind ++ codes "\n")) short refl)
    ∙ ap (option_map (line stamp n)) (kind_read kind good)

pub head_read : (stamp : Stamp) (n : ℕ) (kind : List ℕ) → stamp.epoch < 2 ^ 64 → stamp.count < 2 ^ 64 → n < 2 ^ 64 → IsTrue (is_kind kind)
    → head_of (head_text stamp n kind) ≡ Some (record { stamp = stamp; size = n; kind = kind })
unfolding head_of after_word
head_read stamp n kind short_e short_c short_n good =
    let rest : List ℕ = codes " " ++ (decimal n ++ (codes " " ++ (kind ++ codes "\n"))) in
    let leading : List ℕ = ((codes "page 1 " ++ decimal stamp.epoch) ++ codes " ") ++ decimal stamp.count in
    ap head_of (sym (append_both (((leading ++ codes " ") ++ decimal n) ++ codes " ") kind (codes "\n"))
    ∙ flat leading (codes " ") (decimal n) (codes " ") (kind ++ codes "\n")
    ∙ flat (codes "page 1 ") (decimal stamp.epoch) (codes " ") (decimal stamp.count) rest)
    ∙ ap (option_and_then (λ s. body_of s.0 s.1)) (stamp_read stamp.epoch stamp.count rest short_e short_c refl)
    ∙ body_read stamp n kind short_n good
