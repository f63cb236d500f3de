-- Steps of the loops over tokens.
use Rattle.std.proofs.Common.{◌≡◌, ◌<◌, ◌≤◌, ◌+◌, ℕ, suc, Bool, true, false, List, [], ◌∷◌, drop, length, slice_index, refl, ap, sym, ◌∙◌, rules, arith, drop-drop}
use Rattle.std.specs.Str.{IsCharBoundary}
use Rattle.std.proofs.lemmas.List.{get_or-drop}
use Rattle.std.proofs.lemmas.Bool.Decides.{nat_tests}
use Rattle.sp_base.specs.Bytes.{begins_with_byte}
use Rattle.htl_syntax.specs.Tokens.{begins, is_blank, is_word_byte, blanks_skipped, goes_on, name_len, AreAscii}
use Rattle.htl_syntax.specs.declared.tokens.NameKind.{NameKind}
use Rattle.htl_syntax.specs.declared.tokens.NameKind.TheVariants.{Name, Field}

pub blank_ascii : (c : ℕ) → is_blank c ≡ true → c < 128
blank_ascii c h = grind (arith, nat_tests)

pub word_ascii : (c : ℕ) → is_word_byte c ≡ true → c < 128
word_ascii c h = grind (arith, nat_tests)

pub at_ascii : (test : ℕ → Bool) (t : List ℕ) → ((c : ℕ) → test c ≡ true → c < 128) → begins test t ≡ true → slice_index t 0 < 128
unfolding begins
at_ascii test [] all h = absurd cc
at_ascii test (c ∷ t) all h = all c h

pub blank_prefix : (t : List ℕ) → begins is_blank t ≡ true → slice_index t 0 < 128
blank_prefix t h = at_ascii is_blank t blank_ascii h

pub blank_more : (t : List ℕ) → begins is_blank t ≡ true → blanks_skipped (drop 1 t) ≡ blanks_skipped t
unfolding begins blanks_skipped
blank_more [] h = absurd cc
blank_more (c ∷ t) h = rw h refl

pub blank_less : (t : List ℕ) → begins is_blank t ≡ true → length (drop 1 t) < length t
unfolding begins
blank_less [] h = absurd cc
blank_less (c ∷ t) h = omega arith

pub blank_none : (t : List ℕ) → begins is_blank t ≡ false → blanks_skipped t ≡ t
unfolding begins blanks_skipped
blank_none [] h = refl
blank_none (c ∷ t) h = rw h refl

pub name_prefix : (kind : NameKind) (t : List ℕ) → goes_on kind t ≡ true → slice_index t 0 < 128
unfolding begins goes_on
name_prefix Name t h = at_ascii is_word_byte t word_ascii h
name_prefix Field [] h = absurd cc
name_prefix Field (c ∷ t) h = grind (arith, nat_tests)

pub run_more : (kind : NameKind) (t : List ℕ) → goes_on kind t ≡ true → name_len kind t ≡ suc (name_len kind (drop 1 t))
unfolding name_len goes_on begins
run_more Name [] h = absurd cc
run_more Field [] h = absurd cc
run_more Name (c ∷ t) h = rw h refl
run_more Field (c ∷ t) h = rw h refl

pub run_none : (kind : NameKind) (t : List ℕ) → goes_on kind t ≡ false → name_len kind t ≡ 0
unfolding name_len
run_none kind [] h = refl
run_none kind (c ∷ t) h = rw h refl

pub name_less : (kind : NameKind) (t : List ℕ) → goes_on kind t ≡ true → suc (length (drop 1 t)) ≡ length t
unfolding goes_on begins
name_less Name [] h = absurd cc
name_less Field [] h = absurd cc
name_less Name (c ∷ t) h = refl
name_less Field (c ∷ t) h = refl

pub at_prefix : (c : ℕ) (t : List ℕ) → begins_with_byte c t ≡ true → slice_index t 0 ≡ c
unfolding begins_with_byte
at_prefix c [] h = absurd cc
at_prefix c (d ∷ t) h = search rules

pub prefix_ascii : (c : ℕ) (t : List ℕ) → c < 128 → begins_with_byte c t ≡ true → slice_index t 0 < 128
prefix_ascii c t lt h = rw (at_prefix c t h) lt

pub ascii_first : (w t : List ℕ) → AreAscii w → 1 ≤ length w → begins_with_byte (slice_index w 0) t ≡ true → slice_index t 0 < 128
ascii_first [] t a le h = absurd (omega arith)
ascii_first (c ∷ w) t a le h = prefix_ascii c t a.0 h

pub drop_more : (text rest : List ℕ) (len : ℕ) → rest ≡ drop len text → drop 1 rest ≡ drop (len + 1) text
drop_more text rest len e = rw e (drop-drop 1 len text)

pub minus_ascii : (t : List ℕ) → begins_with_byte 45 t ≡ true → slice_index t 0 < 128
minus_ascii t h = prefix_ascii 45 t (search rules) h

pub colon_boundary : (t : List ℕ) (i : ℕ) → i ≤ length t → begins_with_byte 58 (drop i t) ≡ true → IsCharBoundary t i
colon_boundary t i le h =
    let at : i + 0 ≡ i = omega arith in
    let here : slice_index t i ≡ 58 = ap (slice_index t) (sym at) ∙ sym (get_or-drop i t 0 0) ∙ at_prefix 58 (drop i t) h in
    (le, λ lt big. absurd (omega (arith, here)))
