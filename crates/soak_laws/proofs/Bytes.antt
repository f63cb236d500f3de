-- Digits, and texts with digits in them: visible bytes, which stand for themselves within quotes.
use Rattle.std.proofs.Common.{◌≡◌, ◌≤◌, ◌<◌, ◌^◌, ◌++◌, ◌&&◌, ◌∙◌, ℕ, true, false, List, [], ◌∷◌, ap, refl, arith, eqb}
use Rattle.std.specs.Prelude.{flat_map, nat_le}
use Rattle.std.specs.Fmt.{decimal}
use Rattle.std.specs.List.{list_all}
use Rattle.std.specs.Str.Parse.{AllDigits}
use Rattle.std.proofs.lemmas.Bool.{and_parts}
use Rattle.std.proofs.lemmas.Bool.Decides.{nat_tests}
use Rattle.std.proofs.lemmas.Fmt.{decimal_is_IsNumeral}
use Rattle.std.proofs.lemmas.Grind.{flat_map-append}
use Rattle.std.proofs.lemmas.Str.Parse.{digit_from_value}
use Rattle.sp_base.specs.Bytes.{AreBytes, is_visible_ascii}
use Rattle.replay_text.specs.Transcript.{quoted_byte}

-- ---- digits

-- each byte is a digit
abbrev pub AreDigits : List ℕ → Type 0
AreDigits [] = Unit {0}
AreDigits (b ∷ bytes) = (48 ≤ b) × (b ≤ 57) × AreDigits bytes

digits : (ds : List ℕ) → AllDigits 10 ds → AreDigits ds
digits [] d = tt
digits (c ∷ ds) d = (omega (arith, digit_from_value c d.0), omega (arith, digit_from_value c d.0), digits ds d.1)

pub decimal_has_digits : (n : ℕ) → n < 2 ^ 64 → AreDigits (decimal n)
decimal_has_digits n small = digits (decimal n) (decimal_is_IsNumeral n small).0.1

-- ---- visible bytes

visible_digit : (b : ℕ) → 48 ≤ b → b ≤ 57 → is_visible_ascii b ≡ true
visible_digit b low high = grind (arith, nat_tests)

pub visible_digits : (bytes : List ℕ) → AreDigits bytes → list_all is_visible_ascii bytes ≡ true
visible_digits [] d = refl
visible_digits (b ∷ bytes) d = ap (λ t. t && list_all is_visible_ascii bytes) (visible_digit b d.0 d.1) ∙ visible_digits bytes d.2

pub visible-append : (a b : List ℕ) → list_all is_visible_ascii a ≡ true → list_all is_visible_ascii b ≡ true → list_all is_visible_ascii (a ++ b) ≡ true
visible-append [] b p q = q
visible-append (x ∷ a) b p q =
    let parts = and_parts (is_visible_ascii x) (list_all is_visible_ascii a) p in
    ap (λ t. t && list_all is_visible_ascii (a ++ b)) parts.0 ∙ visible-append a b parts.1 q

-- ---- bytes within quotes

apart : (b c : ℕ) → b < c → eqb b c ≡ false
apart b c lt = grind (arith, nat_tests)

apart_above : (b c : ℕ) → c < b → eqb b c ≡ false
apart_above b c lt = grind (arith, nat_tests)

printable : (b : ℕ) → 48 ≤ b → b ≤ 57 → (nat_le 32 b && nat_le b 126) ≡ true
printable b low high = grind (arith, nat_tests)

quoted_digit : (b : ℕ) → 48 ≤ b → b ≤ 57 → quoted_byte b ≡ b ∷ []
quoted_digit b low high =
    let a : eqb b 34 ≡ false = apart_above b 34 (omega arith) in
    let c : eqb b 92 ≡ false = apart b 92 (omega arith) in
    let d : eqb b 13 ≡ false = apart_above b 13 (omega arith) in
    let e : eqb b 10 ≡ false = apart_above b 10 (omega arith) in
    let f : eqb b 9 ≡ false = apart_above b 9 (omega arith) in
    let g = printable b low high in rw a (rw c (rw d (rw e (rw f (rw g refl)))))

pub quoted_digits : (bytes : List ℕ) → AreDigits bytes → flat_map quoted_byte bytes ≡ bytes
quoted_digits [] d = refl
quoted_digits (b ∷ bytes) d = ap (λ t. t ++ flat_map quoted_byte bytes) (quoted_digit b d.0 d.1) ∙ ap (λ t. b ∷ t) (quoted_digits bytes d.2)

-- a text with digits between two parts that stand for themselves
pub quoted_around : (before ds after : List ℕ) → flat_map quoted_byte before ≡ before → AreDigits ds → flat_map quoted_byte after ≡ after
    → flat_map quoted_byte (before ++ (ds ++ after)) ≡ before ++ (ds ++ after)
quoted_around before ds after p d q =
    flat_map-append quoted_byte before (ds ++ after) ∙ ap (λ t. t ++ flat_map quoted_byte (ds ++ after)) p
    ∙ ap (λ t. before ++ t) (flat_map-append quoted_byte ds after ∙ ap (λ t. t ++ flat_map quoted_byte after) (quoted_digits ds d) ∙ ap (λ t. ds ++ t) q)

-- ---- bytes

below : (b : ℕ) → nat_le b 255 ≡ true → b < 256
below b e = grind (arith, nat_tests)

pub bytes_by : (bytes : List ℕ) → list_all (λ b. nat_le b 255) bytes ≡ true → AreBytes bytes
bytes_by [] e = tt
bytes_by (b ∷ bytes) e =
    let parts = and_parts (nat_le b 255) (list_all (λ c. nat_le c 255) bytes) e in (below b parts.0, bytes_by bytes parts.1)

pub bytes_of_digits : (bytes : List ℕ) → AreDigits bytes → AreBytes bytes
bytes_of_digits [] d = tt
bytes_of_digits (b ∷ bytes) d = (omega (arith, d.1), bytes_of_digits bytes d.2)
