-- A quoted text is read back: which byte an escape stands for, and where it ends.
use Rattle.std.proofs.Common.{◌≡◌, ◌≢◌, ◌/◌, ◌%◌, ◌<◌, ◌≤◌, ◌++◌, ◌&&◌, ◌==◌, ◌∙◌, ℕ, Bool, true, false, List, [], ◌∷◌, codes, sym, ap, subst, refl, arith, length, drop, get_or, eqb, append_assoc, ⊎_elim, if◌then◌else◌}
use Rattle.std.specs.Prelude.{flat_map, nat_le}
use Rattle.std.proofs.lemmas.Bool.{cases_eq, cases_lt}
use Rattle.std.proofs.lemmas.Bool.Decides.{nat_tests}
use Rattle.sp_base.specs.Bytes.{AreBytes}
use Rattle.replay_text.specs.Transcript.{hex, quoted_byte, quotation}
use Rattle.replay_text.specs.Quoting.{unhex, escaped_byte, spelled_byte, BeginsNoByte}

unhex_small : (n : ℕ) → n < 10 → unhex (hex n) ≡ n
unhex_small n lt = grind (arith, nat_tests)

unhex_large : (n : ℕ) → 10 ≤ n → unhex (hex n) ≡ n
unhex_large n le = grind (arith, nat_tests)

unhex-hex : (n : ℕ) → unhex (hex n) ≡ n
unhex-hex n = ⊎_elim (λ (lt : n < 10). unhex_small n lt) (λ (le : 10 ≤ n). unhex_large n le) (cases_lt n 10)

-- the text after the spelling that begins it
rest_of : List ℕ → List ℕ
rest_of text = if get_or text 0 0 == 92 then (if get_or text 1 0 == 120 then drop 4 text else drop 2 text) else drop 1 text

record Spelled (text : List ℕ) (b : ℕ) (r : List ℕ) : Type 0 where
  value : spelled_byte text ≡ b
  rest : rest_of text ≡ r
  begins : get_or text 0 0 ≢ 34

told_literal : (b : ℕ) (r : List ℕ) → b ≢ 34 → b ≢ 92 → Spelled (b ∷ r) b r
unfolding spelled_byte rest_of
told_literal b r quote slash =
    let t : eqb b 92 ≡ false = grind (arith, nat_tests) in
    record { value = rw t refl; rest = rw t refl; begins = quote }

told_hex : (b : ℕ) (r : List ℕ) → Spelled (codes "\\x" ++ hex (b / 16) ∷ hex (b % 16) ∷ r) b r
unfolding spelled_byte rest_of escaped_byte
told_hex b r = record { value = omega (arith, unhex-hex (b / 16), unhex-hex (b % 16)); rest = refl; begins = omega arith }

told_other : (b : ℕ) (r : List ℕ) → b ≢ 34 → b ≢ 92 → (visible : Bool) →
    Spelled ((if visible then b ∷ [] else codes "\\x" ++ hex (b / 16) ∷ hex (b % 16) ∷ []) ++ r) b r
told_other b r quote slash true = told_literal b r quote slash
told_other b r quote slash false = told_hex b r

told_at : (n : ℕ) (spelling r : List ℕ) → Spelled (spelling ++ r) n r → (b : ℕ) (other : List ℕ) → (b ≢ n → Spelled (other ++ r) b r)
    → Spelled ((if b == n then spelling else other) ++ r) b r
told_at n spelling r here b other there = ⊎_elim
    (λ (e : b ≡ n).
    let t : eqb b n ≡ true = grind (arith, nat_tests) in
    rw t (subst (λ v. Spelled (spelling ++ r) v r) (sym e) here))
    (λ (apart : b ≢ n).
    let t : eqb b n ≡ false = grind (arith, nat_tests) in
    rw t (there apart))
    (cases_eq b n)

told_letter : (n letter : ℕ) (r : List ℕ) → escaped_byte letter (get_or r 0 0) (get_or r 1 0) ≡ n → letter ≢ 120 → Spelled (92 ∷ letter ∷ r) n r
unfolding spelled_byte rest_of
told_letter n letter r e apart =
    let t : eqb letter 120 ≡ false = grind (arith, nat_tests) in
    record { value = e; rest = rw t refl; begins = omega arith }

told_escape : (b : ℕ) (r : List ℕ) → Spelled (quoted_byte b ++ r) b r
unfolding escaped_byte
told_escape b r =
    told_at 34 (92 ∷ 34 ∷ []) r (told_letter 34 34 r refl (omega arith)) b _ (λ quote.
    told_at 92 (92 ∷ 92 ∷ []) r (told_letter 92 92 r refl (omega arith)) b _ (λ slash.
    told_at 13 (codes "\\r") r (told_letter 13 114 r refl (omega arith)) b _ (λ no_return.
    told_at 10 (codes "\\n") r (told_letter 10 110 r refl (omega arith)) b _ (λ no_newline.
    told_at 9 (codes "\\t") r (told_letter 9 116 r refl (omega arith)) b _ (λ no_tab.
    told_other b r quote slash (nat_le 32 b && nat_le b 126))))))

one_escape : (b c : ℕ) (r s : List ℕ) → quoted_byte b ++ r ≡ quoted_byte c ++ s → (b ≡ c) × (r ≡ s)
one_escape b c r s e =
    let x = told_escape b r in
    let y = told_escape c s in
    (sym x.value ∙ ap spelled_byte e ∙ y.value, sym x.rest ∙ ap rest_of e ∙ y.rest)

no_quote : (b : ℕ) (r s : List ℕ) → quoted_byte b ++ r ≡ 34 ∷ s → ⊥
no_quote b r s e = (told_escape b r).begins (ap (λ t. get_or t 0 0) e)

one_escaped : (x y r s : List ℕ) → flat_map quoted_byte x ++ 34 ∷ r ≡ flat_map quoted_byte y ++ 34 ∷ s → (x ≡ y) × (r ≡ s)
one_escaped [] [] r s e = (refl, cc)
one_escaped [] (c ∷ y) r s e =
    absurd (no_quote c (flat_map quoted_byte y ++ 34 ∷ s) r (sym (append_assoc (quoted_byte c) (flat_map quoted_byte y) (34 ∷ s)) ∙ sym e))
one_escaped (b ∷ x) [] r s e =
    absurd (no_quote b (flat_map quoted_byte x ++ 34 ∷ r) s (sym (append_assoc (quoted_byte b) (flat_map quoted_byte x) (34 ∷ r)) ∙ e))
one_escaped (b ∷ x) (c ∷ y) r s e =
    let head = one_escape b c (flat_map quoted_byte x ++ 34 ∷ r) (flat_map quoted_byte y ++ 34 ∷ s)
    (sym (append_assoc (quoted_byte b) (flat_map quoted_byte x) (34 ∷ r)) ∙ e ∙ append_assoc (quoted_byte c) (flat_map quoted_byte y) (34 ∷ s)) in
    let tail = one_escaped x y r s head.1 in
    (cc (head.0, tail.0), tail.1)

quoted_then : (x r : List ℕ) → quotation x ++ r ≡ 34 ∷ (flat_map quoted_byte x ++ 34 ∷ r)
quoted_then x r = ap (λ t. 34 ∷ t) (append_assoc (flat_map quoted_byte x) (34 ∷ []) r)

-- a quoted text tells the text and where it ends
pub one_quoted : (x y r s : List ℕ) → quotation x ++ r ≡ quotation y ++ s → (x ≡ y) × (r ≡ s)
one_quoted x y r s e = one_escaped x y r s (ap (drop 1) (sym (quoted_then x r) ∙ e ∙ quoted_then y s))

-- a text that begins with the spelling of a byte has that byte as its value
pub value_of-spelled : (text : List ℕ) (b : ℕ) (rest : List ℕ) → text ≡ quoted_byte b ++ rest → spelled_byte text ≡ b
value_of-spelled text b rest e = ap spelled_byte e ∙ (told_escape b rest).value

either : (t : Bool) (x y : List ℕ) → 0 < length x → 0 < length y → 0 < length (if t then x else y)
either true x y p q = p
either false x y p q = q

-- a spelling has some byte
pub spelling_has_bytes : (b : ℕ) → 0 < length (quoted_byte b)
spelling_has_bytes b =
    either (b == 34) _ _ (omega arith) (either (b == 92) _ _ (omega arith) (either (b == 13) _ _ (omega arith) (either (b == 10) _ _ (omega arith)
    (either (b == 9) _ _ (omega arith) (either (nat_le 32 b && nat_le b 126) _ _ (omega arith) (omega arith))))))

-- bytes that were told of a quotation's text, where no more can be: what is left is its end
pub goes_on : (x y r : List ℕ) → AreBytes y → BeginsNoByte r → flat_map quoted_byte x ++ r ≡ flat_map quoted_byte y ++ 34 ∷ [] → r ≡ 34 ∷ []
goes_on [] [] r are none_begins e = e
goes_on [] (c ∷ y) r are none_begins e = absurd (none_begins c (flat_map quoted_byte y ++ 34 ∷ []) are.0 (e ∙ append_assoc (quoted_byte c) (flat_map quoted_byte y) (34 ∷ [])))
goes_on (b ∷ x) [] r are none_begins e = absurd (no_quote b (flat_map quoted_byte x ++ r) [] (sym (append_assoc (quoted_byte b) (flat_map quoted_byte x) r) ∙ e))
goes_on (b ∷ x) (c ∷ y) r are none_begins e =
    let head = one_escape b c (flat_map quoted_byte x ++ r) (flat_map quoted_byte y ++ 34 ∷ [])
    (sym (append_assoc (quoted_byte b) (flat_map quoted_byte x) r) ∙ e ∙ append_assoc (quoted_byte c) (flat_map quoted_byte y) (34 ∷ [])) in
    goes_on x y r are.1 none_begins head.1

-- one byte more
pub AreBytes-snoc : (bytes : List ℕ) (b : ℕ) → AreBytes bytes → b < 256 → AreBytes (bytes ++ b ∷ [])
AreBytes-snoc [] b are small = (small, tt)
AreBytes-snoc (c ∷ bytes) b are small = (are.0, AreBytes-snoc bytes b are.1 small)

pub spelled-snoc : (bytes : List ℕ) (b : ℕ) (rest : List ℕ) → flat_map quoted_byte (bytes ++ b ∷ []) ++ rest ≡ flat_map quoted_byte bytes ++ (quoted_byte b ++ rest)
spelled-snoc [] b rest = append_assoc (quoted_byte b) [] rest
spelled-snoc (c ∷ bytes) b rest =
    append_assoc (quoted_byte c) (flat_map quoted_byte (bytes ++ b ∷ [])) rest
    ∙ ap (λ t. quoted_byte c ++ t) (spelled-snoc bytes b rest)
    ∙ sym (append_assoc (quoted_byte c) (flat_map quoted_byte bytes) (quoted_byte b ++ rest))
