-- A token of the grammar is read as that token.
use Rattle.std.proofs.Common.{◌≡◌, ℕ, ℤ, suc, ◌<◌, ◌≤◌, Bool, true, false, cond, ◌||◌, eqb, List, [], ◌∷◌, ◌++◌, drop, length, Ok, refl, ap, ◌∙◌, arith}
use Rattle.std.proofs.lemmas.List.{take_at, drop_at, length-append}
use Rattle.std.proofs.lemmas.Bool.{eqb-true}
use Rattle.std.proofs.lemmas.Bool.Decides.{nat_tests}
use Rattle.sp_base.specs.Bytes.{begins_with_byte, is_digit}
use Rattle.sp_base.proofs.NatLemmas.{nat_eq_itself}
use Rattle.htl_syntax.specs.declared.tokens.NameKind.{NameKind}
use Rattle.htl_syntax.specs.declared.node.Comparison.{Comparison}
use Rattle.htl_syntax.specs.Tokens.{blanks_skipped, begins, is_blank, expect, second, name_len, goes_on, read_name, string, string_from, is_first, is_quote, expression_digits_from, digits, signed_number, limit, signed_value}
use Rattle.htl_syntax.specs.Read.{comparison, compares, or_equal}
use Rattle.htl_syntax.specs.Grammar.{Byte, Operator, Bare, NameToken, String, StringBody, Passes, Digits, Number, Sign, Compares}
use Rattle.htl_syntax.specs.Grammar as g

-- a test that two numbers answer differently tells them apart
pub apart : (test : ℕ → Bool) (c d : ℕ) → test c ≡ true → test d ≡ false → eqb c d ≡ false
apart test c d holds other = go (eqb c d) refl
  where
    go : (b : Bool) → eqb c d ≡ b → b ≡ false
    go true e = absurd (let same : test c ≡ test d = ap test (eqb-true c d e) in cc)
    go false e = refl

-- a text whose first byte passes a test doesn't begin with a byte that fails it
pub not_at : (test : ℕ → Bool) (d : ℕ) (s : List ℕ) → begins test s ≡ true → test d ≡ false → begins_with_byte d s ≡ false
unfolding begins begins_with_byte
not_at test d [] h other = refl
not_at test d (c ∷ s) h other = apart test c d h other

pub at_here : (c : ℕ) (s r : List ℕ) → Byte c s r → begins_with_byte c s ≡ true
unfolding begins_with_byte
at_here c s r b = rw b.parts (nat_eq_itself c)

pub remainder : (c : ℕ) (s r : List ℕ) → Byte c s r → blanks_skipped (drop 1 s) ≡ r
remainder c s r b = rw (b.parts, b.rest) refl

pub expect_again : (c : ℕ) (s r : List ℕ) → Byte c s r → expect c s ≡ Ok r
unfolding expect
expect_again c s r b = rw (at_here c s r b, remainder c s r b) refl

pub operator_here : (c d : ℕ) (s r : List ℕ) → Operator c d s r → begins_with_byte c s ≡ true
unfolding begins_with_byte
operator_here c d s r b = rw b.parts (nat_eq_itself c)

pub second_again : (c d : ℕ) (s r : List ℕ) → Operator c d s r → second d s ≡ Ok r
unfolding second
second_again c d s r b = rw b.parts (expect_again d (d ∷ b.after) r (record { after = b.after; parts = refl; rest = b.rest }))

pub name_len-is : (kind : NameKind) (w after : List ℕ) → Passes kind w after → goes_on kind after ≡ false → name_len kind (w ++ after) ≡ length w
unfolding name_len
name_len-is kind [] [] p e = refl
name_len-is kind [] (c ∷ after) p e = rw e refl
name_len-is kind (c ∷ w) after p e = rw p.0 (ap suc (name_len-is kind w after p.1 e))

pub name_again : (kind : NameKind) (s w r : List ℕ) → NameToken kind s w r → read_name kind s ≡ Ok (w, r)
unfolding read_name
name_again kind s w r x =
    let begin : begins is_first (w ++ x.after) ≡ true = rw x.parts at x.first in
    rw (x.parts, begin, name_len-is kind w x.after x.passes x.longest, take_at w x.after (length w) refl, drop_at w x.after (length w) refl, x.rest) refl

quoted_again : (mark : ℕ) (s w after : List ℕ) → eqb 92 mark ≡ false → StringBody mark s w after → string_from false mark s ≡ Ok (w, blanks_skipped after)
unfolding string_from
quoted_again mark _ _ _ m g.closes = rw (nat_eq_itself mark) refl
quoted_again mark _ _ _ m (g.plain a b q) = rw (a, b, quoted_again mark _ _ _ m q) refl
quoted_again mark _ _ _ m (g.escape e q) = rw (m, e, quoted_again mark _ _ _ m q) refl

mark_apart : (mark : ℕ) → is_quote mark ≡ true → eqb 92 mark ≡ false
mark_apart mark h = go (eqb 92 mark) refl
  where
    go : (b : Bool) → eqb 92 mark ≡ b → b ≡ false
    go true e = absurd (let same : is_quote 92 ≡ is_quote mark = ap is_quote (eqb-true 92 mark e) in cc)
    go false e = refl

pub string_again : (s w r : List ℕ) → String s w r → string s ≡ Ok (w, r)
unfolding string
string_again s w r x =
    rw (x.parts, x.is_mark, x.rest) (quoted_again x.mark x.inside w x.after (mark_apart x.mark x.is_mark) x.body)

pub string_begins : (s w r : List ℕ) → String s w r → begins is_quote s ≡ true
unfolding begins
string_begins s w r x = rw x.parts x.is_mark

digits_from_again : (most m : ℕ) (s : List ℕ) (k : ℕ) (after : List ℕ) → Digits most m s k after → expression_digits_from most m s ≡ (k, after)
unfolding expression_digits_from
digits_from_again most m [] _ _ (g.none e) = refl
digits_from_again most m (c ∷ s) _ _ (g.none e) = rw e refl
digits_from_again most m _ k after (g.digit e d) = rw e (digits_from_again most _ _ k after d)

digits_again : (negative : Bool) (t : List ℕ) (m : ℕ) (after : List ℕ) → begins is_digit t ≡ true → Digits (limit negative) 0 t m after → digits negative t ≡ Ok (signed_value negative m, blanks_skipped after)
unfolding digits
digits_again negative t m after h d = rw (h, digits_from_again (limit negative) 0 t m after d) refl

number_by : (s : List ℕ) (negative : Bool) (t : List ℕ) → Sign negative s t → begins is_digit t ≡ true → signed_number s ≡ digits negative t
unfolding signed_number begins_with_byte
number_by s true t sign h = rw sign refl
number_by s false t sign h = rw (sign, not_at is_digit 45 t h refl) refl

pub number_again : (s : List ℕ) (k : ℤ) (r : List ℕ) → Number s k r → signed_number s ≡ Ok (k, r)
number_again s k r x =
    number_by s x.negative x.inside x.sign x.first ∙ digits_again x.negative x.inside x.magnitude x.after x.first x.body ∙ rw (x.value, x.rest) refl

sign_begins : (s : List ℕ) (negative : Bool) (t : List ℕ) → Sign negative s t → begins is_digit t ≡ true → (begins_with_byte 45 s || begins is_digit s) ≡ true
unfolding begins_with_byte
sign_begins s true t sign h = rw sign refl
sign_begins s false t sign h = rw (sign, not_at is_digit 45 t h refl) h

pub number_begins : (s : List ℕ) (k : ℤ) (r : List ℕ) → Number s k r → (begins_with_byte 45 s || begins is_digit s) ≡ true
number_begins s k r x = sign_begins s x.negative x.inside x.sign x.first

sign_starts : (test : ℕ → Bool) (s : List ℕ) (negative : Bool) (t : List ℕ) → test 45 ≡ false → ((c : ℕ) → is_digit c ≡ true → test c ≡ false) → Sign negative s t → begins is_digit t ≡ true → begins test s ≡ false
unfolding begins
sign_starts test s true t minus none sign h = rw sign minus
sign_starts test s false [] minus none sign h = absurd cc
sign_starts test s false (c ∷ t) minus none sign h = rw sign (none c h)

-- a number begins with no byte of another kind
pub number_starts : (test : ℕ → Bool) (s : List ℕ) (k : ℤ) (r : List ℕ) → test 45 ≡ false → ((c : ℕ) → is_digit c ≡ true → test c ≡ false) → Number s k r → begins test s ≡ false
number_starts test s k r minus none x = sign_starts test s x.negative x.inside minus none x.sign x.first

pub digit_quote : (c : ℕ) → is_digit c ≡ true → is_quote c ≡ false
digit_quote c h = grind (arith, nat_tests)

pub digit_first : (c : ℕ) → is_first c ≡ true → is_digit c ≡ false
digit_first c h = grind (arith, nat_tests)

pub first_quote : (c : ℕ) → is_first c ≡ true → is_quote c ≡ false
first_quote c h = grind (arith, nat_tests)

pub begins_other : (test other : ℕ → Bool) (s : List ℕ) → ((c : ℕ) → test c ≡ true → other c ≡ false) → begins test s ≡ true → begins other s ≡ false
unfolding begins
begins_other test other [] all h = absurd cc
begins_other test other (c ∷ s) all h = all c h

-- ---- comparisons

pub compares_again : (s : List ℕ) (op : Comparison) (r : List ℕ) → Compares s op r → compares s ≡ true
unfolding compares begins_with_byte
compares_again s _ r (g.equal o) = rw o.parts refl
compares_again s _ r (g.not_equal o) = rw o.parts refl
compares_again s _ r (g.at_most o) = rw o.parts refl
compares_again s _ r (g.at_least o) = rw o.parts refl
compares_again s _ r (g.below o) = rw o.parts refl
compares_again s _ r (g.above o) = rw o.parts refl

pub comparison_again : (s : List ℕ) (op : Comparison) (r : List ℕ) → Compares s op r → comparison s ≡ Ok (op, r)
unfolding comparison begins_with_byte or_equal
comparison_again s _ r (g.equal o) =
    let two = second_again 61 61 s r o in
    let two' : second 61 (61 ∷ 61 ∷ o.after) ≡ Ok r = rw o.parts at two in
    rw (o.parts, two') refl
comparison_again s _ r (g.not_equal o) =
    let two = second_again 33 61 s r o in
    let two' : second 61 (33 ∷ 61 ∷ o.after) ≡ Ok r = rw o.parts at two in
    rw (o.parts, two') refl
comparison_again s _ r (g.at_most o) = rw (o.parts, o.rest) refl
comparison_again s _ r (g.at_least o) = rw (o.parts, o.rest) refl
comparison_again s _ r (g.below o) = rw (o.parts, o.longest, o.rest) refl
comparison_again s _ r (g.above o) = rw (o.parts, o.longest, o.rest) refl

-- ---- what was read is taken off

pub skip-short : (s : List ℕ) → length (blanks_skipped s) ≤ length s
unfolding blanks_skipped
skip-short [] = omega arith
skip-short (c ∷ s) = go (is_blank c) (skip-short s)
  where
    go : (b : Bool) → length (blanks_skipped s) ≤ length s → length (cond b (blanks_skipped s) (c ∷ s)) ≤ length (c ∷ s)
    go true ih = omega arith
    go false ih = omega arith

pub byte-short : (c : ℕ) (s r : List ℕ) → Byte c s r → length r < length s
byte-short c s r b = rw (b.parts, b.rest) (omega (arith, skip-short b.after))

pub operator-short : (c d : ℕ) (s r : List ℕ) → Operator c d s r → length r < length s
operator-short c d s r b = rw (b.parts, b.rest) (omega (arith, skip-short b.after))

pub bare-short : (c : ℕ) (s r : List ℕ) → Bare c s r → length r < length s
bare-short c s r b = rw (b.parts, b.rest) (omega (arith, skip-short b.after))

pub compares-short : (s : List ℕ) (op : Comparison) (r : List ℕ) → Compares s op r → length r < length s
compares-short s _ r (g.equal o) = operator-short 61 61 s r o
compares-short s _ r (g.not_equal o) = operator-short 33 61 s r o
compares-short s _ r (g.at_most o) = operator-short 60 61 s r o
compares-short s _ r (g.at_least o) = operator-short 62 61 s r o
compares-short s _ r (g.below o) = bare-short 60 s r o
compares-short s _ r (g.above o) = bare-short 62 s r o

pub name-short : (kind : NameKind) (s w r : List ℕ) → NameToken kind s w r → length r ≤ length s
name-short kind s w r b = rw (b.parts, b.rest) (omega (arith, skip-short b.after, length-append w b.after))

quoted-short : (mark : ℕ) (s w after : List ℕ) → StringBody mark s w after → length after ≤ length s
quoted-short mark _ _ _ g.closes = omega arith
quoted-short mark _ _ _ (g.plain a b q) = omega (arith, quoted-short mark _ _ _ q)
quoted-short mark _ _ _ (g.escape e q) = omega (arith, quoted-short mark _ _ _ q)

pub string-short : (s w r : List ℕ) → String s w r → length r ≤ length s
string-short s w r b = rw (b.parts, b.rest) (omega (arith, skip-short b.after, quoted-short b.mark b.inside w b.after b.body))

digits-short : (most m : ℕ) (s : List ℕ) (k : ℕ) (after : List ℕ) → Digits most m s k after → length after ≤ length s
digits-short most m _ _ _ (g.none e) = omega arith
digits-short most m _ _ _ (g.digit e d) = omega (arith, digits-short most _ _ _ _ d)

sign-short : (s : List ℕ) (negative : Bool) (t : List ℕ) → Sign negative s t → length t ≤ length s
sign-short s true t e = rw e (omega arith)
sign-short s false t e = rw e (omega arith)

pub number-short : (s : List ℕ) (k : ℤ) (r : List ℕ) → Number s k r → length r ≤ length s
number-short s k r b = rw b.rest (omega (arith, skip-short b.after, digits-short (limit b.negative) 0 b.inside b.magnitude b.after b.body, sign-short s b.negative b.inside b.sign))
