-- Where tags, end tags and block statements end.
use Rattle.std.proofs.Common.{◌≡◌, ◌<◌, ◌≤◌, ◌+◌, ◌-◌, ℕ, zero, suc, Bool, true, false, cond, ◌&&◌, List, [], ◌∷◌, drop, length, slice_index, Option, Some, None, refl, ap, sym, ◌∙◌, rules, arith}
use Rattle.std.specs.Str.{IsCharBoundary, IsUtf8}
use Rattle.std.proofs.lemmas.Str.{IsCharBoundary-after_ascii, IsCharBoundary-before_ascii, IsCharBoundary-end}
use Rattle.std.proofs.lemmas.Bool.{eqb-true}
use Rattle.std.proofs.lemmas.List.{length-drop}
use Rattle.sp_base.specs.Bytes.{begins_with_byte}
use Rattle.sp_base.proofs.BoolLemmas.{and_first, and_second}
use Rattle.sp_base.proofs.ListLemmas.{index_drop}
use Rattle.htl_syntax.specs.Tokens.{begins, is_quote, is_letter}
use Rattle.htl_syntax.proofs.Scan.{blank_ascii}
use Rattle.htl_syntax.proofs.Strings.{quote_ascii}
use Rattle.htl_blocks.specs.declared.quoting.Quoting.{Quoting}
use Rattle.htl_blocks.specs.declared.quoting.Quoting.TheVariants.{Outside, Within}
use Rattle.htl_blocks.specs.Markup.{markup_quoting_step, ends_tag, tag_end, ended_len, tag_len, begins_tag, begins_end_tag, ends_after_name, tag_name_len, part_len}
use Rattle.htl_blocks.specs.Attributes.{begins_statement, statement_place, mark_at}

-- a ">" stands at the place that ends a tag
pub tag_end_at : (quoting : Quoting) (n : ℕ) (t : List ℕ) (m : ℕ) → tag_end quoting n t ≡ Some m → (n ≤ m) × (m - n < length t) × (slice_index t (m - n) ≡ 62)
unfolding tag_end
tag_end_at quoting n [] m h = absurd cc
tag_end_at quoting n (c ∷ t) m h = go (ends_tag quoting c) refl h (tag_end_at (markup_quoting_step quoting c) (n + 1) t m)
  where
    found : (q : Quoting) → ends_tag q c ≡ true → c ≡ 62
    found Outside e = search rules
    found (Within mark) e = absurd cc

    go : (b : Bool) → ends_tag quoting c ≡ b → cond b (Some n) (tag_end (markup_quoting_step quoting c) (n + 1) t) ≡ Some m
        → (tag_end (markup_quoting_step quoting c) (n + 1) t ≡ Some m → (n + 1 ≤ m) × (m - (n + 1) < length t) × (slice_index t (m - (n + 1)) ≡ 62))
        → (n ≤ m) × (m - n < length (c ∷ t)) × (slice_index (c ∷ t) (m - n) ≡ 62)
    go true e h' ih = let same : n ≡ m = cc in let none : m - n ≡ 0 = omega (arith, same) in (omega (arith, same), omega (arith, none), rw none (found quoting e))
    go false e h' ih = let x = ih h' in let more : m - n ≡ suc (m - (n + 1)) = omega (arith, x.0) in (omega (arith, x.0), omega (arith, more, x.1), rw more x.2)

blank_first : (quoting : Quoting) (c : ℕ) (t : List ℕ) → begins_statement quoting c t ≡ true → c < 128
unfolding begins_statement
blank_first Outside c t e = blank_ascii c (and_first _ _ e)
blank_first (Within mark) c t e = absurd cc

-- a blank stands at the place of a block statement
pub statement_at : (quoting : Quoting) (n : ℕ) (t : List ℕ) (m : ℕ) → statement_place quoting n t ≡ Some m → (n ≤ m) × (m - n < length t) × (slice_index t (m - n) < 128)
unfolding statement_place begins_statement
statement_at quoting n [] m h = absurd cc
statement_at quoting n (c ∷ t) m h = go (begins_statement quoting c t) refl h (statement_at (markup_quoting_step quoting c) (n + 1) t m)
  where
    go : (b : Bool) → begins_statement quoting c t ≡ b → cond b (Some n) (statement_place (markup_quoting_step quoting c) (n + 1) t) ≡ Some m
        → (statement_place (markup_quoting_step quoting c) (n + 1) t ≡ Some m → (n + 1 ≤ m) × (m - (n + 1) < length t) × (slice_index t (m - (n + 1)) < 128))
        → (n ≤ m) × (m - n < length (c ∷ t)) × (slice_index (c ∷ t) (m - n) < 128)
    go true e h' ih = let same : n ≡ m = cc in let none : m - n ≡ 0 = omega (arith, same) in (omega (arith, same), omega (arith, none), rw none (blank_first quoting c t e))
    go false e h' ih = let x = ih h' in let more : m - n ≡ suc (m - (n + 1)) = omega (arith, x.0) in (omega (arith, x.0), omega (arith, more, x.1), rw more x.2)

-- the byte that begins a text after the first n bytes
pub byte_there : (c n : ℕ) (t : List ℕ) → begins_with_byte c (drop n t) ≡ true → (n < length t) × (slice_index t n ≡ c)
unfolding begins_with_byte
byte_there c zero [] h = absurd cc
byte_there c zero (d ∷ t) h = (omega arith, eqb-true d c h)
byte_there c (suc n) [] h = absurd cc
byte_there c (suc n) (d ∷ t) h = let x = byte_there c n t h in (omega (arith, x.0), x.1)

index_past_two : (t : List ℕ) (i : ℕ) → slice_index (drop 2 t) i ≡ slice_index t (i + 2)
index_past_two [] i = refl
index_past_two (a ∷ []) i = let more : i + 2 ≡ suc (suc i) = omega arith in rw more refl
index_past_two (a ∷ b ∷ t) i = let more : i + 2 ≡ suc (suc i) = omega arith in rw more refl

-- a ">" ends an end tag
pub end_tag_at : (t : List ℕ) → begins_end_tag t ≡ true → (tag_name_len (drop 2 t) + 2 < length t) × (slice_index t (tag_name_len (drop 2 t) + 2) ≡ 62)
unfolding begins_end_tag
end_tag_at t h =
    let a = and_second (begins_with_byte 60 t) (begins_with_byte 47 (drop 1 t) && ends_after_name (drop 2 t)) h in
    let b = and_second (begins_with_byte 47 (drop 1 t)) (ends_after_name (drop 2 t)) a in
    let d = and_second (begins is_letter (drop 2 t)) (begins_with_byte 62 (drop (tag_name_len (drop 2 t)) (drop 2 t))) b in
    let x = byte_there 62 (tag_name_len (drop 2 t)) (drop 2 t) d in
    let size = length-drop 2 t in
    (omega (arith, x.0, size), sym (index_past_two t (tag_name_len (drop 2 t))) ∙ x.1)

pub tag_within : (t : List ℕ) → 0 < length t → (1 ≤ tag_len t) × (tag_len t ≤ length t)
unfolding tag_len
tag_within t some = go (tag_end Outside 0 t) refl
  where
    go : (o : Option ℕ) → tag_end Outside 0 t ≡ o → (1 ≤ ended_len t o) × (ended_len t o ≤ length t)
    go None e = (omega (arith, some), omega arith)
    go (Some n) e = let x = tag_end_at Outside 0 t n e in (omega arith, omega (arith, x.1))

-- a text may be cut after its first tag
pub tag_boundary : (t : List ℕ) → IsUtf8 t → IsCharBoundary t (tag_len t)
unfolding tag_len
tag_boundary t utf8 = go (tag_end Outside 0 t) refl
  where
    go : (o : Option ℕ) → tag_end Outside 0 t ≡ o → IsCharBoundary t (ended_len t o)
    go None e = IsCharBoundary-end t
    go (Some n) e = let x = tag_end_at Outside 0 t n e in let same : n - 0 ≡ n = omega arith in let there : slice_index t n ≡ 62 = rw same at x.2 in IsCharBoundary-after_ascii t n utf8 (omega (arith, x.1)) (omega (arith, there))

pub part_within : (t : List ℕ) → 0 < length t → (1 ≤ part_len t) × (part_len t ≤ length t)
unfolding part_len
part_within t some = go (begins_tag t) (begins_end_tag t) refl refl
  where
    go : (a b : Bool) → begins_tag t ≡ a → begins_end_tag t ≡ b → (1 ≤ cond a (tag_len t) (cond b (tag_name_len (drop 2 t) + 3) 1)) × (cond a (tag_len t) (cond b (tag_name_len (drop 2 t) + 3) 1) ≤ length t)
    go true b ea eb = tag_within t some
    go false true ea eb = let x = end_tag_at t eb in (omega arith, omega (arith, x.0))
    go false false ea eb = (omega arith, omega (arith, some))

-- a text may be cut after the ">" of its tag
pub ended_boundary : (t : List ℕ) (n : ℕ) → IsUtf8 t → tag_end Outside 0 t ≡ Some n → IsCharBoundary t (n + 1)
ended_boundary t n utf8 e =
    let x = tag_end_at Outside 0 t n e in
    let same : n - 0 ≡ n = omega arith in
    let there : slice_index t n ≡ 62 = rw same at x.2 in
    IsCharBoundary-after_ascii t n utf8 (omega (arith, x.1)) (omega (arith, there))

-- a text may be cut before the blank of a block statement
pub statement_boundary : (t : List ℕ) (n : ℕ) → statement_place Outside 0 t ≡ Some n → IsCharBoundary t n
statement_boundary t n e =
    let x = statement_at Outside 0 t n e in
    let same : n - 0 ≡ n = omega arith in
    let there : slice_index t n < 128 = rw same at x.2 in
    IsCharBoundary-before_ascii t n (omega (arith, x.1)) there

pub statement_first : (t : List ℕ) (n : ℕ) → statement_place Outside 0 t ≡ Some n → slice_index (drop n t) 0 < 128
statement_first t n e =
    let x = statement_at Outside 0 t n e in
    let same : n - 0 ≡ n = omega arith in
    let there : slice_index t n < 128 = rw same at x.2 in
    rw (index_drop n t) there

pub mark_first : (t : List ℕ) (mark : ℕ) → mark_at t ≡ Some mark → (slice_index t 0 < 128) × (is_quote mark ≡ true)
mark_first [] mark h = absurd cc
mark_first (c ∷ t) mark h = go (is_quote c) refl h
  where
    go : (b : Bool) → is_quote c ≡ b → cond b (Some c) None ≡ Some mark → (c < 128) × (is_quote mark ≡ true)
    go true e x = let same : c ≡ mark = cc in (quote_ascii c e, ap is_quote (sym same) ∙ e)
    go false e x = absurd cc
