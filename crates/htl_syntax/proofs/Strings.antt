-- Steps of reading a string.
use Rattle.std.proofs.Common.{◌≡◌, ◌<◌, ◌≤◌, ℕ, suc, Bool, true, false, cond, ◌||◌, eqb, List, [], ◌∷◌, ◌++◌, take, drop, length, slice_index, Option, Some, None, Ok, Err, refl, ap, sym, ◌∙◌, arith, append_assoc}
use Rattle.std.proofs.lemmas.Bool.Decides.{nat_tests}
use Rattle.htl_syntax.specs.Tokens.{Outcome, is_quote, blanks_skipped, unescape, escape, escape_of, string_after_escape, plain_quoted_len, read_with_prefix, string_from, Fails, done}
use Rattle.std.specs.Str.{IsCharBoundary}
use Rattle.std.proofs.lemmas.List.{append-nil, length-drop}
use Rattle.sp_base.specs.Outcomes.{◌>>=◌}
use Rattle.sp_base.specs.Bytes.{begins_with_byte}
use Rattle.htl_syntax.specs.declared.stop.ExprStop.{ExprStop}
use Rattle.htl_syntax.specs.declared.stop.ExprStop.TheVariants.{NoMemory, Unexpected, TooDeep}

pub ok_is : {A : Type 0} (x y : A) → done x ≡ done y → x ≡ y
ok_is x y e = cc

pub in_prefix_twice : (a b : List ℕ) (o : Outcome (List ℕ)) → read_with_prefix a (read_with_prefix b o) ≡ read_with_prefix (a ++ b) o
in_prefix_twice a b (Ok x) = ap (λ (l : List ℕ). Ok (l, x.1)) (sym (append_assoc a b x.0))
in_prefix_twice a b (Err e) = refl

pub in_prefix_nil : (o : Outcome (List ℕ)) → read_with_prefix [] o ≡ o
in_prefix_nil (Ok x) = refl
in_prefix_nil (Err e) = refl

pub plain_step : (mark : ℕ) (t : List ℕ) → string_from false mark t ≡ read_with_prefix (take (plain_quoted_len mark t) t) (string_from false mark (drop (plain_quoted_len mark t) t))
unfolding plain_quoted_len string_from
plain_step mark [] = refl
plain_step mark (c ∷ t) = go (eqb c mark) (eqb c 92) refl refl (plain_step mark t)
  where
    go : (a b : Bool) → eqb c mark ≡ a → eqb c 92 ≡ b → string_from false mark t ≡ read_with_prefix (take (plain_quoted_len mark t) t) (string_from false mark (drop (plain_quoted_len mark t) t))
        → cond a (Ok ([], blanks_skipped t)) (cond b (string_from true mark t) (read_with_prefix (c ∷ []) (string_from false mark t)))
        ≡ read_with_prefix (take (cond (a || b) 0 (suc (plain_quoted_len mark t))) (c ∷ t)) (string_from false mark (drop (cond (a || b) 0 (suc (plain_quoted_len mark t))) (c ∷ t)))
    go true b ea eb ih = rw ea refl
    go false true ea eb ih = rw (ea, eb) (sym (in_prefix_nil (string_from true mark t)))
    go false false ea eb ih = ap (read_with_prefix (c ∷ [])) ih ∙ in_prefix_twice (c ∷ []) (take (plain_quoted_len mark t) t) (string_from false mark (drop (plain_quoted_len mark t) t))

pub closes : (mark : ℕ) (t : List ℕ) → begins_with_byte mark t ≡ true → string_from false mark t ≡ Ok ([], blanks_skipped (drop 1 t))
unfolding begins_with_byte string_from
closes mark [] h = absurd cc
closes mark (c ∷ t) h = rw h refl

pub escape_step : (mark : ℕ) (t : List ℕ) → string_from true mark t ≡ (escape t >>= λ d. read_with_prefix (d.0 ∷ []) (string_from false mark d.1))
unfolding string_from escape
escape_step mark [] = refl
escape_step mark (c ∷ t) = go (unescape c)
  where
    go : (o : Option ℕ) → string_after_escape o (c ∷ t) (string_from false mark t) ≡ (escape_of o (c ∷ t) >>= λ d. read_with_prefix (d.0 ∷ []) (string_from false mark d.1))
    go None = refl
    go (Some d) = refl

pub backslash : (mark : ℕ) (t : List ℕ) → begins_with_byte mark t ≡ false → begins_with_byte 92 t ≡ true → string_from false mark t ≡ string_from true mark (drop 1 t)
unfolding begins_with_byte string_from
backslash mark [] n h = absurd cc
backslash mark (c ∷ t) n h = rw (n, h) refl

pub stops_at : (mark : ℕ) (t : List ℕ) → begins_with_byte mark (drop (plain_quoted_len mark t) t) ≡ false → begins_with_byte 92 (drop (plain_quoted_len mark t) t) ≡ false → drop (plain_quoted_len mark t) t ≡ []
unfolding plain_quoted_len begins_with_byte
stops_at mark [] n h = refl
stops_at mark (c ∷ t) n h = go (eqb c mark) (eqb c 92) refl refl n h (λ x y. stops_at mark t x y)
  where
    go : (a b : Bool) → eqb c mark ≡ a → eqb c 92 ≡ b → begins_with_byte mark (drop (cond (a || b) 0 (suc (plain_quoted_len mark t))) (c ∷ t)) ≡ false
        → begins_with_byte 92 (drop (cond (a || b) 0 (suc (plain_quoted_len mark t))) (c ∷ t)) ≡ false
        → (begins_with_byte mark (drop (plain_quoted_len mark t) t) ≡ false → begins_with_byte 92 (drop (plain_quoted_len mark t) t) ≡ false → drop (plain_quoted_len mark t) t ≡ []) → drop (cond (a || b) 0 (suc (plain_quoted_len mark t))) (c ∷ t) ≡ []
    go true b ea eb n' h' rec = absurd (let x : eqb c mark ≡ false = n' in cc)
    go false true ea eb n' h' rec = absurd (let x : eqb c 92 ≡ false = h' in cc)
    go false false ea eb n' h' rec = rec n' h'

-- the text at an end has nothing
pub ended : (mark : ℕ) → string_from false mark [] ≡ Err (Unexpected 0)
unfolding string_from
ended mark = refl

pub quote_ascii : (c : ℕ) → is_quote c ≡ true → c < 128
quote_ascii c h = grind (arith, nat_tests)

pub unescape_ascii : (c d : ℕ) → unescape c ≡ Some d → (c < 128) × (d < 128)
unfolding unescape
unescape_ascii c d h = grind (arith, nat_tests)

-- the byte that ends the plain bytes is a character of its own
pub plain_end : (mark : ℕ) (t : List ℕ) → mark < 128 → plain_quoted_len mark t < length t → slice_index t (plain_quoted_len mark t) < 128
unfolding plain_quoted_len
plain_end mark [] m lt = absurd (omega arith)
plain_end mark (c ∷ t) m lt = go (eqb c mark) (eqb c 92) refl refl lt (plain_end mark t m)
  where
    go : (a b : Bool) → eqb c mark ≡ a → eqb c 92 ≡ b → cond (a || b) 0 (suc (plain_quoted_len mark t)) < length (c ∷ t) → (plain_quoted_len mark t < length t → slice_index t (plain_quoted_len mark t) < 128)
        → slice_index (c ∷ t) (cond (a || b) 0 (suc (plain_quoted_len mark t))) < 128
    go true b ea eb lt' ih = grind (arith, nat_tests)
    go false true ea eb lt' ih = grind (arith, nat_tests)
    go false false ea eb lt' ih = ih (omega arith)

pub plain_within : (mark : ℕ) (t : List ℕ) → plain_quoted_len mark t ≤ length t
unfolding plain_quoted_len
plain_within mark [] = omega arith
plain_within mark (c ∷ t) = go (eqb c mark || eqb c 92) (plain_within mark t)
  where
    go : (b : Bool) → plain_quoted_len mark t ≤ length t → cond b 0 (suc (plain_quoted_len mark t)) ≤ length (c ∷ t)
    go true ih = omega arith
    go false ih = omega arith

pub plain_boundary : (mark : ℕ) (t : List ℕ) → mark < 128 → IsCharBoundary t (plain_quoted_len mark t)
plain_boundary mark t m = (plain_within mark t, λ lt big. let small = plain_end mark t m lt in omega arith)

backslash_less : (t : List ℕ) → begins_with_byte 92 t ≡ true → length (drop 1 t) < length t
unfolding begins_with_byte
backslash_less [] x = absurd cc
backslash_less (d ∷ t) x = omega arith

escape_shorter : (t : List ℕ) (c : ℕ) (later : List ℕ) → escape t ≡ Ok (c, later) → length later ≤ length t
unfolding escape
escape_shorter [] c later x = absurd cc
escape_shorter (d ∷ t) c later x = go (unescape d) x
  where
    go : (o : Option ℕ) → escape_of o (d ∷ t) ≡ Ok (c, later) → length later ≤ length (d ∷ t)
    go None y = absurd cc
    go (Some b) y = let z : t ≡ later = ap (λ (q : ℕ × List ℕ). q.1) (ok_is _ _ y) in omega (arith, ap (λ (l : List ℕ). length l) z)

-- one turn: the plain bytes are taken over
module _ (mark n : ℕ) (found leading rest after found' : List ℕ) (whole : Outcome (List ℕ)) (len : n ≡ plain_quoted_len mark rest) (prefix_is : leading ≡ take n rest) (after_is : after ≡ drop n rest)
    (found_is : found' ≡ found ++ leading) (before : read_with_prefix found (string_from false mark rest) ≡ whole) where
  taken : read_with_prefix found' (string_from false mark after) ≡ whole
  taken =
      rw (found_is, prefix_is, after_is, len)
      (sym (in_prefix_twice found (take (plain_quoted_len mark rest) rest) (string_from false mark (drop (plain_quoted_len mark rest) rest))) ∙ ap (read_with_prefix found) (sym (plain_step mark rest)) ∙ before)

  pub closes_is : begins_with_byte mark after ≡ true → whole ≡ Ok (found', blanks_skipped (drop 1 after))
  closes_is h = sym taken ∙ ap (read_with_prefix found') (closes mark after h) ∙ ap (λ (l : List ℕ). Ok (l, blanks_skipped (drop 1 after))) (append-nil found')

  pub stops_is : begins_with_byte mark after ≡ false → begins_with_byte 92 after ≡ false → whole ≡ Err (Unexpected (length after))
  stops_is h k =
      let nil : after ≡ [] = after_is ∙ ap (λ (m : ℕ). drop m rest) len ∙ stops_at mark rest (rw (after_is, len) at h) (rw (after_is, len) at k) in
      sym taken ∙ rw nil (ap (read_with_prefix found') (ended mark))

  escapes : begins_with_byte mark after ≡ false → begins_with_byte 92 after ≡ true → whole ≡ read_with_prefix found' (escape (drop 1 after) >>= λ d. read_with_prefix (d.0 ∷ []) (string_from false mark d.1))
  escapes h k = sym taken ∙ ap (read_with_prefix found') (backslash mark after h k ∙ escape_step mark (drop 1 after))

  pub escape_fails : (e : ExprStop) → begins_with_byte mark after ≡ false → begins_with_byte 92 after ≡ true → Fails e (escape (drop 1 after)) → Fails e whole
  escape_fails NoMemory h k f = tt
  escape_fails (Unexpected m) h k f = escapes h k ∙ rw f refl
  escape_fails (TooDeep m) h k f = escapes h k ∙ rw f refl

  pub escape_is : (c : ℕ) (later : List ℕ) → begins_with_byte mark after ≡ false → begins_with_byte 92 after ≡ true → escape (drop 1 after) ≡ Ok (c, later) → read_with_prefix (found' ++ c ∷ []) (string_from false mark later) ≡ whole
  escape_is c later h k e = sym (in_prefix_twice found' (c ∷ []) (string_from false mark later)) ∙ sym (escapes h k ∙ rw e refl)

  pub escape_less : (c : ℕ) (later : List ℕ) → begins_with_byte 92 after ≡ true → escape (drop 1 after) ≡ Ok (c, later) → length later < length rest
  escape_less c later k e =
      let a : length (drop 1 after) < length after = backslash_less after k in
      let b : length after ≤ length rest = rw after_is (omega (arith, length-drop n rest)) in
      let d : length later ≤ length (drop 1 after) = escape_shorter (drop 1 after) c later e in
      omega (arith, a, b, d)
