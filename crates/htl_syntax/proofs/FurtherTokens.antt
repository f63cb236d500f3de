-- Tokens and options nest nothing, so one level more changes nothing of them.
use Rattle.std.proofs.Common.{ℕ, ◌≤◌, ◌+◌, ◌*◌, ◌-◌, Bool, true, false, cond, ◌&&◌, eqb, List, [], ◌∷◌, ◌++◌, drop, length, slice_index, Option, Some, None, is_none, Result, Ok, codes, arith}
use Rattle.sp_base.specs.Outcomes.{◌>>=◌}
use Rattle.sp_base.specs.Bytes.{begins_with_byte, is_digit}
use Rattle.sp_base.proofs.ListLemmas.{drop_short}
use Rattle.htl_syntax.specs.declared.stop.ExprStop.{ExprStop}
use Rattle.htl_syntax.specs.declared.node.Comparison.{Comparison}
use Rattle.htl_syntax.specs.declared.node.Comparison.TheVariants.{Equal, NotEqual, Below, Above, AtMost, AtLeast}
use Rattle.htl_syntax.specs.declared.expression.Context.TheVariants.{Text, Unsafe}
use Rattle.htl_syntax.specs.declared.tokens.NameKind.{NameKind}
use Rattle.htl_syntax.specs.Tokens.{Outcome, blanks_skipped, begins, is_first, is_quote, name_len, read_name, expect, second, literal, unescape, string_after_escape, read_with_prefix, string_from, string, expression_digit_fits, expression_digits_from, limit, digits, signed_number}
use Rattle.htl_syntax.specs.Read as spec
use Rattle.htl_syntax.proofs.TokensAgain.{skip-short}
use Rattle.htl_syntax.proofs.Further.{Goes, goes_bind, goes_if, goes_ok, goes_refuse, goes_more, remainder, bytes, skip_drop-short}

-- the same twice
abbrev pub Keeps : {A : Type 0} → (A → ℕ) → ℕ → Result A ExprStop → Type 0
Keeps size n o = Goes size n o o

here : (t : List ℕ) → length t ≤ length t
here t = omega arith

pub expect_keeps : (c : ℕ) (t : List ℕ) → Keeps bytes (length t) (expect c t)
unfolding expect
expect_keeps c t = goes_if bytes (length t) (begins_with_byte c t) _ _ _ _ (λ e. goes_ok bytes (length t) (blanks_skipped (drop 1 t)) (skip_drop-short 1 t)) (λ e. goes_refuse bytes (length t) (length t) (here t))

pub second_keeps : (c : ℕ) (t : List ℕ) → Keeps bytes (length t) (second c t)
unfolding second
second_keeps c t = goes_more bytes (length (drop 1 t)) (length t) _ _ (drop_short 1 t) (expect_keeps c (drop 1 t))

pub between_keeps : (c : ℕ) (t : List ℕ) → Keeps bytes (length t) (spec.between c t)
between_keeps c t = goes_if bytes (length t) (eqb c 44) _ _ _ _ (λ e. expect_keeps c t) (λ e. second_keeps c t)

-- a value with the text after it
pub pair_keeps : {A : Type 0} (x : A) (r : List ℕ) → Keeps remainder (length r) (Ok (x, r))
pair_keeps x r = goes_ok remainder (length r) (x, r) (here r)

pub name_keeps : (kind : NameKind) (t : List ℕ) → Keeps remainder (length t) (read_name kind t)
unfolding read_name
name_keeps kind t = goes_if remainder (length t) (begins is_first t) _ _ _ _ (λ e. goes_ok remainder (length t) _ (skip_drop-short (name_len kind t) t)) (λ e. goes_refuse remainder (length t) (length t) (here t))

-- ---- strings

prefix_keeps : (w : List ℕ) (n : ℕ) (o : Outcome (List ℕ)) → Keeps remainder n o → Keeps remainder n (read_with_prefix w o)
prefix_keeps w n o g = goes_bind remainder remainder n o o _ _ g (λ x. pair_keeps (w ++ x.0) x.1)

string_from_keeps : (is_escaped : Bool) (mark : ℕ) (t : List ℕ) → Keeps remainder (length t) (string_from is_escaped mark t)
unfolding string_from
string_from_keeps true mark [] = goes_refuse remainder 0 0 (omega arith)
string_from_keeps false mark [] = goes_refuse remainder 0 0 (omega arith)
string_from_keeps true mark (c ∷ t) = go (unescape c) (string_from_keeps false mark t)
  where
    go : (o : Option ℕ) → Keeps remainder (length t) (string_from false mark t) → Keeps remainder (length (c ∷ t)) (string_after_escape o (c ∷ t) (string_from false mark t))
    go None k = goes_refuse remainder (length (c ∷ t)) (length (c ∷ t)) (omega arith)
    go (Some d) k = goes_more remainder (length t) (length (c ∷ t)) _ _ (omega arith) (prefix_keeps (d ∷ []) (length t) _ k)
string_from_keeps false mark (c ∷ t) =
    goes_if remainder (length (c ∷ t)) (eqb c mark) _ _ _ _ (λ e. goes_ok remainder (length (c ∷ t)) ([], blanks_skipped t) (omega (arith, skip-short t)))
    (λ e. goes_if remainder (length (c ∷ t)) (eqb c 92) _ _ _ _ (λ h. goes_more remainder (length t) (length (c ∷ t)) _ _ (omega arith) (string_from_keeps true mark t))
    (λ h. goes_more remainder (length t) (length (c ∷ t)) _ _ (omega arith) (prefix_keeps (c ∷ []) (length t) _ (string_from_keeps false mark t))))

pub string_keeps : (t : List ℕ) → Keeps remainder (length t) (string t)
unfolding string
string_keeps [] = goes_refuse remainder 0 0 (omega arith)
string_keeps (c ∷ t) =
    goes_if remainder (length (c ∷ t)) (is_quote c) _ _ _ _ (λ e. goes_more remainder (length t) (length (c ∷ t)) _ _ (omega arith) (string_from_keeps false c t)) (λ e. goes_refuse remainder (length (c ∷ t)) (length (c ∷ t)) (omega arith))

-- ---- numbers

digits_from-short : (most m : ℕ) (t : List ℕ) → length (expression_digits_from most m t).1 ≤ length t
unfolding expression_digits_from
digits_from-short most m [] = omega arith
digits_from-short most m (c ∷ t) = go (expression_digit_fits most m (c ∷ t)) (digits_from-short most (m * 10 + (c - 48)) t)
  where
    go : (b : Bool) → length (expression_digits_from most (m * 10 + (c - 48)) t).1 ≤ length t → length (cond {A = ℕ × List ℕ} b (expression_digits_from most (m * 10 + (c - 48)) t) (m, c ∷ t)).1 ≤ length (c ∷ t)
    go true le = omega (arith, le)
    go false le = omega arith

digits_keeps : (negative : Bool) (t : List ℕ) → Keeps remainder (length t) (digits negative t)
unfolding digits
digits_keeps negative t =
    goes_if remainder (length t) (begins is_digit t) _ _ _ _
    (λ e. goes_ok remainder (length t) _ (omega (arith, skip-short (expression_digits_from (limit negative) 0 t).1, digits_from-short (limit negative) 0 t)))
    (λ e. goes_refuse remainder (length t) (length t) (here t))

pub number_keeps : (t : List ℕ) → Keeps remainder (length t) (signed_number t)
unfolding signed_number
number_keeps t = goes_if remainder (length t) (begins_with_byte 45 t) _ _ _ _ (λ e. goes_more remainder (length (drop 1 t)) (length t) _ _ (drop_short 1 t) (digits_keeps true (drop 1 t))) (λ e. digits_keeps false t)

-- ---- comparisons

or_equal-short : (bare equal : Comparison) (t : List ℕ) → length (spec.or_equal bare equal t).1 ≤ length t
unfolding spec.or_equal
or_equal-short bare equal t = go (begins_with_byte 61 (drop 1 t))
  where
    go : (b : Bool) → length (cond {A = Comparison × List ℕ} b (equal, blanks_skipped (drop 1 (drop 1 t))) (bare, blanks_skipped (drop 1 t))).1 ≤ length t
    go true = omega (arith, skip_drop-short 1 (drop 1 t), drop_short 1 t)
    go false = skip_drop-short 1 t

pub comparison_keeps : (t : List ℕ) → Keeps remainder (length t) (spec.comparison t)
unfolding spec.comparison
comparison_keeps t =
    goes_if remainder (length t) (begins_with_byte 61 t) _ _ _ _ (λ e. goes_bind bytes remainder (length t) _ _ _ _ (second_keeps 61 t) (λ r. pair_keeps Equal r))
    (λ e. goes_if remainder (length t) (begins_with_byte 33 t) _ _ _ _ (λ h. goes_bind bytes remainder (length t) _ _ _ _ (second_keeps 61 t) (λ r. pair_keeps NotEqual r))
    (λ h. goes_if remainder (length t) (begins_with_byte 60 t) _ _ _ _ (λ k. goes_ok remainder (length t) _ (or_equal-short Below AtMost t)) (λ k. goes_ok remainder (length t) _ (or_equal-short Above AtLeast t))))

-- ---- options

literal_keeps : (w t : List ℕ) → Keeps bytes (length t) (literal w t)
unfolding literal
literal_keeps [] t = goes_ok bytes (length t) t (here t)
literal_keeps (c ∷ w) t = goes_if bytes (length t) (begins_with_byte c t) _ _ _ _ (λ e. goes_more bytes (length (drop 1 t)) (length t) _ _ (drop_short 1 t) (literal_keeps w (drop 1 t))) (λ e. goes_refuse bytes (length t) (length t) (here t))

context_word_keeps : (t : List ℕ) → Keeps remainder (length t) (spec.context_word t)
unfolding spec.context_word
context_word_keeps t =
    goes_if remainder (length t) (begins_with_byte 116 t) _ _ _ _ (λ e. goes_bind bytes remainder (length t) _ _ _ _ (literal_keeps (codes "text") t) (λ r. pair_keeps Text r))
    (λ e. goes_bind bytes remainder (length t) _ _ _ _ (literal_keeps (codes "unsafe") t) (λ r. pair_keeps Unsafe r))

context_string_keeps : (t : List ℕ) → Keeps remainder (length t) (spec.context_string t)
unfolding spec.context_string
context_string_keeps t =
    goes_if remainder (length t) (begins is_quote t) _ _ _ _
    (λ e. goes_more remainder (length (drop 1 t)) (length t) _ _ (drop_short 1 t)
    (goes_bind remainder remainder (length (drop 1 t)) _ _ _ _ (context_word_keeps (drop 1 t)) (λ x. goes_bind bytes remainder (length x.1) _ _ _ _ (expect_keeps (slice_index t 0) x.1) (λ r. pair_keeps x.0 r))))
    (λ e. goes_refuse remainder (length t) (length t) (here t))

-- a word, `=` and a value
given_keeps : {A : Type 0} (word : List ℕ) (value : List ℕ → Outcome A) (t : List ℕ) → ((s : List ℕ) → Keeps remainder (length s) (value s)) → Keeps remainder (length t) (literal word t >>= λ a. expect 61 (blanks_skipped a) >>= λ b. value b)
given_keeps word value t keeps =
    goes_bind bytes remainder (length t) _ _ _ _ (literal_keeps word t)
    (λ a. goes_more remainder (length (blanks_skipped a)) (length a) _ _ (skip-short a) (goes_bind bytes remainder (length (blanks_skipped a)) _ _ _ _ (expect_keeps 61 (blanks_skipped a)) (λ b. keeps b)))

option_keeps : (given : spec.Given) (t : List ℕ) → Keeps remainder (length t) (spec.option given t)
unfolding spec.option spec.join_option spec.context_option
option_keeps given t =
    goes_if remainder (length t) (is_none given.0 && begins_with_byte 106 t) _ _ _ _ (λ e. goes_bind remainder remainder (length t) _ _ _ _ (given_keeps (codes "join") string t string_keeps) (λ x. pair_keeps (Some x.0, given.1) x.1))
    (λ e. goes_if remainder (length t) (is_none given.1 && begins_with_byte 99 t) _ _ _ _ (λ h. goes_bind remainder remainder (length t) _ _ _ _ (given_keeps (codes "context") spec.context_string t context_string_keeps) (λ x. pair_keeps (given.0, Some x.0) x.1))
    (λ h. goes_refuse remainder (length t) (length t) (here t)))

pub options_keeps : (t : List ℕ) → Keeps remainder (length t) (spec.options t)
unfolding spec.options
options_keeps t =
    goes_if remainder (length t) (begins_with_byte 64 t) _ _ _ _
    (λ e. goes_more remainder (length (blanks_skipped (drop 1 t))) (length t) _ _ (skip_drop-short 1 t)
    (goes_bind remainder remainder (length (blanks_skipped (drop 1 t))) _ _ _ _ (option_keeps (None, None) (blanks_skipped (drop 1 t)))
    (λ o. goes_if remainder (length o.1) (begins_with_byte 44 o.1) _ _ _ _ (λ h. goes_more remainder (length (blanks_skipped (drop 1 o.1))) (length o.1) _ _ (skip_drop-short 1 o.1) (option_keeps o.0 (blanks_skipped (drop 1 o.1)))) (λ h. goes_ok remainder (length o.1) o (here o.1)))))
    (λ e. pair_keeps (None, None) t)
