-- Each line of the grammar, read with one level more.
use Rattle.std.proofs.Common.{◌≡◌, ℕ, zero, suc, ◌≤◌, ◌<◌, Bool, true, false, ◌||◌, eqb, List, [], ◌∷◌, ◌++◌, drop, length, Option, Some, None, Ok, Err, refl, ap, arith, rules}
use Rattle.std.proofs.lemmas.List.{length-append}
use Rattle.sp_base.specs.Outcomes.{◌>>=◌}
use Rattle.sp_base.specs.Bytes.{begins_with_byte, is_digit}
use Rattle.htl_syntax.specs.declared.stop.ExprStop.{ExprStop}
use Rattle.htl_syntax.specs.declared.stop.ExprStop.TheVariants.{NoMemory, Unexpected, TooDeep}
use Rattle.htl_syntax.specs.declared.node.ExprNode.{ExprNode}
use Rattle.htl_syntax.specs.declared.node.ExprNode.TheVariants as expr_node
use Rattle.htl_syntax.specs.declared.expression.Expression.{Expression}
use Rattle.htl_syntax.specs.declared.tokens.NameKind.TheVariants.{Name, Field}
use Rattle.htl_syntax.specs.declared.reader.Nested.{Nested}
use Rattle.htl_syntax.specs.declared.reader.Nested.TheVariants.{Choice, Operand, Items}
use Rattle.htl_syntax.specs.Tokens.{Outcome, blanks_skipped, begins, is_quote, expect, string}
use Rattle.htl_syntax.specs.Read as spec
use Rattle.htl_syntax.proofs.TokensAgain.{skip-short}
use Rattle.htl_syntax.proofs.Local.{IsAt, Local}
use Rattle.htl_syntax.proofs.LocalParts.{deeper, local_deeper}
use Rattle.htl_syntax.proofs.Further.{left_of, Within, Goes, goes_bind, goes_if, goes_ok, goes_refuse, goes_deep, goes_more, remainder, bytes, skip_drop-short, skip_drop-less}
use Rattle.htl_syntax.proofs.FurtherTokens.{Keeps, expect_keeps, between_keeps, pair_keeps, name_keeps, string_keeps, number_keeps, comparison_keeps, options_keeps}

some_at : (c : ℕ) (t : List ℕ) → begins_with_byte c t ≡ true → 0 < length t
unfolding begins_with_byte
some_at c [] e = absurd cc
some_at c (d ∷ t) e = omega arith

-- ---- accesses

inside_keeps : (t : List ℕ) → Keeps remainder (length (blanks_skipped (drop 1 t))) (string (blanks_skipped (drop 1 t)) >>= λ s. expect 93 s.1 >>= λ r. Ok (s.0, r))
inside_keeps t =
    goes_bind remainder remainder (length (blanks_skipped (drop 1 t))) _ _ _ _ (string_keeps (blanks_skipped (drop 1 t)))
    (λ s. goes_bind bytes remainder (length s.1) _ _ _ _ (expect_keeps 93 s.1) (λ r. pair_keeps s.0 r))

bracket_goes : (depth : ℕ) (t : List ℕ) → 0 < length t → Goes remainder (length t) (spec.bracket_access depth t) (spec.bracket_access (suc depth) t)
unfolding spec.bracket_access
bracket_goes zero t some = goes_deep remainder (length (blanks_skipped (drop 1 t))) (length t) _ (inside_keeps t).within (skip_drop-less t some)
bracket_goes (suc depth) t some =
    let one : eqb (suc depth) 0 ≡ false = search rules in
    let two : eqb (suc (suc depth)) 0 ≡ false = search rules in
    rw (one, two) (goes_more remainder (length (blanks_skipped (drop 1 t))) (length t) _ _ (skip_drop-short 1 t) (inside_keeps t))

access_goes : (depth : ℕ) (t : List ℕ) → 0 < length t → Goes remainder (length t) (spec.access depth t) (spec.access (suc depth) t)
unfolding spec.access
access_goes depth t some =
    goes_if remainder (length t) (begins_with_byte 46 t) _ _ _ _ (λ e. goes_more remainder (length (blanks_skipped (drop 1 t))) (length t) _ _ (skip_drop-short 1 t) (name_keeps Field (blanks_skipped (drop 1 t)))) (λ e. bracket_goes depth t some)

either_true : (a b : Bool) (m : ℕ) → (a ≡ true → 0 < m) → (b ≡ true → 0 < m) → (a || b) ≡ true → 0 < m
either_true true b m first second e = first refl
either_true false b m first second e = second e

access_some : (t : List ℕ) → spec.access_at t ≡ true → 0 < length t
unfolding spec.access_at
access_some t e = either_true (begins_with_byte 46 t) (begins_with_byte 91 t) (length t) (some_at 46 t) (some_at 91 t) e

accesses_goes : (depth k : ℕ) (found : List (List ℕ)) (t : List ℕ) → Goes remainder (length t) (spec.accesses depth k found t) (spec.accesses (suc depth) k found t)
unfolding spec.accesses
accesses_goes depth zero found t = pair_keeps found t
accesses_goes depth (suc k) found t =
    goes_if remainder (length t) (spec.access_at t) _ _ _ _
    (λ e. goes_bind remainder remainder (length t) _ _ _ _ (access_goes depth t (access_some t e)) (λ x. accesses_goes depth k (found ++ x.0 ∷ []) x.1)) (λ e. pair_keeps found t)

first_access_goes : (depth : ℕ) (t : List ℕ) → Goes remainder (length t) (spec.first_access depth t) (spec.first_access (suc depth) t)
unfolding spec.first_access
first_access_goes depth t = goes_if remainder (length t) (spec.access_at t) _ _ _ _ (λ e. access_goes depth t (access_some t e)) (λ e. goes_refuse remainder (length t) (length t) (omega arith))

-- ---- starts without brackets

object_goes : (depth : ℕ) (o : Option (List ℕ → ExprNode)) (w t : List ℕ) → Goes remainder (length t) (spec.name_or_object_of depth o w t) (spec.name_or_object_of (suc depth) o w t)
object_goes depth None w t = pair_keeps (spec.word_node w) t
object_goes depth (Some make) w t = goes_bind remainder remainder (length t) _ _ _ _ (first_access_goes depth t) (λ f. pair_keeps (make f.0) f.1)

name_goes : (depth : ℕ) (t : List ℕ) → Goes remainder (length t) (spec.name_or_object depth t) (spec.name_or_object (suc depth) t)
unfolding spec.name_or_object
name_goes depth t = goes_bind remainder remainder (length t) _ _ _ _ (name_keeps Name t) (λ x. object_goes depth (spec.object_of x.0) x.0 x.1)

leaf_goes : (depth : ℕ) (t : List ℕ) → Goes remainder (length t) (spec.primary depth t) (spec.primary (suc depth) t)
unfolding spec.primary
leaf_goes depth t =
    goes_if remainder (length t) (begins is_quote t) _ _ _ _ (λ e. goes_bind remainder remainder (length t) _ _ _ _ (string_keeps t) (λ x. pair_keeps (expr_node.Text x.0) x.1))
    (λ e. goes_if remainder (length t) (begins_with_byte 45 t || begins is_digit t) _ _ _ _ (λ h. goes_bind remainder remainder (length t) _ _ _ _ (number_keeps t) (λ x. pair_keeps (expr_node.Long x.0) x.1)) (λ h. name_goes depth t))

-- ---- chains

chain_goes : (item other : List ℕ → Outcome ExprNode) → ((t : List ℕ) → Goes remainder (length t) (item t) (other t)) → (c k : ℕ) (found : List ExprNode) (t : List ℕ) → Goes remainder (length t) (spec.chain item c k found t) (spec.chain other c k found t)
unfolding spec.chain
chain_goes item other goes c zero found t = pair_keeps found t
chain_goes item other goes c (suc k) found t =
    goes_if remainder (length t) (begins_with_byte c t) _ _ _ _
    (λ e. goes_bind bytes remainder (length t) _ _ _ _ (between_keeps c t) (λ r. goes_bind remainder remainder (length r) _ _ _ _ (goes r) (λ x. chain_goes item other goes c k (found ++ x.0 ∷ []) x.1))) (λ e. pair_keeps found t)

-- ---- the lines, over what nests

module _ (depth : ℕ) (inner more : Nested → List ℕ → Outcome ExprNode) (nests : (which : Nested) (t : List ℕ) → 0 < length t → Goes remainder (length t) (inner which t) (more which t)) where
  at_goes : (which : Nested) (c : ℕ) (t : List ℕ) → begins_with_byte c t ≡ true → Goes remainder (length t) (inner which t) (more which t)
  at_goes which c t e = nests which t (some_at c t e)

  closing_keeps : (c : ℕ) (e : ExprNode) (t : List ℕ) → Keeps remainder (length t) (expect c t >>= λ r. Ok (e, r))
  closing_keeps c e t = goes_bind bytes remainder (length t) _ _ _ _ (expect_keeps c t) (λ r. pair_keeps e r)

  start_goes : (t : List ℕ) → Goes remainder (length t) (spec.start depth inner t) (spec.start (suc depth) more t)
  unfolding spec.start
  start_goes t =
      goes_if remainder (length t) (begins_with_byte 40 t) _ _ _ _ (λ e. goes_bind remainder remainder (length t) _ _ _ _ (at_goes Choice 40 t e) (λ x. closing_keeps 41 x.0 x.1))
      (λ e. goes_if remainder (length t) (begins_with_byte 91 t) _ _ _ _ (λ h. goes_bind remainder remainder (length t) _ _ _ _ (at_goes Items 91 t h) (λ x. closing_keeps 93 x.0 x.1)) (λ h. leaf_goes depth t))

  atom_goes : (t : List ℕ) → Goes remainder (length t) (spec.atom depth inner t) (spec.atom (suc depth) more t)
  unfolding spec.atom
  atom_goes t =
      goes_bind remainder remainder (length t) _ _ _ _ (start_goes t)
      (λ x. goes_bind remainder remainder (length x.1) _ _ _ _ (accesses_goes depth (length x.1) [] x.1) (λ fs. pair_keeps (spec.access_of x.0 fs.0) fs.1))

  operand_goes : (t : List ℕ) → Goes remainder (length t) (spec.operand depth inner t) (spec.operand (suc depth) more t)
  unfolding spec.operand
  operand_goes t = goes_if remainder (length t) (begins_with_byte 33 t) _ _ _ _ (λ e. goes_bind remainder remainder (length t) _ _ _ _ (at_goes Operand 33 t e) (λ x. pair_keeps (expr_node.Not x.0) x.1)) (λ e. atom_goes t)

  compare_goes : (t : List ℕ) → Goes remainder (length t) (spec.compare depth inner t) (spec.compare (suc depth) more t)
  unfolding spec.compare
  compare_goes t =
      goes_bind remainder remainder (length t) _ _ _ _ (operand_goes t)
      (λ a. goes_if remainder (length a.1) (spec.compares a.1) _ _ _ _
      (λ e. goes_bind remainder remainder (length a.1) _ _ _ _ (comparison_keeps a.1) (λ op. goes_bind remainder remainder (length op.1) _ _ _ _ (operand_goes op.1) (λ b. pair_keeps (expr_node.Compare op.0 a.0 b.0) b.1)))
      (λ e. goes_ok remainder (length a.1) a (omega arith)))

  both_goes : (t : List ℕ) → Goes remainder (length t) (spec.both depth inner t) (spec.both (suc depth) more t)
  unfolding spec.both
  both_goes t =
      goes_bind remainder remainder (length t) _ _ _ _ (compare_goes t)
      (λ x. goes_bind remainder remainder (length x.1) _ _ _ _ (chain_goes (spec.compare depth inner) (spec.compare (suc depth) more) compare_goes 38 (length x.1) [] x.1) (λ xs. pair_keeps (spec.and_of x.0 xs.0) xs.1))

  either_goes : (t : List ℕ) → Goes remainder (length t) (spec.either depth inner t) (spec.either (suc depth) more t)
  unfolding spec.either
  either_goes t =
      goes_bind remainder remainder (length t) _ _ _ _ (both_goes t)
      (λ x. goes_bind remainder remainder (length x.1) _ _ _ _ (chain_goes (spec.both depth inner) (spec.both (suc depth) more) both_goes 124 (length x.1) [] x.1) (λ xs. pair_keeps (spec.or_of x.0 xs.0) xs.1))

  other_goes : (t : List ℕ) → Goes remainder (length t) (spec.other_choice depth inner t) (spec.other_choice (suc depth) more t)
  unfolding spec.other_choice
  other_goes t = goes_if remainder (length t) (begins_with_byte 58 t) _ _ _ _ (λ e. at_goes Choice 58 t e) (λ e. goes_refuse remainder (length t) (length t) (omega arith))

  choice_goes : (t : List ℕ) → Goes remainder (length t) (spec.choice depth inner t) (spec.choice (suc depth) more t)
  unfolding spec.choice
  choice_goes t =
      goes_bind remainder remainder (length t) _ _ _ _ (either_goes t)
      (λ c. goes_if remainder (length c.1) (begins_with_byte 63 c.1) _ _ _ _
      (λ e. goes_bind remainder remainder (length c.1) _ _ _ _ (at_goes Choice 63 c.1 e) (λ a. goes_bind remainder remainder (length a.1) _ _ _ _ (other_goes a.1) (λ b. pair_keeps (expr_node.Choice c.0 a.0 b.0) b.1)))
      (λ e. goes_ok remainder (length c.1) c (omega arith)))

  items_goes : (t : List ℕ) → Goes remainder (length t) (spec.items depth inner t) (spec.items (suc depth) more t)
  unfolding spec.items
  items_goes t =
      goes_if remainder (length t) (begins_with_byte 93 t) _ _ _ _ (λ e. pair_keeps (expr_node.List []) t)
      (λ e. goes_bind remainder remainder (length t) _ _ _ _ (choice_goes t)
      (λ x. goes_bind remainder remainder (length x.1) _ _ _ _ (chain_goes (spec.choice depth inner) (spec.choice (suc depth) more) choice_goes 44 (length x.1) (x.0 ∷ []) x.1) (λ xs. pair_keeps (expr_node.List xs.0) xs.1)))

  level_goes : (which : Nested) (t : List ℕ) → Goes remainder (length t) (spec.level depth inner which t) (spec.level (suc depth) more which t)
  level_goes Choice t = choice_goes t
  level_goes Operand t = operand_goes t
  level_goes Items t = items_goes t

-- ---- what nests

-- a line without levels reads forward
forward : (which : Nested) (s : List ℕ) → Within remainder (length s) (spec.level zero (spec.nesting zero) which s)
forward which s = go (deeper zero which s) refl
  where
    line : Local (deeper zero which)
    line = local_deeper zero which

    stops : (d : ExprStop) (leading rest : List ℕ) → s ≡ leading ++ rest → IsAt d rest → left_of d ≤ length s
    stops NoMemory leading rest e at = absurd at
    stops (Unexpected left) leading rest e at = omega (arith, ap length e, length-append leading rest, at)
    stops (TooDeep left) leading rest e at = omega (arith, ap length e, length-append leading rest, at.0)

    go : (o : Outcome ExprNode) → deeper zero which s ≡ o → Within remainder (length s) o
    go (Ok x) e = (let k = line.ok s x.0 x.1 e in omega (arith, ap length k.parts, length-append k.leading x.1))
    go (Err d) e = (let k = line.err d s e in stops d k.leading k.rest k.parts k.left)

nesting_goes : (depth : ℕ) (which : Nested) (t : List ℕ) → 0 < length t → Goes remainder (length t) (spec.nesting depth which t) (spec.nesting (suc depth) which t)
unfolding spec.nesting
nesting_goes zero which t some = goes_deep remainder (length (blanks_skipped (drop 1 t))) (length t) _ (forward which (blanks_skipped (drop 1 t))) (skip_drop-less t some)
nesting_goes (suc depth) which t some =
    goes_more remainder (length (blanks_skipped (drop 1 t))) (length t) _ _ (skip_drop-short 1 t) (level_goes depth (spec.nesting depth) (spec.nesting (suc depth)) (nesting_goes depth) which (blanks_skipped (drop 1 t)))

-- ---- the whole

abbrev pub nothing : Expression → ℕ
nothing e = 0

first_goes : (levels : ℕ) (t : List ℕ) → Goes remainder (length t) (spec.optional_choice levels t) (spec.optional_choice (suc levels) t)
unfolding spec.optional_choice
first_goes levels t =
    goes_if remainder (length t) (eqb (length t) 0 || begins_with_byte 64 t) _ _ _ _ (λ e. pair_keeps None t)
    (λ e. goes_bind remainder remainder (length t) _ _ _ _ (choice_goes levels (spec.nesting levels) (spec.nesting (suc levels)) (nesting_goes levels) t) (λ x. pair_keeps (Some x.0) x.1))

pub read_goes : (levels : ℕ) (s : List ℕ) → Goes nothing (length s) (spec.expression_read levels s) (spec.expression_read (suc levels) s)
unfolding spec.expression_read
read_goes levels s =
    goes_more nothing (length (blanks_skipped s)) (length s) _ _ (skip-short s)
    (goes_bind remainder nothing (length (blanks_skipped s)) _ _ _ _ (first_goes levels (blanks_skipped s))
    (λ x. goes_bind remainder nothing (length x.1) _ _ _ _ (options_keeps x.1)
    (λ o. goes_if nothing (length o.1) (eqb (length o.1) 0) _ _ _ _ (λ e. goes_ok nothing (length o.1) _ (omega arith)) (λ e. goes_refuse nothing (length o.1) (length o.1) (omega arith)))))
