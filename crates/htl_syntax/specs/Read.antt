-- Reading an expression from left to right, with the first fault that is met (HTL specification 1.4, "Expression Language"; `docs/htl/EXPRESSIONS.md`,
-- "Faults").
use Rattle.std.specs.Prelude.{ℕ, zero, suc, Bool, true, false, nat_eq, if◌then◌else◌, ◌==◌, ◌||◌, ◌&&◌, List, [], ◌∷◌, ◌++◌, length, drop, Option, Some, None, is_none, Result, Ok, Err, codes, slice_index}
use Rattle.std.specs.Cmp.Lexicographic.{pointwise}
use Rattle.sp_base.specs.Outcomes.{◌>>=◌}
use Rattle.sp_base.specs.Texts as texts
use Rattle.sp_base.specs.Bytes.{begins_with_byte, is_digit}
use Rattle.htl_syntax.specs.declared.stop.ExprStop.{ExprStop}
use Rattle.htl_syntax.specs.declared.stop.ExprStop.TheVariants.{Unexpected, TooDeep}
use Rattle.htl_syntax.specs.declared.node.ExprNode.{ExprNode}
use Rattle.htl_syntax.specs.declared.node.ExprNode.TheVariants as expr_node
use Rattle.htl_syntax.specs.declared.node.Comparison.{Comparison}
use Rattle.htl_syntax.specs.declared.node.Comparison.TheVariants.{Equal, NotEqual, Below, Above, AtMost, AtLeast}
use Rattle.htl_syntax.specs.declared.expression.Context.{Context}
use Rattle.htl_syntax.specs.declared.expression.Context.TheVariants.{Text, Unsafe}
use Rattle.htl_syntax.specs.declared.expression.Expression.{Expression}
use Rattle.htl_syntax.specs.declared.tokens.NameKind.TheVariants.{Name, Field}
use Rattle.htl_syntax.specs.declared.reader.Nested.{Nested}
use Rattle.htl_syntax.specs.declared.reader.Nested.TheVariants.{Choice, Operand, Items}
use Rattle.htl_syntax.specs.Tokens.{Outcome, blanks_skipped, begins, is_quote, read_name, expect, second, literal, string, signed_number}

-- without accesses there is no node for them
abbrev pub access_of : ExprNode → List texts.Text → ExprNode
access_of e [] = e
access_of e (f ∷ fs) = expr_node.Access e (f ∷ fs)

-- one operand is itself
abbrev pub and_of : ExprNode → List ExprNode → ExprNode
and_of e [] = e
and_of e (f ∷ fs) = expr_node.And e (f ∷ fs)

-- and so it is where `||` stands between them
abbrev pub or_of : ExprNode → List ExprNode → ExprNode
or_of e [] = e
or_of e (f ∷ fs) = expr_node.Or e (f ∷ fs)

-- the same text
abbrev pub is_text : List ℕ → List ℕ → Bool
is_text w text = pointwise nat_eq w text

-- the literals `true` and `false`, or a variable
abbrev pub word_node : List ℕ → ExprNode
word_node w = if is_text w (codes "true") then expr_node.Truth true else (if is_text w (codes "false") then expr_node.Truth false else expr_node.Variable w)

-- the names that must be followed by an access
abbrev pub object_of : List ℕ → Option (List ℕ → ExprNode)
object_of w = if is_text w (codes "properties") then Some expr_node.Property else (if is_text w (codes "resource") then Some expr_node.Resource else None)

-- ---- comparisons, of which the longest counts

-- a comparison begins with one of these bytes
unfoldable pub compares : List ℕ → Bool
compares t = begins_with_byte 61 t || (begins_with_byte 33 t || (begins_with_byte 60 t || begins_with_byte 62 t))

-- `<` or `<=`, `>` or `>=`
unfoldable pub or_equal : Comparison → Comparison → List ℕ → Comparison × List ℕ
or_equal bare equal t = if begins_with_byte 61 (drop 1 t) then (equal, blanks_skipped (drop 1 (drop 1 t))) else (bare, blanks_skipped (drop 1 t))

-- the comparison at the beginning
unfoldable pub comparison : List ℕ → Outcome Comparison
comparison t =
    if begins_with_byte 61 t then (second 61 t >>= λ r. Ok (Equal, r))
    else if begins_with_byte 33 t then (second 61 t >>= λ r. Ok (NotEqual, r))
    else if begins_with_byte 60 t then Ok (or_equal Below AtMost t)
    else Ok (or_equal Above AtLeast t)

-- ---- items after the first; each turn takes a byte, so the count of bytes is enough

-- what stands between the items: `&&`, `||` or `,`
abbrev pub between : ℕ → List ℕ → Result (List ℕ) ExprStop
between c t = if c == 44 then expect c t else second c t

-- items and what stands between them, up to a byte that begins no separator
unfoldable pub chain : (List ℕ → Outcome ExprNode) → ℕ → ℕ → List ExprNode → List ℕ → Outcome (List ExprNode)
chain item c zero found t = Ok (found, t)
chain item c (suc k) found t = if begins_with_byte c t then (do
  r ← between c t
  x ← item r
  chain item c k (found ++ x.0 ∷ []) x.1) else Ok (found, t)

-- an access begins with a dot or a bracket
unfoldable pub access_at : List ℕ → Bool
access_at t = begins_with_byte 46 t || begins_with_byte 91 t

-- ---- the lines of the grammar, where `depth` more levels may nest

module _ (depth : ℕ) where
  unfoldable pub bracket_access : List ℕ → Outcome (List ℕ)
  bracket_access t = if depth == 0 then Err (TooDeep (length t)) else (do
    s ← string (blanks_skipped (drop 1 t))
    r ← expect 93 s.1
    Ok (s.0, r))

  unfoldable pub access : List ℕ → Outcome (List ℕ)
  access t = if begins_with_byte 46 t then read_name Field (blanks_skipped (drop 1 t)) else bracket_access t

  unfoldable pub accesses : ℕ → List texts.Text → List ℕ → Outcome (List texts.Text)
  accesses zero found t = Ok (found, t)
  accesses (suc k) found t = if access_at t then (access t >>= λ x. accesses k (found ++ x.0 ∷ []) x.1) else Ok (found, t)

  unfoldable pub first_access : List ℕ → Outcome (List ℕ)
  first_access t = if access_at t then access t else Err (Unexpected (length t))

  abbrev pub name_or_object_of : Option (List ℕ → ExprNode) → List ℕ → List ℕ → Outcome ExprNode
  name_or_object_of None w t = Ok (word_node w, t)
  name_or_object_of (Some make) w t = first_access t >>= λ f. Ok (make f.0, f.1)

  unfoldable pub name_or_object : List ℕ → Outcome ExprNode
  name_or_object t = read_name Name t >>= λ x. name_or_object_of (object_of x.0) x.0 x.1

  unfoldable pub primary : List ℕ → Outcome ExprNode
  primary t =
      if begins is_quote t then (string t >>= λ x. Ok (expr_node.Text x.0, x.1))
      else if begins_with_byte 45 t || begins is_digit t then (signed_number t >>= λ x. Ok (expr_node.Long x.0, x.1))
      else name_or_object t

  -- What nests is read; the text begins at the byte that nests it.
  module _ (inner : Nested → List ℕ → Outcome ExprNode) where
    unfoldable pub start : List ℕ → Outcome ExprNode
    start t =
        if begins_with_byte 40 t then (do
          x ← inner Choice t
          r ← expect 41 x.1
          Ok (x.0, r))
        else if begins_with_byte 91 t then (do
          x ← inner Items t
          r ← expect 93 x.1
          Ok (x.0, r))
        else primary t

    unfoldable pub atom : List ℕ → Outcome ExprNode
    atom t = do
      x ← start t
      fs ← accesses (length x.1) [] x.1
      Ok (access_of x.0 fs.0, fs.1)

    unfoldable pub operand : List ℕ → Outcome ExprNode
    operand t = if begins_with_byte 33 t then (inner Operand t >>= λ x. Ok (expr_node.Not x.0, x.1)) else atom t

    unfoldable pub compare : List ℕ → Outcome ExprNode
    compare t = do
      a ← operand t
      if compares a.1 then (do
        op ← comparison a.1
        b ← operand op.1
        Ok (expr_node.Compare op.0 a.0 b.0, b.1)) else Ok a

    unfoldable pub both : List ℕ → Outcome ExprNode
    both t = do
      x ← compare t
      xs ← chain compare 38 (length x.1) [] x.1
      Ok (and_of x.0 xs.0, xs.1)

    unfoldable pub either : List ℕ → Outcome ExprNode
    either t = do
      x ← both t
      xs ← chain both 124 (length x.1) [] x.1
      Ok (or_of x.0 xs.0, xs.1)

    unfoldable pub other_choice : List ℕ → Outcome ExprNode
    other_choice t = if begins_with_byte 58 t then inner Choice t else Err (Unexpected (length t))

    unfoldable pub choice : List ℕ → Outcome ExprNode
    choice t = do
      c ← either t
      if begins_with_byte 63 c.1 then (do
        a ← inner Choice c.1
        b ← other_choice a.1
        Ok (expr_node.Choice c.0 a.0 b.0, b.1)) else Ok c

    -- the items of a list, up to the bracket that closes it
    unfoldable pub items : List ℕ → Outcome ExprNode
    items t = if begins_with_byte 93 t then Ok (expr_node.List [], t) else (do
      x ← choice t
      xs ← chain choice 44 (length x.1) (x.0 ∷ []) x.1
      Ok (expr_node.List xs.0, xs.1))

    abbrev pub level : Nested → List ℕ → Outcome ExprNode
    level Choice = choice
    level Operand = operand
    level Items = items

-- what stands after the byte that nests it
unfoldable pub nesting : ℕ → Nested → List ℕ → Outcome ExprNode
nesting zero which t = Err (TooDeep (length t))
nesting (suc depth) which t = level depth (nesting depth) which (blanks_skipped (drop 1 t))

-- ---- options

-- the join text and the context, where they are given
abbrev pub Given : Type 0
Given = Option (List ℕ) × Option Context

-- `text` or `unsafe`
unfoldable pub context_word : List ℕ → Outcome Context
context_word t = if begins_with_byte 116 t then (literal (codes "text") t >>= λ r. Ok (Text, r)) else (literal (codes "unsafe") t >>= λ r. Ok (Unsafe, r))

-- `'text'` or `'unsafe'` with either mark
unfoldable pub context_string : List ℕ → Outcome Context
context_string t = if begins is_quote t then (do
  x ← context_word (drop 1 t)
  r ← expect (slice_index t 0) x.1
  Ok (x.0, r)) else Err (Unexpected (length t))

-- `join` and its string, `context` and its own
unfoldable pub join_option : List ℕ → Outcome (List ℕ)
join_option t = literal (codes "join") t >>= λ a. expect 61 (blanks_skipped a) >>= λ b. string b

-- `context` and the name of a context
unfoldable pub context_option : List ℕ → Outcome Context
context_option t = literal (codes "context") t >>= λ a. expect 61 (blanks_skipped a) >>= λ b. context_string b

-- an option that isn't given yet
unfoldable pub option : Given → List ℕ → Outcome Given
option given t =
    if is_none given.0 && begins_with_byte 106 t then (join_option t >>= λ x. Ok ((Some x.0, given.1), x.1))
    else if is_none given.1 && begins_with_byte 99 t then (context_option t >>= λ x. Ok ((given.0, Some x.0), x.1))
    else Err (Unexpected (length t))

-- each option once at most
unfoldable pub options : List ℕ → Outcome Given
options t = if begins_with_byte 64 t then (do
  o ← option (None, None) (blanks_skipped (drop 1 t))
  if begins_with_byte 44 o.1 then option o.0 (blanks_skipped (drop 1 o.1)) else Ok o) else Ok ((None, None), t)

-- nothing, or a choice in which `levels` levels may nest
unfoldable pub optional_choice : ℕ → List ℕ → Outcome (Option ExprNode)
optional_choice levels t = if length t == 0 || begins_with_byte 64 t then Ok (None, t) else (choice levels (nesting levels) t >>= λ x. Ok (Some x.0, x.1))

-- an expression of a tree and the options that are given
abbrev pub expr_of : Option ExprNode → Given → Expression
expr_of node given = record { node = node; join = given.0; context = given.1 }

-- the whole text, in which `levels` levels may nest
unfoldable pub expression_read : ℕ → List ℕ → Result Expression ExprStop
expression_read levels t = do
  x ← optional_choice levels (blanks_skipped t)
  o ← options x.1
  if length o.1 == 0 then Ok (expr_of x.0 o.0) else Err (Unexpected (length o.1))
