-- The grammar of an expression, line by line. A text is read from a token on, up to the next token (HTL specification 1.4, "Expression Language").
use Rattle.std.specs.Prelude.{◌≡◌, ◌+◌, ◌*◌, ◌-◌, ℕ, ℤ, suc, Bool, true, false, List, [], ◌∷◌, ◌++◌, Option, Some, None, ◌==◌, codes}
use Rattle.sp_base.specs.Texts as texts
use Rattle.sp_base.specs.Bytes.{begins_with_byte, is_digit}
use Rattle.htl_syntax.specs.declared.node.ExprNode.{ExprNode}
use Rattle.htl_syntax.specs.declared.node.ExprNode.TheVariants as expr_node
use Rattle.htl_syntax.specs.declared.node.Comparison.{Comparison}
use Rattle.htl_syntax.specs.declared.node.Comparison.TheVariants.{Equal, NotEqual, Below, Above, AtMost, AtLeast}
use Rattle.htl_syntax.specs.declared.tokens.NameKind.{NameKind}
use Rattle.htl_syntax.specs.declared.tokens.NameKind.TheVariants.{Name, Field}
use Rattle.htl_syntax.specs.declared.expression.Context.{Context}
use Rattle.htl_syntax.specs.declared.expression.Context.TheVariants.{Text, Unsafe}
use Rattle.htl_syntax.specs.declared.expression.Expression.{Expression}
use Rattle.htl_syntax.specs.Tokens.{blanks_skipped, begins, goes_on, is_first, is_quote, unescape, expression_digit_fits, limit, signed_value}
use Rattle.htl_syntax.specs.Read.{access_of, and_of, or_of, word_node, object_of}

-- ---- tokens, each with the blanks after it

-- a byte
pub record Byte (c : ℕ) (s r : List ℕ) : Type 0 where
  pub after : List ℕ
  pub parts : s ≡ c ∷ after
  pub rest : r ≡ blanks_skipped after

-- an operator of two bytes
pub record Operator (c d : ℕ) (s r : List ℕ) : Type 0 where
  pub after : List ℕ
  pub parts : s ≡ c ∷ d ∷ after
  pub rest : r ≡ blanks_skipped after

-- an operator of one byte that `=` would make longer
pub record Bare (c : ℕ) (s r : List ℕ) : Type 0 where
  pub after : List ℕ
  pub parts : s ≡ c ∷ after
  pub longest : begins_with_byte 61 after ≡ false
  pub rest : r ≡ blanks_skipped after

-- each byte goes on with the name, where `after` stands after it
abbrev pub Passes : NameKind → List ℕ → List ℕ → Type 0
Passes kind [] after = Unit {0}
Passes kind (c ∷ w) after = (goes_on kind (c ∷ (w ++ after)) ≡ true) × Passes kind w after

-- the longest name at the beginning
pub record NameToken (kind : NameKind) (s w r : List ℕ) : Type 0 where
  pub after : List ℕ
  pub parts : s ≡ w ++ after
  pub first : begins is_first s ≡ true
  pub passes : Passes kind w after
  pub longest : goes_on kind after ≡ false
  pub rest : r ≡ blanks_skipped after

-- what stands after the mark that opens a string, up to the mark that closes it
pub data StringBody (mark : ℕ) : List ℕ → List ℕ → List ℕ → Type 0 where
  closes : {after : List ℕ} → StringBody mark (mark ∷ after) [] after
  plain : {c : ℕ} {s w after : List ℕ} → (c == mark) ≡ false → (c == 92) ≡ false → StringBody mark s w after → StringBody mark (c ∷ s) (c ∷ w) after
  escape : {c d : ℕ} {s w after : List ℕ} → unescape c ≡ Some d → StringBody mark s w after → StringBody mark (92 ∷ c ∷ s) (d ∷ w) after

-- a string between two marks of one kind, and the characters that it stands for
pub record String (s w r : List ℕ) : Type 0 where
  pub mark : ℕ
  pub inside : List ℕ
  pub after : List ℕ
  pub parts : s ≡ mark ∷ inside
  pub is_mark : is_quote mark ≡ true
  pub body : StringBody mark inside w after
  pub rest : r ≡ blanks_skipped after

-- the digits of a number that is at most `most`, as many as fit, after those that make m
pub data Digits (most : ℕ) : ℕ → List ℕ → ℕ → List ℕ → Type 0 where
  none : {m : ℕ} {s : List ℕ} → expression_digit_fits most m s ≡ false → Digits most m s m s
  digit : {m k c : ℕ} {s after : List ℕ} → expression_digit_fits most m (c ∷ s) ≡ true → Digits most (m * 10 + (c - 48)) s k after → Digits most m (c ∷ s) k after

-- a minus or none
abbrev pub Sign : Bool → List ℕ → List ℕ → Type 0
Sign true s t = s ≡ 45 ∷ t
Sign false s t = s ≡ t

-- the longest number of 64 bits at the beginning
pub record Number (s : List ℕ) (k : ℤ) (r : List ℕ) : Type 0 where
  pub negative : Bool
  pub magnitude : ℕ
  pub inside : List ℕ
  pub after : List ℕ
  pub sign : Sign negative s inside
  pub first : begins is_digit inside ≡ true
  pub body : Digits (limit negative) 0 inside magnitude after
  pub value : k ≡ signed_value negative magnitude
  pub rest : r ≡ blanks_skipped after

-- "==" | "!=" | "<" | ">" | "<=" | ">="
pub data Compares (s : List ℕ) : Comparison → List ℕ → Type 0 where
  equal : {r : List ℕ} → Operator 61 61 s r → Compares s Equal r
  not_equal : {r : List ℕ} → Operator 33 61 s r → Compares s NotEqual r
  at_most : {r : List ℕ} → Operator 60 61 s r → Compares s AtMost r
  at_least : {r : List ℕ} → Operator 62 61 s r → Compares s AtLeast r
  below : {r : List ℕ} → Bare 60 s r → Compares s Below r
  above : {r : List ℕ} → Bare 62 s r → Compares s Above r

-- ---- the lines

-- "." field | "[" string "]", where brackets may nest `depth` more levels
pub data Access : ℕ → List ℕ → List ℕ → List ℕ → Type 0 where
  field : {depth : ℕ} {s r1 f r : List ℕ} → Byte 46 s r1 → NameToken Field r1 f r → Access depth s f r
  bracket : {depth : ℕ} {s r1 f r2 r : List ℕ} → Byte 91 s r1 → String r1 f r2 → Byte 93 r2 r → Access (suc depth) s f r

-- one access after another
pub data Accesses (depth : ℕ) : List ℕ → List texts.Text → List ℕ → Type 0 where
  none : {r : List ℕ} → Accesses depth r [] r
  more : {s f r1 : List ℕ} {fs : List texts.Text} {r : List ℕ} → Access depth s f r1 → Accesses depth r1 fs r → Accesses depth s (f ∷ fs) r

-- what stands between two items
pub data Separator : Type 0 where
  And : Separator
  Or : Separator
  Comma : Separator

-- how a separator is spelled
abbrev pub Separates : Separator → List ℕ → List ℕ → Type 0
Separates And s r = Operator 38 38 s r
Separates Or s r = Operator 124 124 s r
Separates Comma s r = Byte 44 s r

-- the parts of an expression, from the loosest to the tightest; items stand in a list literal
pub data GrammarPart : Type 0 where
  Choice : GrammarPart
  Either : GrammarPart
  Both : GrammarPart
  Compare : GrammarPart
  Operand : GrammarPart
  Atom : GrammarPart
  Start : GrammarPart
  Items : GrammarPart

-- the parts that a separator stands between
abbrev pub part_of : Separator → GrammarPart
part_of And = Compare
part_of Or = Both
part_of Comma = Choice

-- `Reads part depth text tree rest`: the text begins with the part, which stands for the tree, and the rest is what is left after it;
-- `depth` more levels may nest. `More` reads the items after the first, each with its separator before it.
mutual
  pub data Reads : GrammarPart → ℕ → List ℕ → ExprNode → List ℕ → Type 0 where
    string : {depth : ℕ} {s w r : List ℕ} → String s w r → Reads Start depth s (expr_node.Text w) r
    number : {depth : ℕ} {s : List ℕ} {k : ℤ} {r : List ℕ} → Number s k r → Reads Start depth s (expr_node.Long k) r
    name : {depth : ℕ} {s w r : List ℕ} → NameToken Name s w r → object_of w ≡ None → Reads Start depth s (word_node w) r
    object : {depth : ℕ} {s w r1 f r : List ℕ} {make : List ℕ → ExprNode} → NameToken Name s w r1 → object_of w ≡ Some make → Access depth r1 f r → Reads Start depth s (make f) r
    inside : {depth : ℕ} {s r1 r2 r : List ℕ} {e : ExprNode} → Byte 40 s r1 → Reads Choice depth r1 e r2 → Byte 41 r2 r → Reads Start (suc depth) s e r
    list : {depth : ℕ} {s r1 r2 r : List ℕ} {e : ExprNode} → Byte 91 s r1 → Reads Items depth r1 e r2 → Byte 93 r2 r → Reads Start (suc depth) s e r
    no_items : {depth : ℕ} {r : List ℕ} → Reads Items depth r (expr_node.List []) r
    items : {depth : ℕ} {s r1 r : List ℕ} {e : ExprNode} {es : List ExprNode} → Reads Choice depth s e r1 → More Comma depth r1 es r → Reads Items depth s (expr_node.List (e ∷ es)) r
    atom : {depth : ℕ} {s r1 r : List ℕ} {e : ExprNode} {fs : List texts.Text} → Reads Start depth s e r1 → Accesses depth r1 fs r → Reads Atom depth s (access_of e fs) r
    not : {depth : ℕ} {s r1 r : List ℕ} {e : ExprNode} → Byte 33 s r1 → Reads Operand depth r1 e r → Reads Operand (suc depth) s (expr_node.Not e) r
    bare : {depth : ℕ} {s r : List ℕ} {e : ExprNode} → Reads Atom depth s e r → Reads Operand depth s e r
    compare : {depth : ℕ} {s r1 r2 r : List ℕ} {a b : ExprNode} {op : Comparison} → Reads Operand depth s a r1 → Compares r1 op r2 → Reads Operand depth r2 b r → Reads Compare depth s (expr_node.Compare op a b) r
    single : {depth : ℕ} {s r : List ℕ} {e : ExprNode} → Reads Operand depth s e r → Reads Compare depth s e r
    both : {depth : ℕ} {s r1 r : List ℕ} {e : ExprNode} {es : List ExprNode} → Reads Compare depth s e r1 → More And depth r1 es r → Reads Both depth s (and_of e es) r
    either : {depth : ℕ} {s r1 r : List ℕ} {e : ExprNode} {es : List ExprNode} → Reads Both depth s e r1 → More Or depth r1 es r → Reads Either depth s (or_of e es) r
    choice : {depth : ℕ} {s r1 r2 r3 r4 r : List ℕ} {c a b : ExprNode} → Reads Either (suc depth) s c r1 → Byte 63 r1 r2 → Reads Choice depth r2 a r3 → Byte 58 r3 r4 → Reads Choice depth r4 b r → Reads Choice (suc depth) s (expr_node.Choice c a b) r
    only : {depth : ℕ} {s r : List ℕ} {e : ExprNode} → Reads Either depth s e r → Reads Choice depth s e r

  pub data More : Separator → ℕ → List ℕ → List ExprNode → List ℕ → Type 0 where
    end : {sep : Separator} {depth : ℕ} {r : List ℕ} → More sep depth r [] r
    more : {sep : Separator} {depth : ℕ} {s r1 r2 r : List ℕ} {e : ExprNode} {es : List ExprNode} → Separates sep s r1 → Reads (part_of sep) depth r1 e r2 → More sep depth r2 es r → More sep depth s (e ∷ es) r

-- ---- options

-- a word, with the blanks after it
pub record Literal (w s r : List ℕ) : Type 0 where
  pub after : List ℕ
  pub parts : s ≡ w ++ after
  pub rest : r ≡ blanks_skipped after

-- the names of the contexts
abbrev pub context_text : Context → List ℕ
context_text Text = codes "text"
context_text Unsafe = codes "unsafe"

-- the name of a context between two marks of one kind
pub record ContextString (s : List ℕ) (c : Context) (r : List ℕ) : Type 0 where
  pub mark : ℕ
  pub after : List ℕ
  pub parts : s ≡ mark ∷ (context_text c ++ mark ∷ after)
  pub is_mark : is_quote mark ≡ true
  pub rest : r ≡ blanks_skipped after

-- "join" "=" string
pub record Join (s w r : List ℕ) : Type 0 where
  pub after_literal : List ℕ
  pub after_sign : List ℕ
  pub word : Literal (codes "join") s after_literal
  pub sign : Byte 61 after_literal after_sign
  pub value : String after_sign w r

-- "context" "=" ('text' | 'unsafe')
pub record InContext (s : List ℕ) (c : Context) (r : List ℕ) : Type 0 where
  pub after_literal : List ℕ
  pub after_sign : List ℕ
  pub word : Literal (codes "context") s after_literal
  pub sign : Byte 61 after_literal after_sign
  pub value : ContextString after_sign c r

-- "@" and each option once at most, up to the text's end
pub data Options : List ℕ → Option (List ℕ) → Option Context → Type 0 where
  none : Options [] None None
  join : {s r w : List ℕ} → Byte 64 s r → Join r w [] → Options s (Some w) None
  context : {s r : List ℕ} {c : Context} → Byte 64 s r → InContext r c [] → Options s None (Some c)
  join_context : {s r1 w r2 r3 : List ℕ} {c : Context} → Byte 64 s r1 → Join r1 w r2 → Byte 44 r2 r3 → InContext r3 c [] → Options s (Some w) (Some c)
  context_join : {s r1 r2 r3 w : List ℕ} {c : Context} → Byte 64 s r1 → InContext r1 c r2 → Byte 44 r2 r3 → Join r3 w [] → Options s (Some w) (Some c)

-- how many levels may nest
abbrev pub nesting_limit : ℕ
nesting_limit = 32

-- a choice in which `levels` levels may nest, or nothing
abbrev pub TreeOrNothing : ℕ → List ℕ → Option ExprNode → List ℕ → Type 0
TreeOrNothing levels s None r = r ≡ s
TreeOrNothing levels s (Some e) r = Reads Choice levels s e r

-- the expression of a whole text in which `levels` levels may nest
pub record WholeWithin (levels : ℕ) (s : List ℕ) (e : Expression) : Type 0 where
  pub after_tree : List ℕ
  pub tree : TreeOrNothing levels (blanks_skipped s) e.node after_tree
  pub options : Options after_tree e.join e.context

-- the expression of a whole text
abbrev pub Whole : List ℕ → Expression → Type 0
Whole s e = WholeWithin nesting_limit s e
