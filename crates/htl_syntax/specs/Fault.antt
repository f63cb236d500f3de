-- What a text is read as, and the place where it leaves the grammar (`docs/htl/EXPRESSIONS.md`, "Faults"). `colon_letter`, `passes_colon`, `takes_colon` and `fault_place` are needed by `expression_of` and private functions alone.
use Rattle.std.specs.Prelude.{◌≡◌, ℕ, suc, ◌+◌, ◌-◌, ◌≤◌, Bool, true, false, nat_le, ◌&&◌, ◌||◌, ◌==◌, if◌then◌else◌, List, [], ◌∷◌, ◌++◌, length, take, drop, Result, Ok, Err}
use Rattle.sp_base.specs.Bytes.{begins_with_byte}
use Rattle.htl_syntax.specs.declared.stop.ExprStop.{ExprStop}
use Rattle.htl_syntax.specs.declared.stop.ExprStop.TheVariants as stop
use Rattle.htl_syntax.specs.declared.expression.Expression.{Expression}
use Rattle.htl_syntax.specs.declared.expression.ExprFault.{ExprFault}
use Rattle.htl_syntax.specs.declared.expression.ExprFault.TheVariants.{NoMemory, Unexpected, TooDeep}
use Rattle.htl_syntax.specs.Tokens.{begins}
use Rattle.htl_syntax.specs.Read.{expression_read}
use Rattle.htl_syntax.specs.Grammar.{nesting_limit, WholeWithin}

-- a colon and a letter, with which a field's name goes on
abbrev pub colon_letter : List ℕ
colon_letter = 58 ∷ 98 ∷ []

-- whether reading passes the colon, where a colon and a letter stand at the end
abbrev pub passes_colon : Result Expression ExprStop → Bool
passes_colon (Ok e) = true
passes_colon (Err stop.NoMemory) = false
passes_colon (Err (stop.Unexpected left)) = nat_le left 1
passes_colon (Err (stop.TooDeep left)) = false

-- whether a colon after a text may belong to a field's name, where `levels` levels may nest
abbrev pub takes_colon : ℕ → List ℕ → Bool
takes_colon levels t = passes_colon (expression_read levels (t ++ colon_letter))

-- where a colon may belong to a field's name, the byte after it is the one that doesn't fit
abbrev pub fault_place : ℕ → List ℕ → ℕ → ℕ
fault_place levels t place = if begins_with_byte 58 (drop place t) && takes_colon levels (take place t) then place + 1 else place

-- the answer of the reading, with its place counted from the beginning of the text
abbrev pub expression_answer : ℕ → List ℕ → Result Expression ExprStop → Result Expression ExprFault
expression_answer levels t (Ok e) = Ok e
expression_answer levels t (Err stop.NoMemory) = Err NoMemory
expression_answer levels t (Err (stop.Unexpected left)) = Err (Unexpected (fault_place levels t (length t - left)))
expression_answer levels t (Err (stop.TooDeep left)) = Err (TooDeep (length t - left))

-- what a text is read as
abbrev pub expression_of : List ℕ → Result Expression ExprFault
expression_of t = expression_answer nesting_limit t (expression_read nesting_limit t)

-- the expression was read, unless memory ran out
abbrev pub IsReadAs : Expression → Result Expression ExprFault → Type 0
IsReadAs e (Ok found) = found ≡ e
IsReadAs e (Err NoMemory) = Unit {0}
IsReadAs e (Err (Unexpected place)) = ⊥
IsReadAs e (Err (TooDeep place)) = ⊥

-- ---- the place of a fault: the first byte with which no expression goes on

-- both are empty, or begin with the same byte
abbrev pub SameHead : List ℕ → List ℕ → Type 0
SameHead [] [] = Unit {0}
SameHead [] (d ∷ z) = ⊥
SameHead (c ∷ r) [] = ⊥
SameHead (c ∷ r) (d ∷ z) = c ≡ d

-- the texts have the same bytes up to this one, and this one too, or both end here
pub record Agree (place : ℕ) (s t : List ℕ) : Type 0 where
  pub leading : take place t ≡ take place s
  pub here : SameHead (drop place s) (drop place t)

-- no text that is the same up to and with this byte, or ends here too, is an expression, where `levels` levels may nest
pub record HasNone (levels : ℕ) (s : List ℕ) (place : ℕ) : Type 0 where
  pub within : place ≤ length s
  pub none : (t : List ℕ) (e : Expression) → Agree place s t → WholeWithin levels t e → ⊥

-- some text that is the same up to and with this byte is one
pub record HasSome (levels : ℕ) (s : List ℕ) (place : ℕ) : Type 0 where
  pub text : List ℕ
  pub tree : Expression
  pub agree : Agree place s text
  pub whole : WholeWithin levels text tree

-- what stands before this byte is the prefix of an expression
pub record MayGoOn (levels : ℕ) (s : List ℕ) (place : ℕ) : Type 0 where
  pub more : List ℕ
  pub tree : Expression
  pub whole : WholeWithin levels (take place s ++ more) tree

-- the bytes that nest what stands after them: the brackets, "!" and "?"
abbrev pub nests : ℕ → Bool
nests c = c == 40 || (c == 91 || (c == 33 || c == 63))

-- The place is the first byte with which no expression goes on. Unexpected is a byte with which none goes on however many levels may nest;
-- too deep is a byte that nests, with which one goes on where one level more may nest.
abbrev pub IsExpressionFault : ExprFault → List ℕ → Type 0
IsExpressionFault NoMemory s = Unit {0}
IsExpressionFault (Unexpected place) s = MayGoOn nesting_limit s place × ((levels : ℕ) → HasNone levels s place)
IsExpressionFault (TooDeep place) s = MayGoOn nesting_limit s place × (HasNone nesting_limit s place × (HasSome (suc nesting_limit) s place × (begins nests (drop place s) ≡ true)))

-- faults of a text are one
abbrev pub AreOneFaultIfBothAre : List ℕ → ExprFault → ExprFault → Type 0
AreOneFaultIfBothAre text f g = IsExpressionFault f text → IsExpressionFault g text → f ≡ g
