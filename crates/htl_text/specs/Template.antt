-- The pieces of a template, and the text that they write (HTL specification 1.4, "Expression Language"). `opening_len`, `plain_len`
-- and `plain_pieces` are needed by proofs and private functions alone; `Quotes`, `quotes_step` and `closing` say how the reading finds a closing "}", for which readers
-- have `Inside` of Spelling.antt.
use Rattle.std.specs.Prelude.{ℕ, zero, suc, ◌+◌, ◌-◌, Bool, false, ◌||◌, ◌&&◌, ◌==◌, if◌then◌else◌, List, [], ◌∷◌, ◌++◌, length, take, drop, codes, Option, Some, None, Result, Ok, Err, ◌≡◌, ◌≢◌, ◌<◌, ◌≤◌}
use Rattle.std.specs.List.{flat_map}
use Rattle.sp_base.specs.Bytes.{begins_with_byte}
use Rattle.htl_syntax.specs.declared.expression.Expression.{Expression}
use Rattle.htl_syntax.specs.declared.expression.ExprFault.{ExprFault}
use Rattle.htl_expr.specs.declared.scope.Scope.{Scope}
use Rattle.htl_syntax.specs.Fault.{expression_of}
use Rattle.htl_expr.specs.Value.{print}
use Rattle.htl_text.specs.declared.fault.RenderFault.{RenderFault}
use Rattle.htl_text.specs.declared.fault.RenderFault.TheVariants as render_fault
use Rattle.htl_text.specs.declared.fault.TextFault.{TextFault}
use Rattle.htl_text.specs.declared.fault.TextFault.TheVariants.{Unclosed, BadExpr, NoMemory}
use Rattle.htl_text.specs.declared.piece.TemplatePiece.{TemplatePiece}
use Rattle.htl_text.specs.declared.piece.TemplatePiece.TheVariants.{Plain, Value}
use Rattle.htl_text.specs.declared.quotes.Quotes.{Quotes}
use Rattle.htl_text.specs.declared.quotes.Quotes.TheVariants.{Outside, Inside, Escaped}

-- whether a text begins with "${", which opens an expression
unfoldable pub opens_expression : List ℕ → Bool
opens_expression [] = false
opens_expression (c ∷ t) = c == 36 && begins_with_byte 123 t

-- whether a text begins with "\${", which writes "${"
unfoldable pub escapes : List ℕ → Bool
escapes [] = false
escapes (c ∷ t) = c == 92 && opens_expression t

-- where the next byte stands: a quote mark opens quotes, the same mark closes them, and a backslash in them takes the next byte with it
abbrev pub quotes_step : Quotes → ℕ → Quotes
quotes_step Outside c = if c == 39 || c == 34 then Inside c else Outside
quotes_step (Inside mark) c = if c == mark then Outside else (if c == 92 then Escaped mark else Inside mark)
quotes_step (Escaped mark) c = Inside mark

-- a "}" outside quotes closes an expression
abbrev pub closes_expression : Quotes → ℕ → Bool
closes_expression Outside c = c == 125
closes_expression (Inside mark) c = false
closes_expression (Escaped mark) c = false

-- the place of the first byte that closes an expression, where this text begins at place n
unfoldable pub closing : Quotes → ℕ → List ℕ → Option ℕ
closing quotes n [] = None
closing quotes n (c ∷ t) = if closes_expression quotes c then Some n else closing (quotes_step quotes c) (n + 1) t

-- what stands between the braces as an expression, and the text after it
abbrev pub read_value : ℕ → List ℕ → Result Expression ExprFault → Result (Expression × List ℕ) TextFault
read_value place remainder (Ok e) = Ok (e, remainder)
read_value place remainder (Err fault) = Err (BadExpr place)

-- the same, by the place of the byte that closes it
abbrev pub closed_value : ℕ → List ℕ → Option ℕ → Result (Expression × List ℕ) TextFault
closed_value place inside None = Err (Unclosed place)
closed_value place inside (Some n) = read_value place (drop 1 (drop n inside)) (expression_of (take n inside))

-- the expression that "${" opens at a place of the template, and the text after its "}"
unfoldable pub value_at : ℕ → List ℕ → Result (Expression × List ℕ) TextFault
value_at place t = closed_value place (drop 2 t) (closing Outside 0 (drop 2 t))

-- plain text before pieces; no piece of plain text is empty, and no two stand side by side
abbrev pub pieces_after_plain : List ℕ → List TemplatePiece → List TemplatePiece
pieces_after_plain [] ps = ps
pieces_after_plain (c ∷ t) [] = Plain (c ∷ t) ∷ []
pieces_after_plain (c ∷ t) (Plain more ∷ ps) = Plain (c ∷ (t ++ more)) ∷ ps
pieces_after_plain (c ∷ t) (Value e ∷ ps) = Plain (c ∷ t) ∷ (Value e ∷ ps)

-- plain text before the pieces of the rest
abbrev pub with_plain : List ℕ → Result (List TemplatePiece) TextFault → Result (List TemplatePiece) TextFault
with_plain t (Ok ps) = Ok (pieces_after_plain t ps)
with_plain t (Err fault) = Err fault

-- pieces before others
abbrev pub before : List TemplatePiece → Result (List TemplatePiece) TextFault → Result (List TemplatePiece) TextFault
before prefix (Ok ps) = Ok (prefix ++ ps)
before prefix (Err fault) = Err fault

-- an expression before the pieces of the rest
abbrev pub with_expression : Result (Expression × List ℕ) TextFault → (List ℕ → Result (List TemplatePiece) TextFault) → Result (List TemplatePiece) TextFault
with_expression (Ok x) more = before (Value x.0 ∷ []) (more x.1)
with_expression (Err fault) more = Err fault

-- the pieces of a text at the end of a template of `all` bytes; the first `skip` bytes belong to the piece before
unfoldable pub template_pieces : ℕ → ℕ → List ℕ → Result (List TemplatePiece) TextFault
template_pieces all skip [] = Ok []
template_pieces all (suc skip) (c ∷ t) = template_pieces all skip t
template_pieces all zero (c ∷ t) =
    if opens_expression (c ∷ t) then with_expression (value_at (all - length (c ∷ t)) (c ∷ t)) (λ remainder. template_pieces all (length t - length remainder) t)
    else (if escapes (c ∷ t) then with_plain (codes "${") (template_pieces all 2 t)
    else with_plain (c ∷ []) (template_pieces all 0 t))

-- what a text is read as: its pieces, or its first fault
abbrev pub template_of : List ℕ → Result (List TemplatePiece) TextFault
template_of t = template_pieces (length t) 0 t

-- a fault of a text that begins at a place of another, by its place there
abbrev pub fault_at : ℕ → TextFault → TextFault
fault_at place (Unclosed n) = Unclosed (place + n)
fault_at place (BadExpr n) = BadExpr (place + n)
fault_at place NoMemory = NoMemory

-- what is read of a text that begins at a place of another
abbrev pub read_from_place : ℕ → Result (List TemplatePiece) TextFault → Result (List TemplatePiece) TextFault
read_from_place place (Ok ps) = Ok ps
read_from_place place (Err fault) = Err (fault_at place fault)

-- what a text is read as that begins at a place of another: its pieces, or its first fault
abbrev pub template_at : ℕ → List ℕ → Result (List TemplatePiece) TextFault
template_at place t = read_from_place place (template_of t)

-- how many bytes stand before the next "${"
unfoldable pub opening_len : List ℕ → ℕ
opening_len [] = 0
opening_len (c ∷ t) = if opens_expression (c ∷ t) then 0 else suc (opening_len t)

-- how many bytes stand before the next "${" or "\${"
unfoldable pub plain_len : List ℕ → ℕ
plain_len [] = 0
plain_len (c ∷ t) = if opens_expression (c ∷ t) || escapes (c ∷ t) then 0 else suc (plain_len t)

-- a text as one piece, or as none where it is empty
abbrev pub plain_pieces : List ℕ → List TemplatePiece
plain_pieces t = pieces_after_plain t []

-- what a piece writes
abbrev pub piece_text : Scope → TemplatePiece → List ℕ
piece_text scope (Plain t) = t
piece_text scope (Value e) = print scope e

-- the text of a template: what its pieces write, one after another
abbrev pub template_output : Scope → List TemplatePiece → List ℕ
template_output scope ps = flat_map (piece_text scope) ps

-- ---- what is written within the limit

-- a text is written after what stood there, within the limit
abbrev pub Appends : ℕ → List ℕ → List ℕ → List ℕ → Type 0
Appends most old more new = (new ≡ old ++ more) × (length new ≤ most)

-- it would go beyond the limit, unless memory lacks
abbrev pub RenderFailsAsTooLongIfMemory : ℕ → List ℕ → RenderFault → Type 0
RenderFailsAsTooLongIfMemory most text f = f ≢ render_fault.NoMemory → (f ≡ render_fault.TooLong) × (most < length text)
