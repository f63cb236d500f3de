-- A template's pieces as a relation between whole texts, beside the reading from left to right (HTL specification 1.4, "Expression Language").
use Rattle.std.specs.Prelude.{◌≡◌, ◌==◌, ℕ, true, false, List, [], ◌∷◌, ◌++◌, length, codes}
use Rattle.htl_syntax.specs.declared.expression.Expression.{Expression}
use Rattle.htl_syntax.specs.Grammar.{Whole}
use Rattle.htl_syntax.specs.Tokens.{is_quote}
use Rattle.htl_text.specs.declared.fault.TextFault.{TextFault}
use Rattle.htl_text.specs.declared.fault.TextFault.TheVariants.{Unclosed, BadExpr, NoMemory}
use Rattle.htl_text.specs.declared.piece.TemplatePiece.{TemplatePiece}
use Rattle.htl_text.specs.declared.piece.TemplatePiece.TheVariants.{Value}
use Rattle.htl_text.specs.Template.{opens_expression, escapes, pieces_after_plain}

-- what stands after a quote mark, up to and with the same mark; a backslash takes the next byte with it
pub data Quotation (mark : ℕ) : List ℕ → Type 0 where
  closes : Quotation mark (mark ∷ [])
  other : {c : ℕ} {t : List ℕ} → (c == mark) ≡ false → (c == 92) ≡ false → Quotation mark t → Quotation mark (c ∷ t)
  escape : {c : ℕ} {t : List ℕ} → Quotation mark t → Quotation mark (92 ∷ c ∷ t)

-- what may stand between the braces: whole strings, and other bytes than "}"
pub data Inside : List ℕ → Type 0 where
  nothing : Inside []
  byte : {c : ℕ} {t : List ℕ} → (c == 125) ≡ false → is_quote c ≡ false → Inside t → Inside (c ∷ t)
  string : {mark : ℕ} {w t : List ℕ} → is_quote mark ≡ true → Quotation mark w → Inside t → Inside (mark ∷ (w ++ t))

-- the pieces that stand in a text before a rest; no two of plain text stand side by side
pub data SpellsTemplate : List ℕ → List TemplatePiece → List ℕ → Type 0 where
  end : {rest : List ℕ} → SpellsTemplate rest [] rest
  plain : {c : ℕ} {text rest : List ℕ} {ps : List TemplatePiece} → opens_expression (c ∷ text) ≡ false → escapes (c ∷ text) ≡ false → SpellsTemplate text ps rest → SpellsTemplate (c ∷ text) (pieces_after_plain (c ∷ []) ps) rest
  escape : {text rest : List ℕ} {ps : List TemplatePiece} → SpellsTemplate text ps rest → SpellsTemplate (92 ∷ 36 ∷ 123 ∷ text) (pieces_after_plain (codes "${") ps) rest
  value : {inside text rest : List ℕ} {e : Expression} {ps : List TemplatePiece} → Inside inside → Whole inside e → SpellsTemplate text ps rest → SpellsTemplate (36 ∷ 123 ∷ (inside ++ 125 ∷ text)) (Value e ∷ ps) rest

-- no "}" closes what stands after "${"
abbrev pub NeverCloses : List ℕ → Type 0
NeverCloses after_opening = (inside text : List ℕ) → after_opening ≡ inside ++ 125 ∷ text → Inside inside → ⊥

-- what stands after "${" up to its "}" is no expression
pub record HasNoExpr (after_opening : List ℕ) : Type 0 where
  pub inside : List ℕ
  pub text : List ℕ
  pub parts : after_opening ≡ inside ++ 125 ∷ text
  pub closed : Inside inside
  pub none : (e : Expression) → Whole inside e → ⊥

-- the fault of an expression by its place and by what stands after its "${"
abbrev pub Faults : TextFault → ℕ → List ℕ → Type 0
Faults (Unclosed n) place after_opening = (n ≡ place) × NeverCloses after_opening
Faults (BadExpr n) place after_opening = (n ≡ place) × HasNoExpr after_opening
Faults NoMemory place after_opening = ⊥

-- the first fault of a text: that of an expression which opens after pieces
pub record IsFirstOpening (fault : TextFault) (text : List ℕ) : Type 0 where
  pub prefix : List ℕ
  pub after_opening : List ℕ
  pub ps : List TemplatePiece
  pub parts : text ≡ prefix ++ 36 ∷ 123 ∷ after_opening
  pub spelling : SpellsTemplate text ps (36 ∷ 123 ∷ after_opening)
  pub faulty : Faults fault (length prefix) after_opening
