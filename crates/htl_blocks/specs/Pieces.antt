-- A list of pieces, as it stands for parts.
use Rattle.std.specs.Prelude.{ℕ, Bool, true, false, List, [], ◌∷◌, ◌++◌, length, Option, Some, None, ◌≡◌, ◌≤◌}
use Rattle.std.specs.List.{count_by, flat_map, fold, slice_index_or, sum_by}
use Rattle.sp_base.specs.Texts.{Text}
use Rattle.sp_base.specs.Limits.{most_rendered_bytes}
use Rattle.htl_expr.specs.Bindings.{Bindings}
use Rattle.htl_expr.specs.Value.{list_in}
use Rattle.htl_blocks.specs.declared.piece.Round.{Round}
use Rattle.htl_blocks.specs.declared.piece.Piece.{Piece}
use Rattle.htl_blocks.specs.declared.piece.Piece.TheVariants as piece
use Rattle.htl_blocks.specs.Parts.{Part, text_parts, inclusions, rounds, text_of_parts}
use Rattle.htl_blocks.specs.Parts as part
use Rattle.htl_blocks.specs.Written.{statement_value, with_variable}
use Rattle.htl_blocks.specs.Refused.{most_inclusions, most_rounds}

-- the items of a list; what is no list has none
abbrev pub items_in : Option (List Text) → List Text
items_in None = []
items_in (Some items) = items

-- the item of a round
abbrev pub item_of : Bindings → Round → List ℕ
item_of scope round = slice_index_or (items_in (list_in (statement_value scope round.list.now))) round.index []

-- a round's item as a variable
abbrev pub with_round : Bindings → Round → Bindings
with_round scope round = with_variable scope round.name.now (item_of scope round)

-- what the expressions see in rounds of which each stands in the one before
abbrev pub within : Bindings → List Round → Bindings
within scope rounds = fold with_round scope rounds

-- the parts that a piece stands for
abbrev pub piece_parts : Bindings → Piece → List Part
piece_parts scope (piece.Text t) = text_parts t
piece_parts scope (piece.Script name frame) = part.Script name (within scope frame.rounds).vars ∷ []
piece_parts scope (piece.Resource name) = part.Resource name ∷ []

-- the parts that pieces stand for
abbrev pub pieces_parts : Bindings → List Piece → List Part
pieces_parts scope pieces = flat_map (piece_parts scope) pieces

-- pieces with a text after them, which is no piece where it is empty
abbrev pub with_text_piece : List Piece → List ℕ → List Piece
with_text_piece pieces [] = pieces
with_text_piece pieces (c ∷ t) = pieces ++ piece.Text (c ∷ t) ∷ []

-- how many bytes of text a piece has
abbrev pub piece_len : Piece → ℕ
piece_len (piece.Text t) = length t
piece_len (piece.Script name frame) = 0
piece_len (piece.Resource name) = 0

-- how many bytes of text pieces have
abbrev pub text_len : List Piece → ℕ
text_len pieces = sum_by piece_len pieces

-- whether a piece is put in from elsewhere
abbrev pub puts_in : Piece → Bool
puts_in (piece.Text t) = false
puts_in (piece.Script name frame) = true
puts_in (piece.Resource name) = true

-- how many pieces are put in from elsewhere
abbrev pub inclusion_count : List Piece → ℕ
inclusion_count pieces = count_by puts_in pieces

-- so many bytes of text pieces have, and so many of them are put in from elsewhere, both within their limits
abbrev pub AreCounted : List Piece → ℕ → ℕ → Type 0
AreCounted pieces len included = (len ≡ text_len pieces) × (len ≤ most_rendered_bytes) × (included ≡ inclusion_count pieces) × (included ≤ most_inclusions)

-- what the pieces of a script's text are seen as: what they were made for, what they stand for, and how often the contents of lists stood
pub record ScriptText : Type 0 where
  pub scope : Bindings
  pub parts : List Part
  pub rounds : ℕ

-- the pieces stand for these parts, of which this is kept, and the rounds are counted
abbrev pub StandsForParts : Bindings → (List Part → List Part) → List Part → ScriptText → Type 0
StandsForParts scope kept parts text = (text.scope ≡ scope) × (text.parts ≡ kept parts) × (text.rounds ≡ rounds parts)

-- nothing of it is above its limit
abbrev pub IsWithinLimits : ScriptText → Type 0
IsWithinLimits text = (length (text_of_parts text.parts) ≤ most_rendered_bytes) × (inclusions text.parts ≤ most_inclusions) × (text.rounds ≤ most_rounds)
