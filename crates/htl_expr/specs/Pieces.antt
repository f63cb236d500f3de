-- The pieces of which the items of list literals are put together. Only proofs and private functions need this.
use Rattle.std.specs.Prelude.{◌≡◌, ◌<◌, ◌≤◌, ℕ, false, List, [], ◌∷◌, ◌++◌, codes, flat_map, length, get_or, map, nat_eq, take}
use Rattle.std.specs.Fmt.{signed_decimal}
use Rattle.std.specs.Cmp.Lexicographic.{pointwise}
use Rattle.sp_base.specs.Texts.{Text}
use Rattle.htl_expr.specs.declared.pieces.ItemPiece.{ItemPiece}
use Rattle.htl_expr.specs.declared.pieces.ItemPiece.TheVariants as piece
use Rattle.htl_expr.specs.Bindings.{Bindings}
use Rattle.htl_expr.specs.Print.{plain}
use Rattle.htl_expr.specs.Value.{property}

-- the text of a piece for a resource
abbrev pub item_piece_text : Bindings → ItemPiece → List ℕ
item_piece_text scope (piece.Property name) = plain (codes ",") (property scope name.now)
item_piece_text scope (piece.Text text) = text.now
item_piece_text scope (piece.Long n) = signed_decimal n

-- the texts of pieces
abbrev pub piece_texts : Bindings → List ItemPiece → List Text
piece_texts scope pieces = map (item_piece_text scope) pieces

-- texts with a comma before each
abbrev pub with_commas : List Text → List ℕ
with_commas texts = flat_map (λ next. codes "," ++ next) texts

-- an item's text is put together of these pieces, of which there is one at least
abbrev pub AreItemPieces : Bindings → List ItemPiece → List ℕ → Type 0
AreItemPieces scope pieces text = codes "," ++ text ≡ with_commas (piece_texts scope pieces)

-- each text is put together of its pieces
abbrev pub HavePieces : Bindings → List (List ItemPiece) → List Text → Type 0
HavePieces scope [] texts = texts ≡ []
HavePieces scope (pieces ∷ items) [] = ⊥
HavePieces scope (pieces ∷ items) (text ∷ texts) = AreItemPieces scope pieces text × HavePieces scope items texts

-- the texts before this place are the same
abbrev pub AgreeUpTo : List Text → List Text → ℕ → Type 0
AgreeUpTo xs ys place = (place ≤ length xs) × (place ≤ length ys) × (take place xs ≡ take place ys)

-- the texts at a place differ, where both have one there
abbrev pub DifferAt : List Text → List Text → ℕ → Type 0
DifferAt xs ys place = place < length xs → place < length ys → pointwise nat_eq (get_or xs place []) (get_or ys place []) ≡ false

-- both have an item at a place, of as many bytes
abbrev pub AreAsLongAt : Bindings → List ItemPiece → List ItemPiece → ℕ → Type 0
AreAsLongAt scope a b place = (place < length a) × (place < length b) × (length (get_or (piece_texts scope a) place []) ≡ length (get_or (piece_texts scope b) place []))
