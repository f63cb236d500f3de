-- How far the texts of two items were compared. Only proofs and private functions need this.
use Rattle.std.specs.Prelude.{◌≡◌, ◌<◌, ◌≤◌, ℕ, false, List, [], ◌++◌, Option, None, Some, codes, drop, get_or, length, nat_eq, take}
use Rattle.std.specs.Cmp.Lexicographic.{pointwise}
use Rattle.sp_base.specs.Texts.{Text}
use Rattle.htl_expr.specs.declared.cursor.Cursor.{Cursor}
use Rattle.htl_expr.specs.declared.pieces.ItemPiece.{ItemPiece}
use Rattle.htl_expr.specs.Bindings.{Bindings}
use Rattle.htl_expr.specs.Pieces.{item_piece_text, piece_texts, with_commas}

-- a piece's text with its comma, behind so many bytes of both
abbrev pub piece_left : Text → ℕ → List ℕ
piece_left text bytes = drop bytes (codes "," ++ text)

-- the same of a piece by its text for a resource
abbrev pub item_piece_left : Bindings → ItemPiece → ℕ → List ℕ
item_piece_left scope piece bytes = piece_left (item_piece_text scope piece) bytes

-- the texts of pieces with a comma before each, behind a cursor
abbrev pub left_behind : List Text → Cursor → List ℕ
left_behind texts cursor = drop cursor.bytes (with_commas (drop cursor.place texts))

-- the piece at a cursor's place, behind the cursor
abbrev pub piece_behind : List Text → Cursor → List ℕ
piece_behind texts cursor = piece_left (get_or texts cursor.place []) cursor.bytes

-- what is left of an item behind a cursor, by the texts of its pieces for a resource
abbrev pub item_left_behind : Bindings → List ItemPiece → Cursor → List ℕ
item_left_behind scope pieces cursor = left_behind (piece_texts scope pieces) cursor

-- the same of the piece at the cursor's place
abbrev pub item_piece_behind : Bindings → List ItemPiece → Cursor → List ℕ
item_piece_behind scope pieces cursor = piece_behind (piece_texts scope pieces) cursor

-- a cursor stands before a byte of the piece at its place, or at the end
abbrev pub StandsIn : List Text → Cursor → Type 0
StandsIn texts cursor = cursor.bytes ≤ length (get_or texts cursor.place [])

-- two texts are the same for so many bytes, one at least, or they aren't the same, whatever follows them
abbrev pub AreSameFor : Option ℕ → List ℕ → List ℕ → Type 0
AreSameFor (Some n) xs ys = (0 < n) × (n ≤ length xs) × (n ≤ length ys) × (take n xs ≡ take n ys)
AreSameFor None xs ys = (us vs : List ℕ) → pointwise nat_eq (xs ++ us) (ys ++ vs) ≡ false

-- a cursor that moved on by so many bytes
abbrev pub MovesOn : List Text → Cursor → ℕ → Cursor → Type 0
MovesOn texts old more new = StandsIn texts new × (left_behind texts new ≡ drop more (left_behind texts old))

-- Two items are compared up to their cursors: so many bytes of each are left, and the items are the same where these are.
pub record AreComparedUpTo (xs ys : List Text) (first second : Cursor) (left : ℕ) : Type 0 where
  pub stands : StandsIn xs first
  pub stands_other : StandsIn ys second
  pub as_many : length (left_behind xs first) ≡ left
  pub as_many_other : length (left_behind ys second) ≡ left
  pub same : pointwise nat_eq (left_behind xs first) (left_behind ys second) ≡ pointwise nat_eq (with_commas xs) (with_commas ys)
