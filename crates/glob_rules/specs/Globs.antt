-- What a glob matches (Adobe Dispatcher manual, "Designing Patterns for glob Properties"): texts, as lists of their characters.
use Rattle.std.specs.Prelude.{◌≡◌, ℕ, Bool, true, false, not, nat_le, ◌==◌, ◌&&◌, ◌||◌, if◌then◌else◌, List, [], ◌∷◌, ◌++◌}
use Rattle.std.specs.List.{list_any}
use Rattle.glob_rules.specs.declared.piece.GlobRange.{GlobRange}
use Rattle.glob_rules.specs.declared.piece.GlobClass.{GlobClass}
use Rattle.glob_rules.specs.declared.piece.GlobPiece.{GlobPiece}
use Rattle.glob_rules.specs.declared.piece.GlobPiece.TheVariants.{Star, AnyChar, Literal, Class}

-- a range has both its ends
abbrev pub in_glob_range : ℕ → GlobRange → Bool
in_glob_range c range = nat_le range.first c && nat_le c range.last

-- a class has the characters of its ranges; a negated one all others
abbrev pub in_glob_class : ℕ → GlobClass → Bool
in_glob_class c class = if class.negated then not (list_any (in_glob_range c) class.ranges) else list_any (in_glob_range c) class.ranges

-- whether a piece stands for one character, and for this one
abbrev pub stands_for : GlobPiece → ℕ → Bool
stands_for Star c = false
stands_for AnyChar c = true
stands_for (Literal d) c = c == d
stands_for (Class class) c = in_glob_class c class

-- the piece is a star
abbrev pub is_star : GlobPiece → Bool
is_star Star = true
is_star _ = false

-- A star matches any run of characters, and each other piece one character that it stands for.
pub data Matches : List GlobPiece → List ℕ → Type 0 where
  nothing : Matches [] []
  star : {pieces : List GlobPiece} {cs rest : List ℕ} (run : List ℕ) → cs ≡ run ++ rest → Matches pieces rest → Matches (Star ∷ pieces) cs
  one : {piece : GlobPiece} {pieces : List GlobPiece} {c : ℕ} {cs : List ℕ} → stands_for piece c ≡ true → Matches pieces cs → Matches (piece ∷ pieces) (c ∷ cs)

-- The same as a test.

-- no character is left
abbrev pub is_empty_text : List ℕ → Bool
is_empty_text [] = true
is_empty_text (c ∷ cs) = false

-- whether a test holds of the characters from some place on
abbrev pub somewhere : (List ℕ → Bool) → List ℕ → Bool
somewhere test [] = test []
somewhere test (c ∷ cs) = test (c ∷ cs) || somewhere test cs

-- whether a piece stands for the first character, and a test holds of those after it
abbrev pub at_first : GlobPiece → (List ℕ → Bool) → List ℕ → Bool
at_first piece test [] = false
at_first piece test (c ∷ cs) = stands_for piece c && test cs

-- whether a piece takes a run of characters (a star any, another piece the first alone), and a test holds of those after it
abbrev pub after_piece : GlobPiece → (List ℕ → Bool) → List ℕ → Bool
after_piece piece test cs = if is_star piece then somewhere test cs else at_first piece test cs

-- the glob matches the characters, from the first to the last
unfoldable pub is_match : List GlobPiece → List ℕ → Bool
is_match [] cs = is_empty_text cs
is_match (piece ∷ pieces) cs = after_piece piece (is_match pieces) cs
