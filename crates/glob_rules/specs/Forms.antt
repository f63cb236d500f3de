-- What the forms of globs promise: a glob that is a text, or a text with a star at one end, is compared as bytes.
-- A reader of what a glob matches needs none of it.
use Rattle.std.specs.Prelude.{◌≡◌, ◌≢◌, ℕ, List, [], ◌∷◌, ◌++◌, map}
use Rattle.std.specs.Str.{chars}
use Rattle.glob_rules.specs.declared.piece.GlobPiece.{GlobPiece}
use Rattle.glob_rules.specs.declared.piece.GlobPiece.TheVariants.{Star, Literal}
use Rattle.glob_rules.specs.declared.form.GlobForm.{GlobForm}
use Rattle.glob_rules.specs.declared.form.GlobForm.TheVariants.{Whole, Beginning, Ending, Pieces}

-- the pieces that stand for the characters of a text, one for each
abbrev pub literals : List ℕ → List GlobPiece
literals text = map (λ c. Literal c) (chars text)

-- the pieces are no text, and no text with a star after or before it
pub record IsNoComparison (pieces : List GlobPiece) : Type 0 where
  pub whole : (text : List ℕ) → pieces ≢ literals text
  pub beginning : (text : List ℕ) → pieces ≢ literals text ++ Star ∷ []
  pub ending : (text : List ℕ) → pieces ≢ Star ∷ literals text

-- what a form says of the pieces: they are a text, or a text with a star after or before it; only others are matched piece by piece
abbrev pub IsForm : GlobForm → List ℕ → List GlobPiece → Type 0
IsForm Whole text pieces = pieces ≡ literals text
IsForm Beginning text pieces = pieces ≡ literals text ++ Star ∷ []
IsForm Ending text pieces = pieces ≡ Star ∷ literals text
IsForm Pieces text pieces = IsNoComparison pieces
