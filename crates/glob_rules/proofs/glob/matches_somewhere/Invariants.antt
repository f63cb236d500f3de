use Rattle.std.proofs.Common.{◌≡◌, ◌∷◌, length}
use denote.Text.{Utf8}
use denote.Shadow.{shadow}
use Rattle.std.specs.Str.{chars}
use Rattle.glob_rules.specs.declared.piece.GlobPiece.TheVariants.{Star}
use Rattle.glob_rules.specs.Globs.{is_match}
use Rattle.glob_rules.proofs.glob.matches_somewhere.Given as goal

abbrev pub invariant-loop-later : goal.invariant-loop-later
invariant-loop-later l = shadow (Utf8 l.rest) × (is_match (Star ∷ l.left) (chars l.rest) ≡ is_match (Star ∷ l.pieces) (chars l.text))

abbrev pub decreases-loop-later : goal.decreases-loop-later
decreases-loop-later l = length l.left
