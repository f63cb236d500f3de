-- What the functions that match promise one another: a run is a part of a glob without a star.
-- A reader of what a glob matches needs none of it.
use Rattle.std.specs.Prelude.{◌≡◌, ℕ, false, if◌then◌else◌, List, [], ◌∷◌, Option, Some, None}
use Rattle.std.specs.List.{list_any}
use Rattle.std.specs.Option.{option_or}
use Rattle.glob_rules.specs.declared.piece.GlobPiece.{GlobPiece}
use Rattle.glob_rules.specs.declared.piece.GlobPiece.TheVariants.{Star}
use Rattle.glob_rules.specs.Globs.{is_star, stands_for}

-- the characters after those that a run stands for
unfoldable pub after_run : List GlobPiece → List ℕ → Option (List ℕ)
after_run [] cs = Some cs
after_run (piece ∷ run) [] = None
after_run (piece ∷ run) (c ∷ cs) = if stands_for piece c then after_run run cs else None

-- the characters after the first place at which a run stands for what is there
unfoldable pub after_first_run : List GlobPiece → List ℕ → Option (List ℕ)
after_first_run run [] = after_run run []
after_first_run run (c ∷ cs) = option_or (after_run run (c ∷ cs)) (after_first_run run cs)

-- at no place a run stands for what is there
abbrev pub HasNoRun : List GlobPiece → List ℕ → Type 0
HasNoRun run cs = after_first_run run cs ≡ None

-- no star is among these pieces
abbrev pub IsRun : List GlobPiece → Type 0
IsRun run = list_any is_star run ≡ false

-- nothing, or a star and more
abbrev pub IsAfterRun : List GlobPiece → Type 0
IsAfterRun [] = Unit {0}
IsAfterRun (piece ∷ pieces) = piece ≡ Star
