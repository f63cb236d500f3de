-- Relative paths (RFC 3986, section 5.2.4).
-- `later_pieces` is needed by private functions and proofs alone.
use Rattle.std.specs.Prelude.{◌==◌, ◌-◌, ◌+◌, ℕ, if◌then◌else◌, List, [], ◌∷◌, ◌++◌, Option, Some, None, option_and_then, codes, length, take}
use Rattle.std.specs.Str.{bytes_eq}
use Rattle.sp_base.specs.Texts.{Segments, Text}
use Rattle.sp_base.specs.Paths.{seg_ok, pieces}

-- how a relative path goes: up from a node by a number of segments, then down
pub record RelativePath : Type 0 where
  pub up : ℕ
  pub down : Segments

-- `..` takes back the last segment, or goes up
abbrev pub relative_parent : RelativePath → RelativePath
relative_parent relative = if length relative.down == 0 then record { up = relative.up + 1; down = [] } else record { up = relative.up; down = take (length relative.down - 1) relative.down }

-- `.` stays, `..` climbs, and a segment leads down
abbrev pub relative_path_step : RelativePath → List ℕ → Option RelativePath
relative_path_step relative piece = if bytes_eq piece (codes ".") then Some relative
    else (if bytes_eq piece (codes "..") then Some (relative_parent relative)
    else (if seg_ok piece then Some (record { up = relative.up; down = relative.down ++ piece ∷ [] }) else None))

-- where pieces lead, one after another
unfoldable pub relative_path_from : RelativePath → List Text → Option RelativePath
relative_path_from relative [] = Some relative
relative_path_from relative (piece ∷ more) = option_and_then (λ next. relative_path_from next more) (relative_path_step relative piece)

-- how the path of a text goes
abbrev pub relative_path_of : List ℕ → Option RelativePath
relative_path_of text = relative_path_from (record { up = 0; down = [] }) (pieces text)

-- the pieces of what stands after the first slash, where there is one
abbrev pub later_pieces : Option (List ℕ) → List Text
later_pieces None = []
later_pieces (Some text) = pieces text
