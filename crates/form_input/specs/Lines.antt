-- The lines of a text, each but the last ended by CR LF; a CR or an LF alone is a byte of its line (RFC 2046, section 5.1.1).
-- `lines_left` is needed by private functions and proofs alone.
use Rattle.std.specs.Prelude.{◌==◌, ◌&&◌, ℕ, Bool, if◌then◌else◌, List, [], ◌∷◌, ◌++◌, Option, Some, None}
use Rattle.std.specs.List.{onto_first}
use Rattle.sp_base.specs.Texts.{Text}

-- CR and LF
abbrev pub is_line_end_pair : ℕ → ℕ → Bool
is_line_end_pair b c = b == 13 && c == 10

-- the lines of a text, without their line ends
unfoldable pub lines : List ℕ → List Text
lines [] = [] ∷ []
lines (b ∷ []) = (b ∷ []) ∷ []
lines (b ∷ c ∷ text) = if is_line_end_pair b c then [] ∷ lines text else onto_first b (lines (c ∷ text))

-- the lines with CR LF between each two
unfoldable pub lines_text : List Text → List ℕ
lines_text [] = []
lines_text (line ∷ []) = line
lines_text (line ∷ next ∷ more) = line ++ 13 ∷ 10 ∷ lines_text (next ∷ more)

-- the lines of what is left of a text, where no line or a text is left
abbrev pub lines_left : Option (List ℕ) → List Text
lines_left None = []
lines_left (Some text) = lines text
