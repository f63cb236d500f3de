-- Lines of a text.
use Rattle.std.specs.Prelude.{◌≡◌, ◌==◌, ◌+◌, ◌++◌, ℕ, List, [], ◌∷◌, if◌then◌else◌}
use Rattle.sp_base.specs.Texts.{Text}

-- how many newlines bytes have
abbrev pub newlines : List ℕ → ℕ
newlines [] = 0
newlines (b ∷ bytes) = (if b == 10 then 1 else 0) + newlines bytes

-- lines, each with its newline
abbrev pub text_of_lines : List Text → List ℕ
text_of_lines [] = []
text_of_lines (line ∷ lines) = line ++ 10 ∷ text_of_lines lines

-- none of them has a newline within
abbrev pub AreLines : List Text → Type 0
AreLines [] = Unit {0}
AreLines (line ∷ lines) = (newlines line ≡ 0) × AreLines lines
