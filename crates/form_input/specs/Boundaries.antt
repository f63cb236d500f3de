-- What the search for boundary lines promises; a reader of the definition of a form needs none of it.
use Rattle.std.specs.Prelude.{◌≡◌, ◌⊎◌, ◌-◌, ◌++◌, ℕ, List, [], ◌∷◌, Option, Some, None, nat_lt, if◌then◌else◌, length, take, option_copied}
use Rattle.sp_base.specs.Texts.{Text}
use Rattle.form_input.specs.declared.boundary.BoundaryLine.{BoundaryLine}
use Rattle.form_input.specs.Lines.{lines, lines_left}
use Rattle.form_input.specs.Multipart.{Section, Sections, sections}

-- the sections of what is left of a body of `end` bytes
abbrev pub sections_left : List ℕ → ℕ → Option (List ℕ) → Sections
sections_left dash end None = sections dash end []
sections_left dash end (Some text) = sections dash (end - length text) (lines text)

-- lines before the others
abbrev pub with_lines : List Text → Sections → Sections
with_lines done s = record { before = done ++ s.before; later = s.later }

-- these bytes are these lines, each ended
abbrev pub IsEnded : List ℕ → List Text → Type 0
IsEnded prefix done = ((prefix ≡ []) × (done ≡ [])) ⊎ ((text : List ℕ) × (prefix ≡ text ++ 13 ∷ 10 ∷ []) × (done ≡ lines text))

-- a part of what is left was read
pub record ArePartsPassed (dash : List ℕ) (end : ℕ) (whole rest : List ℕ) : Type 0 where
  pub prefix : List ℕ
  pub done : List Text
  pub parts : whole ≡ prefix ++ rest
  pub ended : IsEnded prefix done
  pub same : sections_left dash end (Some whole) ≡ with_lines done (sections_left dash end (Some rest))

-- the text before the last bytes, without its last line end, where there are lines
abbrev pub prefix_of : List ℕ → ℕ → Option (List ℕ)
prefix_of text left = if nat_lt (length text - left) 2 then None else Some (take (length text - left - 2) text)

-- the sections from a boundary line on
abbrev pub from_mark : List ℕ → ℕ → BoundaryLine → List Section
from_mark dash end m = record { place = m.place; closing = m.closing; content = (sections_left dash end (option_copied m.after)).before } ∷ (sections_left dash end (option_copied m.after)).later

-- the first boundary line of what is left, with the lines before it and what follows it
pub record IsMark (dash : List ℕ) (end : ℕ) (text : List ℕ) (m : BoundaryLine) : Type 0 where
  pub before : (sections_left dash end (Some text)).before ≡ lines_left (option_copied m.before)
  pub later : (sections_left dash end (Some text)).later ≡ from_mark dash end m
