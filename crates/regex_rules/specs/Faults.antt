-- Where a text stops being the beginning of a pattern.
use Rattle.std.specs.Prelude.{◌≡◌, ℕ, nat_lt, true, List, [], ◌∷◌, ◌++◌, ◌⊎◌, length, encode_utf8_all}
use Rattle.regex_rules.specs.declared.fault.PatternFault.{PatternFault}
use Rattle.regex_rules.specs.declared.fault.PatternFault.TheVariants.{BadPattern, TooDeep, NoMemory}
use Rattle.regex_rules.specs.Trees.{PatternTree}
use Rattle.regex_rules.specs.Spelling.{Bounds, IsWholePattern, IsMember, strict, unlimited, no_bounds}

-- some pattern within these bounds begins with the characters
abbrev pub BeginsPattern : Bounds → List ℕ → Type 0
BeginsPattern bounds cs = (more : List ℕ) × (tree : PatternTree) × IsWholePattern bounds (cs ++ more) tree

-- none does
abbrev pub GoesNowhere : Bounds → List ℕ → Type 0
GoesNowhere bounds cs = (more : List ℕ) (tree : PatternTree) → IsWholePattern bounds (cs ++ more) tree → ⊥

-- the offset after these characters: the number of their bytes
abbrev pub offset_behind : List ℕ → ℕ
offset_behind cs = length (encode_utf8_all cs)

-- The characters begin a pattern, or they do up to a `\` at their end which the grammar knows: after `[z-\` only a range in the wrong order goes on.
abbrev pub GoesOnTo : List ℕ → Type 0
GoesOnTo cs = BeginsPattern strict cs ⊎ ((begin : List ℕ) × (cs ≡ begin ++ 92 ∷ []) × BeginsPattern strict begin × BeginsPattern no_bounds cs)

-- The text begins a pattern and is none: the offset is its end.
pub record IsUnended (offset : ℕ) (cs : List ℕ) : Type 0 where
  pub goes_on : GoesOnTo cs
  pub none : (tree : PatternTree) → IsWholePattern no_bounds cs tree → ⊥
  pub here : offset ≡ offset_behind cs

-- Up to the offset the text begins a pattern; with the character there it begins nothing that the grammar knows.
pub record IsStray (offset : ℕ) (cs : List ℕ) : Type 0 where
  pub before : List ℕ
  pub c : ℕ
  pub after : List ℕ
  pub parts : cs ≡ before ++ c ∷ after
  pub goes_on : GoesOnTo before
  pub none : GoesNowhere no_bounds (before ++ c ∷ [])
  pub here : offset ≡ offset_behind before

-- A range that begins at the offset is in the wrong order: up to its second character the text begins a pattern, with that one it begins one only if ranges may have any order.
pub record IsMisordered (offset : ℕ) (cs : List ℕ) : Type 0 where
  pub before : List ℕ
  pub member : List ℕ
  pub other : List ℕ
  pub after : List ℕ
  pub c : ℕ
  pub d : ℕ
  pub parts : cs ≡ before ++ (member ++ (45 ∷ other ++ after))
  pub first : IsMember member c
  pub last : IsMember other d
  pub order : nat_lt d c ≡ true
  pub goes_on : BeginsPattern strict (before ++ (member ++ (45 ∷ [])))
  pub loose : BeginsPattern no_bounds (before ++ (member ++ (45 ∷ other)))
  pub none : GoesNowhere strict (before ++ (member ++ (45 ∷ other)))
  pub here : offset ≡ offset_behind before

-- Up to the offset the text begins a pattern; with the `(` there it begins one only if brackets may nest deeper.
pub record IsTooDeep (offset : ℕ) (cs : List ℕ) : Type 0 where
  pub before : List ℕ
  pub after : List ℕ
  pub parts : cs ≡ before ++ 40 ∷ after
  pub goes_on : BeginsPattern strict before
  pub loose : BeginsPattern unlimited (before ++ 40 ∷ [])
  pub none : GoesNowhere strict (before ++ 40 ∷ [])
  pub here : offset ≡ offset_behind before

-- Why the characters are no pattern, and where.
abbrev pub IsFault : PatternFault → List ℕ → Type 0
IsFault NoMemory cs = ⊥
IsFault (BadPattern offset) cs = IsUnended offset cs ⊎ IsStray offset cs ⊎ IsMisordered offset cs
IsFault (TooDeep offset) cs = IsTooDeep offset cs
