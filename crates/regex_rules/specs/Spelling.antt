-- Which texts spell which pattern: the grammar of the language, as a relation between lists of characters and trees.
--   whole  = [ "^" ] rows [ "$" ]
--   rows   = row { "|" row }
--   row    = { piece }
--   piece  = ( plain | "." | "\" meant | "(" rows ")" | "[" [ "^" ] item { item } [ "-" ] "]" ) [ "*" | "+" | "?" ]
--   item   = one [ "-" one ]
use Rattle.std.specs.Prelude.{◌≡◌, ℕ, suc, Bool, true, false, ◌||◌, ◌==◌, nat_le, nat_lt, List, [], ◌∷◌, ◌++◌}
use Rattle.std.specs.List.{list_any}
use Rattle.regex_rules.specs.declared.character.CharRange.{CharRange}
use Rattle.regex_rules.specs.declared.character.CharClass.{CharClass}
use Rattle.regex_rules.specs.declared.character.OneChar.{OneChar}
use Rattle.regex_rules.specs.declared.character.OneChar.TheVariants.{AnyButNewline, Literal, Class}
use Rattle.regex_rules.specs.declared.repeat.Repeat.{Repeat}
use Rattle.regex_rules.specs.declared.repeat.Repeat.TheVariants.{Once, Optional, Any, AtLeastOnce}
use Rattle.regex_rules.specs.Trees.{PatternTree, Empty, Char, Bracket, Or}

-- `\ . [ ] ( ) { } * + ? | ^ $` don't stand for themselves
abbrev pub is_special : ℕ → Bool
is_special c = list_any (λ d. c == d) (92 ∷ 46 ∷ 91 ∷ 93 ∷ 40 ∷ 41 ∷ 123 ∷ 125 ∷ 42 ∷ 43 ∷ 63 ∷ 124 ∷ 94 ∷ 36 ∷ [])

-- after `\` they do, and so do `/` and `-`
abbrev pub is_meant : ℕ → Bool
is_meant c = is_special c || (c == 47 || c == 45)

-- in a class `\ [ ] ^ -` don't
abbrev pub is_reserved : ℕ → Bool
is_reserved c = list_any (λ d. c == d) (92 ∷ 91 ∷ 93 ∷ 94 ∷ 45 ∷ [])

-- one character of a class: any that isn't reserved, or `\` and one that is
pub data IsMember : List ℕ → ℕ → Type 0 where
  itself : {c : ℕ} → is_reserved c ≡ false → IsMember (c ∷ []) c
  meant : {c : ℕ} → is_reserved c ≡ true → IsMember (92 ∷ c ∷ []) c

-- the range of characters from the one to the other
abbrev pub range : ℕ → ℕ → CharRange
range first last = record { first = first; last = last }

-- What a reading may refuse besides the grammar: a bracket within so many, and a range from one character to another.
pub record Bounds : Type 0 where
  pub may_open : ℕ → Bool
  pub may_span : ℕ → ℕ → Bool

-- Characters spell ranges: some, and one more character or range.
pub data AreRanges (bounds : Bounds) : List ℕ → List CharRange → Type 0 where
  none : AreRanges bounds [] []
  single : {cs : List ℕ} {ranges : List CharRange} (before member : List ℕ) (c : ℕ) → AreRanges bounds before ranges → IsMember member c → cs ≡ before ++ member
      → AreRanges bounds cs (ranges ++ range c c ∷ [])
  spanned : {cs : List ℕ} {ranges : List CharRange} (before member other : List ℕ) (c d : ℕ) → AreRanges bounds before ranges → IsMember member c → IsMember other d
      → bounds.may_span c d ≡ true → cs ≡ before ++ (member ++ (45 ∷ other)) → AreRanges bounds cs (ranges ++ range c d ∷ [])

-- a `-` before the `]` is itself
pub data IsClassTail : List ℕ → List CharRange → Type 0 where
  nothing : IsClassTail [] []
  hyphen : IsClassTail (45 ∷ []) (range 45 45 ∷ [])

-- `^` negates
pub data IsNegation : List ℕ → Bool → Type 0 where
  these : IsNegation [] false
  others : IsNegation (94 ∷ []) true

-- A class: at least one character or range between `[` and `]`.
pub record IsClass (bounds : Bounds) (cs : List ℕ) (class : CharClass) : Type 0 where
  pub sign : List ℕ
  pub items : List ℕ
  pub tail : List ℕ
  pub ranges : List CharRange
  pub hyphens : List CharRange
  pub negation : IsNegation sign class.negated
  pub spelled : AreRanges bounds items ranges
  pub some : (items ≡ []) → ⊥
  pub ends : IsClassTail tail hyphens
  pub all : class.ranges ≡ ranges ++ hyphens
  pub parts : cs ≡ 91 ∷ sign ++ (items ++ (tail ++ (93 ∷ [])))

-- one character of a text
pub data SpellsOne (bounds : Bounds) : List ℕ → OneChar → Type 0 where
  plain : {c : ℕ} → is_special c ≡ false → SpellsOne bounds (c ∷ []) (Literal c)
  meant : {c : ℕ} → is_meant c ≡ true → SpellsOne bounds (92 ∷ c ∷ []) (Literal c)
  dot : SpellsOne bounds (46 ∷ []) AnyButNewline
  class : {cs : List ℕ} {class : CharClass} → IsClass bounds cs class → SpellsOne bounds cs (Class class)

-- how often
abbrev pub sign_of : Repeat → List ℕ
sign_of Once = []
sign_of Optional = 63 ∷ []
sign_of Any = 42 ∷ []
sign_of AtLeastOnce = 43 ∷ []

-- Characters within this number of brackets spell rows.
pub data Spells (bounds : Bounds) : ℕ → List ℕ → PatternTree → Type 0 where
  nothing : {depth : ℕ} → Spells bounds depth [] Empty
  one : {depth : ℕ} {cs : List ℕ} {rows : PatternTree} {char : OneChar} (before own : List ℕ) (repeat : Repeat) → Spells bounds depth before rows → SpellsOne bounds own char
      → cs ≡ before ++ (own ++ sign_of repeat) → Spells bounds depth cs (Char rows char repeat)
  bracket : {depth : ℕ} {cs : List ℕ} {rows inner : PatternTree} (before inside : List ℕ) (repeat : Repeat) → Spells bounds depth before rows → bounds.may_open depth ≡ true → Spells bounds (suc depth) inside inner
      → cs ≡ before ++ (40 ∷ inside ++ (41 ∷ sign_of repeat)) → Spells bounds depth cs (Bracket rows inner repeat)
  bar : {depth : ℕ} {cs : List ℕ} {rows : PatternTree} (before : List ℕ) → Spells bounds depth before rows → cs ≡ before ++ 124 ∷ [] → Spells bounds depth cs (Or rows)

-- a `^` at the beginning, and a `$` at the end, or none
pub data IsAnchor (sign : ℕ) : List ℕ → Type 0 where
  absent : IsAnchor sign []
  present : IsAnchor sign (sign ∷ [])

-- the characters of a whole text spell a pattern
pub record IsWholePattern (bounds : Bounds) (cs : List ℕ) (tree : PatternTree) : Type 0 where
  pub begin : List ℕ
  pub rows : List ℕ
  pub end : List ℕ
  pub begins : IsAnchor 94 begin
  pub spelled : Spells bounds 0 rows tree
  pub ends : IsAnchor 36 end
  pub parts : cs ≡ begin ++ (rows ++ end)

-- brackets nest to 32, and no range begins above its end
abbrev pub strict : Bounds
strict = record { may_open = λ depth. nat_lt depth 32; may_span = nat_le }

-- brackets nest to any depth
abbrev pub unlimited : Bounds
unlimited = record { may_open = λ depth. true; may_span = nat_le }

-- the grammar alone
abbrev pub no_bounds : Bounds
no_bounds = record { may_open = λ depth. true; may_span = λ first last. true }

-- The characters of a text are a pattern with this tree.
abbrev pub IsPattern : List ℕ → PatternTree → Type 0
IsPattern cs tree = IsWholePattern strict cs tree
