-- The longest beginning of a text that a pattern matches, of those at whose end a path may be cut.
use Rattle.std.specs.Prelude.{◌≡◌, ◌≤◌, ◌||◌, ◌==◌, ℕ, Bool, true, List, [], ◌∷◌, Option, Some, None, drop, length, take}
use Rattle.std.specs.Str.{chars}
use Rattle.regex_rules.specs.Trees.{PatternTree}
use Rattle.regex_rules.specs.Languages.{InLanguage}

-- at the end of a text, or before a dot or a slash
abbrev pub may_cut : List ℕ → Bool
may_cut [] = true
may_cut (b ∷ rest) = b == 46 || b == 47

-- a place of a text, at another or after it, up to which the text is in the language, and at which it may be cut
pub record IsFront (tree : PatternTree) (text : List ℕ) (from at : ℕ) : Type 0 where
  pub after : from ≤ at
  pub within : at ≤ length text
  pub cut : may_cut (drop at text) ≡ true
  pub matches : InLanguage tree (chars (take at text))

-- the last such place, or that there is none
abbrev pub IsLastFront : PatternTree → List ℕ → ℕ → Option ℕ → Type 0
IsLastFront tree text from (Some at) = IsFront tree text from at × ((k : ℕ) → IsFront tree text from k → k ≤ at)
IsLastFront tree text from None = (k : ℕ) → IsFront tree text from k → ⊥
