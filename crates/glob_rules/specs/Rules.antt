-- Lists of rules: the last that matches decides (Adobe Dispatcher manual, "Configuring Access to Content").
use Rattle.std.specs.Prelude.{ℕ, Bool, false, List, [], ◌∷◌, filter}
use Rattle.std.specs.Str.{chars}
use Rattle.glob_rules.specs.declared.rule.Rule.{Rule}
use Rattle.glob_rules.specs.Globs.{is_match}

-- what the last entry says; where there is none, no
abbrev pub last_says : {A : Type 0} → (A → Bool) → List A → Bool
last_says says [] = false
last_says says (entry ∷ []) = says entry
last_says says (entry ∷ next ∷ entries) = last_says says (next ∷ entries)

-- In a list of entries the last that applies decides, and where none applies the answer is no.
abbrev pub decision : {A : Type 0} → (A → Bool) → (A → Bool) → List A → Bool
decision applies says entries = last_says says (filter applies entries)

-- whether rules allow a text
abbrev pub allows : List Rule → List ℕ → Bool
allows rules text = decision (λ rule. is_match rule.glob (chars text)) (λ rule. rule.allow) rules
