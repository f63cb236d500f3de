-- Which scenario bytes spell.
use Rattle.std.specs.Prelude.{◌≡◌, ◌≢◌, ◌≤◌, ◌++◌, ℕ, List, [], ◌∷◌, map, codes, length, Option, Some, None}
use Rattle.sp_base.specs.Texts.{Text}
use Rattle.replay_text.specs.Lines.{text_of_lines, AreLines}
use Rattle.replay_text.specs.EventLines.{line_of, IsEventLine}
use Rattle.replay_text.specs.declared.event_line.EventLine.{EventLine}
use Rattle.replay_text.specs.declared.scenario.Scenario.{Scenario}

-- what a scenario's acts ask for can be asked for
abbrev pub AreActs : List EventLine → Type 0
AreActs [] = Unit {0}
AreActs (act ∷ acts) = IsEventLine act × AreActs acts

-- none of the lines is a dot
abbrev pub HaveNoDot : List Text → Type 0
HaveNoDot [] = Unit {0}
HaveNoDot (line ∷ lines) = (line ≢ codes ".") × HaveNoDot lines

-- the bytes of a block are its lines, none of which is a dot
pub record IsBlock (bytes : List ℕ) (block : List Text) : Type 0 where
  pub are : AreLines block
  pub no_dot : HaveNoDot block
  pub bytes_are : bytes ≡ text_of_lines block

-- the lines about the farm: none where there is no farm, else its block up to a dot
abbrev pub IsFarm : Option (List ℕ) → List Text → Type 0
IsFarm None lines = lines ≡ []
IsFarm (Some bytes) lines = (block : List Text) × IsBlock bytes block × (lines ≡ codes "farm" ∷ (block ++ codes "." ∷ []))

-- the lines of acts, and the line that ends them
abbrev pub act_lines : List EventLine → List Text
act_lines acts = map line_of acts ++ codes "end" ∷ []

-- the bytes of acts are their lines, and what each asks for can be asked for
pub record IsActs (bytes : List ℕ) (acts : List EventLine) : Type 0 where
  pub are : AreActs acts
  pub bytes_are : bytes ≡ text_of_lines (map line_of acts)

-- The text spells the scenario: its head, the lines of its content up to a dot, those about its farm, its acts, and the end.
pub record SpellsScenario (text : List ℕ) (s : Scenario) : Type 0 where
  pub block : List Text
  pub content : IsBlock s.content block
  pub farm_lines : List Text
  pub farm : IsFarm s.farm farm_lines
  pub acts : List EventLine
  pub acts_are : IsActs s.acts acts
  pub text_is : text ≡ text_of_lines (codes "scenario 1" ∷ codes "content" ∷ (block ++ codes "." ∷ (farm_lines ++ act_lines acts)))

-- some text spells the scenario
abbrev pub IsSpelled : Scenario → Type 0
IsSpelled s = (text : List ℕ) × SpellsScenario text s

-- the greatest length of a scenario
abbrev pub longest_scenario : ℕ
longest_scenario = 67108864

-- the bytes spell the scenario, within the length allowed
abbrev pub ReadsScenario : List ℕ → Scenario → Type 0
ReadsScenario bytes s = SpellsScenario bytes s × (length bytes ≤ longest_scenario)

-- the text spells some scenario
abbrev pub IsScenario : List ℕ → Type 0
IsScenario text = (s : Scenario) × SpellsScenario text s

-- no act stands first
abbrev pub HasNoAct : List ℕ → Type 0
HasNoAct lines = (act : EventLine) (rest : List ℕ) → IsEventLine act → lines ≢ line_of act ++ 10 ∷ rest

-- where the line of an act stands first, the act is the first of them, and the lines after it are those of the others
abbrev pub TellsFirst : List ℕ → List ℕ → List EventLine → EventLine → Type 0
TellsFirst lines rest acts act = IsActs lines acts → IsEventLine act → lines ≡ line_of act ++ 10 ∷ rest → (left : List EventLine) × (acts ≡ act ∷ left) × IsActs rest left
