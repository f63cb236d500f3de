-- Scaffolding: the languages of the parts of a scenario, for the private functions of the reader and for proofs alone. A reader
-- of the theorem needs none of it.
use Rattle.std.specs.Prelude.{◌≡◌, ◌≢◌, ◌⊎◌, ◌+◌, ◌≤◌, ◌++◌, ℕ, List, ◌∷◌, length, take, drop, codes, Option}
use Rattle.sp_base.specs.Texts.{Text}
use Rattle.replay_text.specs.Lines.{newlines, text_of_lines, AreLines}
use Rattle.replay_text.specs.Languages.{IsRefusedAt}
use Rattle.replay_text.specs.Scenario.{AreActs, HaveNoDot, IsActs, IsBlock, IsFarm, act_lines}
use Rattle.replay_text.specs.declared.event_line.EventLine.{EventLine}
use Rattle.replay_text.specs.declared.scenario.Scenario.{Scenario}
use Rattle.replay_text.specs.declared.scenario.ScenarioFault.{ScenarioFault}
use Rattle.replay_text.specs.declared.scenario.ScenarioFault.TheVariants.{Line, NoMemory}

-- the first line is this one, and the text goes on with rest
pub record FirstLine (text line rest : List ℕ) : Type 0 where
  pub is : text ≡ line ++ 10 ∷ rest
  pub one : newlines line ≡ 0

-- the text has no first line, or another one
abbrev pub LacksLine : List ℕ → List ℕ → Type 0
LacksLine want text = (newlines text ≡ 0) ⊎ ((line : List ℕ) × (rest : List ℕ) × FirstLine text line rest × (line ≢ want))

-- the part after the content
abbrev pub Acts : List ℕ → Type 0
Acts text = (acts : List EventLine) × AreActs acts × (text ≡ text_of_lines (act_lines acts))

-- what the part after the content, and the farm if there is one, spells
pub record SpellsActs (text bytes : List ℕ) : Type 0 where
  pub acts : List EventLine
  pub acts_are : IsActs bytes acts
  pub text_is : text ≡ text_of_lines (act_lines acts)

-- the fault names the line at which the text is refused
abbrev pub Refuses : (List ℕ → Type 0) → List ℕ → ScenarioFault → Type 0
Refuses Language bytes (Line n) = IsRefusedAt Language bytes n × (n ≤ length bytes)
Refuses Language bytes NoMemory = Unit {0}

-- a block, and after its dot a text of the language
pub record BlockThen (Rest : List ℕ → Type 0) (text : List ℕ) : Type 0 where
  pub block : List Text
  pub are : AreLines block
  pub no_dot : HaveNoDot block
  pub rest : List ℕ
  pub goes_on : Rest rest
  pub text_is : text ≡ text_of_lines block ++ 46 ∷ 10 ∷ rest

-- the farm, and the acts after it
abbrev pub FarmThenActs : List ℕ → Type 0
FarmThenActs text = (rest : List ℕ) × BlockThen Acts rest × (text ≡ codes "farm" ++ 10 ∷ rest)

-- the part after the content's dot
abbrev pub IsTail : List ℕ → Type 0
IsTail text = Acts text ⊎ FarmThenActs text

-- the part after the line `content`
abbrev pub IsContentBody : List ℕ → Type 0
IsContentBody text = BlockThen IsTail text

-- the part after the first line
abbrev pub IsContent : List ℕ → Type 0
IsContent text = (body : List ℕ) × IsContentBody body × (text ≡ codes "content" ++ 10 ∷ body)

-- what the part after the content's dot spells
pub record SpellsTail (text : List ℕ) (farm : Option (List ℕ)) (bytes : List ℕ) : Type 0 where
  pub lines : List Text
  pub farm_is : IsFarm farm lines
  pub acts : List EventLine
  pub acts_are : IsActs bytes acts
  pub text_is : text ≡ text_of_lines (lines ++ act_lines acts)

-- what the part after the line `farm` spells
pub record SpellsFarm (text farm bytes : List ℕ) : Type 0 where
  pub block : List Text
  pub farm_is : IsBlock farm block
  pub acts : List EventLine
  pub acts_are : IsActs bytes acts
  pub text_is : text ≡ text_of_lines (block ++ codes "." ∷ act_lines acts)

-- what the part after the line `content` spells
pub record SpellsBody (text : List ℕ) (s : Scenario) : Type 0 where
  pub block : List Text
  pub content : IsBlock s.content block
  pub farm_lines : List Text
  pub farm : IsFarm s.farm farm_lines
  pub acts : List EventLine
  pub acts_are : IsActs s.acts acts
  pub text_is : text ≡ text_of_lines (block ++ codes "." ∷ (farm_lines ++ act_lines acts))

-- a block ends at a place, and has `count` lines
pub record EndsBlock (text : List ℕ) (at count : ℕ) : Type 0 where
  pub block : List Text
  pub is_block : IsBlock (take at text) block
  pub text_is : text ≡ text_of_lines block ++ 46 ∷ 10 ∷ drop (at + 2) text
  pub within : at + 2 ≤ length text
  pub count_is : count ≡ length block
  pub small : count ≤ at

-- no block ends in the text, and it has `count` whole lines
pub record EndsNoBlock (text : List ℕ) (count : ℕ) : Type 0 where
  pub block : List Text
  pub are : AreLines block
  pub no_dot : HaveNoDot block
  pub rest : List ℕ
  pub one : newlines rest ≡ 0
  pub text_is : text ≡ text_of_lines block ++ rest
  pub count_is : count ≡ length block
  pub small : count ≤ length text

-- where the fault names a line, this holds of its number
abbrev pub IfLine : ScenarioFault → (ℕ → Type 0) → Type 0
IfLine (Line n) P = P n
IfLine NoMemory P = Unit {0}

-- the same fault, lines further down
abbrev pub fault_further : ScenarioFault → ℕ → ScenarioFault
fault_further (Line n) lines = Line (n + lines)
fault_further NoMemory lines = NoMemory
