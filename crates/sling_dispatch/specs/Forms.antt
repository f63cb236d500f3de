-- The words that the program knows.
use Rattle.std.specs.Prelude.{◌≡◌, ◌≤◌, ◌^◌, ◌⊎◌, ℕ, List, [], ◌∷◌, IsUtf8, codes}
use Rattle.std.specs.Fmt.{decimal}
use Rattle.sp_base.specs.Texts.{Text}
use Rattle.sling_dispatch.specs.declared.form.Beginning.{Beginning}
use Rattle.sling_dispatch.specs.declared.form.Beginning.TheVariants.{Fresh, Warm}
use Rattle.sling_dispatch.specs.declared.form.ServeWords.{ServeWords}
use Rattle.sling_dispatch.specs.declared.form.Form.{Form}
use Rattle.sling_dispatch.specs.declared.form.Form.TheVariants.{Replay, Scenario, Soak, Serve}

-- the word for what becomes of the pages that the document root holds
abbrev pub beginning_word : Beginning → List ℕ
beginning_word Fresh = codes "fresh"
beginning_word Warm = codes "warm"

-- the words of a form: a number is decimal, without a sign or leading zeros
abbrev pub form_words : Form → List Text
form_words Replay = codes "replay" ∷ []
form_words (Scenario number) = codes "scenario" ∷ decimal number ∷ []
form_words (Soak number) = codes "soak" ∷ decimal number ∷ []
form_words (Serve s) = codes "serve" ∷ s.content ∷ s.any ∷ decimal s.turns ∷ beginning_word s.beginning ∷ []

-- the greatest number of a scenario that is generated
abbrev pub greatest_number : ℕ
greatest_number = 4294967295

-- the most turns
abbrev pub greatest_turns : ℕ
greatest_turns = 2 ^ 63

-- what is served is named by texts, for 1 to `greatest_turns` turns
pub record AreServeWords (s : ServeWords) : Type 0 where
  pub content : IsUtf8 s.content
  pub any : IsUtf8 s.any
  pub least : 1 ≤ s.turns
  pub most : s.turns ≤ greatest_turns

-- the numbers of a form are in their range
abbrev pub IsInRange : Form → Type 0
IsInRange Replay = Unit {0}
IsInRange (Scenario number) = number ≤ greatest_number
IsInRange (Soak number) = number ≤ greatest_number
IsInRange (Serve s) = AreServeWords s

-- the words are those of this form
pub record AsksFor (words : List Text) (form : Form) : Type 0 where
  pub words_are : words ≡ form_words form
  pub in_range : IsInRange form

-- the words are those of some form
abbrev pub HasForm : List Text → Type 0
HasForm words = (form : Form) × AsksFor words form

-- the words ask that clients are served
abbrev pub IsServe : List Text → Type 0
IsServe words = (s : ServeWords) × AsksFor words (Serve s)

-- the words ask for the scenario of a number, or for a run of it
abbrev pub AsksNumber : List Text → Type 0
AsksNumber words = (n : ℕ) × (AsksFor words (Scenario n) ⊎ AsksFor words (Soak n))
