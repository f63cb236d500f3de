-- At which line bytes are refused that are no text of a language.
-- `IsRefusedAt` is needed by private functions and proofs alone.
use Rattle.std.specs.Prelude.{◌≡◌, ◌+◌, ◌<◌, ◌≤◌, ◌++◌, ℕ, List, [], length, take}
use Rattle.replay_text.specs.Lines.{newlines}
use Rattle.replay_text.specs.declared.scenario.ScenarioFault.{ScenarioFault}
use Rattle.replay_text.specs.declared.scenario.ScenarioFault.TheVariants.{Line, NoMemory}

-- the bytes begin a text of the language
abbrev pub IsPrefixIn : (List ℕ → Type 0) → List ℕ → Type 0
IsPrefixIn Text bytes = (more : List ℕ) × Text (bytes ++ more)

-- The bytes are no text of the language, and n newlines stand before the first byte with which they are no prefix of one
-- any more, or before their end where they end too early. So the line of the refusal is n + 1.
pub record IsRefusedBy (Text Prefix : List ℕ → Type 0) (bytes : List ℕ) (n : ℕ) : Type 0 where
  pub none : Text bytes → ⊥
  pub first : (at : ℕ) → at < length bytes → Prefix (take at bytes) → (Prefix (take (at + 1) bytes) → ⊥) → newlines (take at bytes) ≡ n
  pub early : Prefix bytes → newlines bytes ≡ n

-- the same, where a prefix is what begins a text of the language
abbrev pub IsRefusedAt : (List ℕ → Type 0) → List ℕ → ℕ → Type 0
IsRefusedAt Text bytes n = IsRefusedBy Text (IsPrefixIn Text) bytes n

-- the same where a text has at most `most` bytes: a longer one is refused at the byte past them
abbrev pub IsRefusedWithin : ℕ → (List ℕ → Type 0) → List ℕ → ℕ → Type 0
IsRefusedWithin most Text bytes n =
    IsRefusedBy (λ t. Text t × (length t ≤ most)) (λ t. IsPrefixIn Text t × (length t ≤ most)) bytes n

-- the fault names the line at which a text of at most `most` bytes is refused, with any rest after one that is too long
abbrev pub RefusesWithin : ℕ → (List ℕ → Type 0) → List ℕ → ScenarioFault → Type 0
RefusesWithin most Text bytes (Line n) =
    ((rest : List ℕ) → (length bytes ≤ most → rest ≡ []) → IsRefusedWithin most Text (bytes ++ rest) n) × (n ≤ length bytes)
RefusesWithin most Text bytes NoMemory = Unit {0}
