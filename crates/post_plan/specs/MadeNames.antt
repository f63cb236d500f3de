-- A made name by what its bytes are, and by the runs of the word that it is made from.
use Rattle.std.specs.Prelude.{◌≡◌, ◌==◌, ◌&&◌, ◌||◌, ℕ, Bool, true, false, not, nat_lt, List, [], ◌∷◌, ◌++◌, codes, flat_map, length, map}
use Rattle.std.specs.List.{list_all}
use Rattle.std.specs.Char.{is_ascii_alphanumeric, is_ascii_digit, is_ascii_lowercase, to_ascii_lowercase}

-- a run of a word: of ASCII letters and digits, or of other bytes
pub data NameRun : Type 0 where
  Kept : List ℕ → NameRun
  Other : List ℕ → NameRun

-- the bytes of a run
abbrev pub bytes_of_run : NameRun → List ℕ
bytes_of_run (Kept bytes) = bytes
bytes_of_run (Other bytes) = bytes

-- what stands for it in a made name: its letters in lower case and its digits, or one `_`
abbrev pub run_name : NameRun → List ℕ
run_name (Kept bytes) = map to_ascii_lowercase bytes
run_name (Other bytes) = codes "_"

-- any other byte than an ASCII letter or digit
abbrev pub is_other_byte : ℕ → Bool
is_other_byte b = not (is_ascii_alphanumeric b)

-- a run has a byte at least, and each is of its kind
abbrev pub is_run : NameRun → Bool
is_run (Kept bytes) = nat_lt 0 (length bytes) && list_all is_ascii_alphanumeric bytes
is_run (Other bytes) = nat_lt 0 (length bytes) && list_all is_other_byte bytes

-- two runs are of different kinds
abbrev pub are_apart : NameRun → NameRun → Bool
are_apart (Kept bytes) (Kept others) = false
are_apart (Kept bytes) (Other others) = true
are_apart (Other bytes) (Kept others) = true
are_apart (Other bytes) (Other others) = false

-- so are each two that stand beside each other
abbrev pub alternate : List NameRun → Bool
alternate [] = true
alternate (run ∷ []) = true
alternate (run ∷ next ∷ more) = are_apart run next && alternate (next ∷ more)

-- the runs of a word, as long as they are
pub record AreRunsOf (word : List ℕ) (runs : List NameRun) : Type 0 where
  pub spells : flat_map bytes_of_run runs ≡ word
  pub each : list_all is_run runs ≡ true
  pub apart : alternate runs ≡ true

-- a word has runs
abbrev pub HasRuns : List ℕ → Type 0
HasRuns word = (runs : List NameRun) × AreRunsOf word runs

-- a byte of a made name
abbrev pub is_made_byte : ℕ → Bool
is_made_byte b = is_ascii_lowercase b || (is_ascii_digit b || b == 95)

-- one `_` stands after another
pub record HasTwoUnderscores (name : List ℕ) : Type 0 where
  pub before : List ℕ
  pub after : List ℕ
  pub is : name ≡ before ++ 95 ∷ 95 ∷ after
