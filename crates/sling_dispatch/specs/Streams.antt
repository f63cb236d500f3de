-- How much of a source was read.
use Rattle.std.specs.Prelude.{◌≡◌, ◌≤◌, ◌⊎◌, ℕ, List, Option, length}
use Rattle.sp_outside.specs.Told.{before_taking, IsAtEnd}

-- at most `count` bytes were taken from a source
abbrev pub HasTaken : ℕ → Option (List ℕ) → Option (List ℕ) → Type 0
HasTaken count old new = (taken : List ℕ) × (old ≡ before_taking taken new) × (length taken ≤ count)

-- a source was read to its end, or exactly `count` bytes of it were
abbrev pub IsReadOut : ℕ → Option (List ℕ) → Option (List ℕ) → Type 0
IsReadOut count old new = IsAtEnd new ⊎ ((taken : List ℕ) × (old ≡ before_taking taken new) × (length taken ≡ count))
