-- A number as a member of a farm writes it.
use Rattle.std.specs.Prelude.{◌≡◌, ◌≤◌, ℕ, List}
use Rattle.std.specs.Fmt.{decimal as digits_of_number}

-- the text is the number's digits, without a leading zero, and it is at most that
abbrev pub WritesNumber : ℕ → List ℕ → ℕ → Type 0
WritesNumber most text n = (text ≡ digits_of_number n) × (n ≤ most)
