-- What objects of the outside tell of the bytes that they hold or give.
use Rattle.std.specs.Prelude.{◌≡◌, ◌++◌, ℕ, List, [], Option, Some, None, IfSome}

-- what an object holds after bytes were added to it, where it tells
abbrev pub held_after : Option (List ℕ) → List ℕ → Option (List ℕ)
held_after None bytes = None
held_after (Some held) bytes = Some (held ++ bytes)

-- what was left before bytes were taken from the beginning, where it tells
abbrev pub before_taking : List ℕ → Option (List ℕ) → Option (List ℕ)
before_taking bytes None = None
before_taking bytes (Some rest) = Some (bytes ++ rest)

-- nothing is left, where it tells
abbrev pub IsAtEnd : Option (List ℕ) → Type 0
IsAtEnd left = IfSome left (λ rest. rest ≡ [])
