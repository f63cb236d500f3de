-- What a peer was given of the bytes that are due to it.
use Rattle.std.specs.Prelude.{◌≡◌, ◌++◌, ℕ, List, Option}
use Rattle.sp_outside.specs.Told.{held_after}

-- The peer took the first of the bytes that were due, in order and no others; the rest is still due.
pub record IsGiven (before after : Option (List ℕ)) (due rest : List ℕ) : Type 0 where
  pub taken : List ℕ
  pub told : after ≡ held_after before taken
  pub whole : due ≡ taken ++ rest

-- The peer took the first of the bytes that were due, in order and no others; it may get no more of them.
pub record IsCutOff (before after : Option (List ℕ)) (due : List ℕ) : Type 0 where
  pub rest : List ℕ
  pub given : IsGiven before after due rest
