-- The calls that are made of a disk.
use Rattle.std.specs.Prelude.{◌≡◌, ◌⊎◌, ◌++◌, ◌∷◌, [], ℕ, Bool, true, false, List, Option, option_map}

-- a call of a disk, with what it is handed, and whether it was answered Ok
pub data Call : Type 0 where
  Get : (name : List ℕ) (answered : Bool) → Call
  Put : (name bytes : List ℕ) (answered : Bool) → Call
  Remove : (name : List ℕ) (answered : Bool) → Call
  Names : (prefix after : List ℕ) (most : ℕ) (answered : Bool) → Call

-- the calls that were made after one more, where the disk tells them
abbrev pub told_call : Option (List Call) → Call → Option (List Call)
told_call told call = option_map (λ calls. calls ++ call ∷ []) told

-- the same after several, in their order
abbrev pub told_calls : Option (List Call) → List Call → Option (List Call)
told_calls told [] = told
told_calls told (call ∷ calls) = told_calls (told_call told call) calls

-- Of these calls none was made, or some, from the first on, and none after one that wasn't answered Ok.
abbrev pub MadeFirst : Option (List Call) → Option (List Call) → List (Bool → Call) → Type 0
MadeFirst old new [] = new ≡ old
MadeFirst old new (call ∷ calls) = (new ≡ old) ⊎ ((new ≡ told_call old (call false)) ⊎ MadeFirst (told_call old (call true)) new calls)
