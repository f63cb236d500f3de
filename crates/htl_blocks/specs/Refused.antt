-- When a script's text is refused.
use Rattle.std.specs.Prelude.{◌≢◌, ℕ, zero, suc, ◌<◌, ◌≤◌, ◌⊎◌, List, [], ◌∷◌, length}
use Rattle.sp_base.specs.Limits.{most_rendered_bytes}
use Rattle.htl_blocks.specs.declared.run_fault.RunFault.{RunFault}
use Rattle.htl_blocks.specs.declared.run_fault.RunFault.TheVariants.{TooLong, TooMany, NoMemory}
use Rattle.htl_blocks.specs.Parts.{Part, Byte, Round, Script, Resource, text_of_parts, inclusions, rounds}

-- how many scripts and resources may be put in
abbrev pub most_inclusions : ℕ
most_inclusions = 1000

-- how often the contents of lists may stand
abbrev pub most_rounds : ℕ
most_rounds = 1000000

-- nothing is above its limit
pub record Fits (ps : List Part) : Type 0 where
  pub text : length (text_of_parts ps) ≤ most_rendered_bytes
  pub included : inclusions ps ≤ most_inclusions
  pub repeated : rounds ps ≤ most_rounds

-- the parts before the round that is one too many, where so many may stand; all of them, where none is
abbrev pub before_too_many : ℕ → List Part → List Part
before_too_many left [] = []
before_too_many left (Byte c ∷ ps) = Byte c ∷ before_too_many left ps
before_too_many left (Script name vars ∷ ps) = Script name vars ∷ before_too_many left ps
before_too_many left (Resource name ∷ ps) = Resource name ∷ before_too_many left ps
before_too_many zero (Round ∷ ps) = []
before_too_many (suc left) (Round ∷ ps) = Round ∷ before_too_many left ps

-- the parts that are looked at: from the round that is one too many on, none
abbrev pub looked_at : List Part → List Part
looked_at ps = before_too_many most_rounds ps

-- The text's fault comes first: where what is looked at of it is too long, that is the fault. Else it is that there are too many rounds, or
-- too many scripts and resources that are put in.
abbrev pub IsRefused : RunFault → List Part → Type 0
IsRefused TooLong ps = most_rendered_bytes < length (text_of_parts (looked_at ps))
IsRefused TooMany ps = (length (text_of_parts (looked_at ps)) ≤ most_rendered_bytes) × ((most_rounds < rounds ps) ⊎ (most_inclusions < inclusions ps))
IsRefused NoMemory ps = Unit {0}

-- ---- what the law of faults says

-- parts are within the limits, or have a fault
abbrev pub FitsOrHasAFault : List Part → Type 0
FitsOrHasAFault ps = Fits ps ⊎ (IsRefused TooLong ps ⊎ IsRefused TooMany ps)

-- they don't have both faults
abbrev pub HasOneFaultAtMost : List Part → Type 0
HasOneFaultAtMost ps = IsRefused TooLong ps → IsRefused TooMany ps → ⊥

-- they have none where they are within the limits
abbrev pub HasNoFaultIfItFits : List Part → Type 0
HasNoFaultIfItFits ps = (f : RunFault) → f ≢ NoMemory → Fits ps → IsRefused f ps → ⊥
