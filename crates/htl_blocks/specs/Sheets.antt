-- A text that is being written. Only proofs and private functions need this.
use Rattle.std.specs.Prelude.{◌≡◌, ◌≢◌, ℕ, ◌+◌, ◌<◌, ◌≤◌, ◌⊎◌, List, [], ◌++◌, Result, Ok, Err, length}
use Rattle.std.specs.List.{flat_map}
use Rattle.sp_base.specs.Limits.{most_rendered_bytes}
use Rattle.htl_expr.specs.Bindings.{Bindings}
use Rattle.htl_blocks.specs.declared.keeping.Keeping.{Keeping}
use Rattle.htl_blocks.specs.declared.keeping.Keeping.TheVariants as keep
use Rattle.htl_blocks.specs.declared.run_fault.RunFault.{RunFault}
use Rattle.htl_blocks.specs.declared.run_fault.RunFault.TheVariants.{TooLong, TooMany, NoMemory}
use Rattle.htl_blocks.specs.Parts.{Part, text_of_parts, text_parts, part_text, seen_part, inclusions, rounds}
use Rattle.htl_blocks.specs.Refused.{most_inclusions, most_rounds}

-- what it is written for, what is kept, the parts that were kept, and how many rounds there were
pub record SheetText : Type 0 where
  pub scope : Bindings
  pub keeping : Keeping
  pub parts : List Part
  pub rounds : ℕ

-- what is kept of a part
abbrev pub kept_part : Keeping → Part → List Part
kept_part keep.All p = seen_part p
kept_part keep.TextAlone p = text_parts (part_text p)

-- what is kept of parts
abbrev pub kept : Keeping → List Part → List Part
kept what ps = flat_map (kept_part what) ps

-- nothing is written yet
abbrev pub empty_sheet : Bindings → Keeping → SheetText
empty_sheet scope what = record { scope = scope; keeping = what; parts = []; rounds = 0 }

-- parts are written after the others
abbrev pub with_parts : SheetText → List Part → SheetText
with_parts s ps = record { scope = s.scope; keeping = s.keeping; parts = s.parts ++ kept s.keeping ps; rounds = s.rounds + rounds ps }

-- A limit is passed: that of the text while there aren't too many rounds, that of the rounds while the text isn't too long, or that of what
-- is put in.
abbrev pub IsOverLimit : RunFault → SheetText → Type 0
IsOverLimit TooLong s = (s.rounds ≤ most_rounds) × (most_rendered_bytes < length (text_of_parts s.parts))
IsOverLimit TooMany s = ((most_rounds < s.rounds) × (length (text_of_parts s.parts) ≤ most_rendered_bytes)) ⊎ (most_inclusions < inclusions s.parts)
IsOverLimit NoMemory s = Unit {0}

-- with a beginning of these parts more a limit is passed
pub record PassesLimit (f : RunFault) (old : SheetText) (ps : List Part) : Type 0 where
  pub before : List Part
  pub later : List Part
  pub whole : ps ≡ before ++ later
  pub over : IsOverLimit f (with_parts old before)

-- the writing of parts stops at a limit, unless memory lacks
abbrev pub Stops : RunFault → SheetText → List Part → Type 0
Stops f old ps = f ≢ NoMemory → PassesLimit f old ps

-- parts are written, or at one of them a limit is passed
abbrev pub WroteParts : {A : Type 0} → Result A RunFault → SheetText → SheetText → List Part → Type 0
WroteParts (Ok _) old new ps = new ≡ with_parts old ps
WroteParts (Err f) old new ps = Stops f old ps

-- a text is too long for its room, unless memory lacks
abbrev pub RunFailsAsTooLongIfMemory : ℕ → List ℕ → RunFault → Type 0
RunFailsAsTooLongIfMemory room text f = f ≢ NoMemory → (f ≡ TooLong) × (room < length text)
