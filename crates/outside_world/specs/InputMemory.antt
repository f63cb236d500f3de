-- The state of inputs in memory, and what each call does to it.
use Rattle.std.specs.Prelude.{◌||◌, ℕ, Bool, true, false, not, is_some, List, Result, Err}
use Rattle.sp_outside.specs.Causes.{next}
use Rattle.sp_outside.specs.Files.{Files, file_at}
use Rattle.sp_outside.specs.Memory.{fails_next}
use Rattle.outside_world.specs.declared.inputs.InputFault.{InputFault}
use Rattle.outside_world.specs.declared.inputs.InputFault.TheVariants.{Failed}

-- Inputs in memory: their files, the numbers of the calls that fail, and how many calls were made and have failed.
pub record InputsState : Type 0 where
  pub files : Files
  pub fails : List ℕ
  pub calls : ℕ
  pub failed : ℕ

-- the next call fails: it is listed, or the file isn't there
abbrev pub must_fail : InputsState → List ℕ → Bool
must_fail s name = fails_next s.fails s.calls || not (is_some (file_at s.files name))

-- a call failed, and not because the file is too long or memory ran out
abbrev pub has_input_failed : {T : Type 0} → Result T InputFault → Bool
has_input_failed (Err Failed) = true
has_input_failed _ = false

-- a call changes the counts alone
abbrev pub inputs_after : {T : Type 0} → InputsState → Result T InputFault → InputsState
inputs_after s (Err Failed) = record s { calls = next s.calls; failed = next s.failed }
inputs_after s _ = record s { calls = next s.calls }
