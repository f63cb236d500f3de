-- Files that are read whole.
use Rattle.std.specs.Prelude.{◌≡◌, ◌<◌, ℕ, List, Option, Some, None, Result, Ok, Err, length}
use Rattle.sp_outside.specs.Files.{Files, file_at}
use Rattle.outside_world.specs.declared.inputs.InputFault.{InputFault}
use Rattle.outside_world.specs.declared.inputs.InputFault.TheVariants.{Failed, TooLong, NoMemory}

-- the most bytes of a file that is read whole
abbrev pub longest_input : ℕ
longest_input = 67108864

-- a file is there, and is longer than that
abbrev pub IsLongInput : Option (List ℕ) → Type 0
IsLongInput (Some bytes) = longest_input < length bytes
IsLongInput None = ⊥

-- What is answered for a name where these are the files: the file's bytes, or that it is too long.
abbrev pub IsAnswerFor : Files → List ℕ → Result (List ℕ) InputFault → Type 0
IsAnswerFor files name (Ok bytes) = file_at files name ≡ Some bytes
IsAnswerFor files name (Err TooLong) = IsLongInput (file_at files name)
IsAnswerFor files name (Err Failed) = Unit {0}
IsAnswerFor files name (Err NoMemory) = Unit {0}
