-- How the faults of a file and of a farm are written.
use Rattle.std.specs.Prelude.{◌++◌, ℕ, List, [], codes}
use Rattle.std.specs.Fmt.{decimal}
use Rattle.any_config.specs.declared.any_fault.AnyFault.{AnyFault}
use Rattle.any_config.specs.declared.any_fault.AnyFault.TheVariants as file
use Rattle.any_config.specs.declared.farm_fault.FarmFault.{FarmFault}
use Rattle.any_config.specs.declared.farm_fault.FarmFault.TheVariants as farm

-- a fault at a byte of a file, counted from 0
abbrev pub fault_at_byte : List ℕ → ℕ → List ℕ
fault_at_byte name at = name ++ codes " at " ++ decimal at

-- a fault of a file `dispatcher.any`, by its name and its place
abbrev pub any_fault_text : AnyFault → List ℕ
any_fault_text (file.BadName at) = fault_at_byte (codes "BadName") at
any_fault_text (file.BadQuote at) = fault_at_byte (codes "BadQuote") at
any_fault_text (file.TooDeep at) = fault_at_byte (codes "TooDeep") at
any_fault_text (file.Unclosed at) = fault_at_byte (codes "Unclosed") at
any_fault_text file.NoMemory = []

-- a fault of a farm, by its name and that of the member
abbrev pub farm_fault_text : FarmFault → List ℕ
farm_fault_text (farm.Missing member) = codes "Missing " ++ member
farm_fault_text (farm.BadKind member) = codes "BadKind " ++ member
farm_fault_text (farm.NotSupported member) = codes "NotSupported " ++ member
farm_fault_text farm.NoMemory = []
