-- Which farm a scenario has.
use Rattle.std.specs.Prelude.{ℕ, Bool, true, false, List, Option, Some, None, Result, Ok, Err}
use Rattle.any_config.specs.Farms.{farm_of}
use Rattle.any_config.specs.Read.{any_of}
use Rattle.any_config.specs.declared.standard.TheConstants.{STANDARD_FARM}
use Rattle.any_config.specs.declared.farm.Farm.{Farm}
use Rattle.any_config.specs.declared.node.AnyNode.{AnyNode}
use Rattle.any_config.specs.declared.any_fault.AnyFault.{AnyFault}
use Rattle.any_config.specs.declared.any_fault.AnyFault.TheVariants as file
use Rattle.any_config.specs.declared.farm_fault.FarmFault.{FarmFault}
use Rattle.any_config.specs.declared.farm_fault.FarmFault.TheVariants as farm
use Rattle.sling_dispatch.specs.declared.farms.FarmRefusal.{FarmRefusal}
use Rattle.sling_dispatch.specs.declared.farms.FarmRefusal.TheVariants.{NoFile, NoFarm}

-- the text of the farm: the standard one where a scenario gives none
abbrev pub farm_text : Option (List ℕ) → List ℕ
farm_text None = STANDARD_FARM.now
farm_text (Some bytes) = bytes

-- a farm that could be read, or why the group gives none
abbrev pub farm_in_group : Result Farm FarmFault → Result Farm FarmRefusal
farm_in_group (Ok farm) = Ok farm
farm_in_group (Err fault) = Err (NoFarm fault)

-- the farm of a file that could be read, or why it gives none
abbrev pub farm_in_file : Result AnyNode AnyFault → Result Farm FarmRefusal
farm_in_file (Ok top) = farm_in_group (farm_of top)
farm_in_file (Err fault) = Err (NoFile fault)

-- the farm that a text gives, or why it gives none
abbrev pub farm_in : List ℕ → Result Farm FarmRefusal
farm_in text = farm_in_file (any_of text)

-- the farm wasn't read, since memory ran out
abbrev pub is_out_of_memory : FarmRefusal → Bool
is_out_of_memory (NoFile file.NoMemory) = true
is_out_of_memory (NoFarm farm.NoMemory) = true
is_out_of_memory _ = false
