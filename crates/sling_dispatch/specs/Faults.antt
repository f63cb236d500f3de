-- How it is written that a text gives no farm.
use Rattle.std.specs.Prelude.{ℕ, List}
use Rattle.any_config.specs.FaultTexts.{any_fault_text, farm_fault_text}
use Rattle.sling_dispatch.specs.declared.farms.FarmRefusal.{FarmRefusal}
use Rattle.sling_dispatch.specs.declared.farms.FarmRefusal.TheVariants.{NoFile, NoFarm}

-- why a text gives no farm
abbrev pub refusal_text : FarmRefusal → List ℕ
refusal_text (NoFile fault) = any_fault_text fault
refusal_text (NoFarm fault) = farm_fault_text fault
