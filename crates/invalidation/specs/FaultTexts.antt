-- How the fault of a request for an invalidation is written.
use Rattle.std.specs.Prelude.{ℕ, List, codes}
use Rattle.invalidation.specs.declared.inv_fault.InvFault.{InvFault}
use Rattle.invalidation.specs.declared.inv_fault.InvFault.TheVariants.{NoHandle, BadHandle, BadAction, NoMemory}

-- by its name
abbrev pub inv_fault_text : InvFault → List ℕ
inv_fault_text NoHandle = codes "NoHandle"
inv_fault_text BadHandle = codes "BadHandle"
inv_fault_text BadAction = codes "BadAction"
inv_fault_text NoMemory = codes "Out of memory"
