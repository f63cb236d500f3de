-- How the fault of parameters is written.
use Rattle.std.specs.Prelude.{◌++◌, ℕ, List, codes}
use Rattle.post_plan.specs.declared.fault.PlanFault.{PlanFault}
use Rattle.post_plan.specs.declared.fault.PlanFault.TheVariants.{BadOperation, NoDest, BadOrder, BadHint, BadPath, NoMemory}

-- by its name, and with the parameter or the text that it is about
abbrev pub plan_fault_text : PlanFault → List ℕ
plan_fault_text BadOperation = codes "BadOperation"
plan_fault_text NoDest = codes "NoDest"
plan_fault_text BadOrder = codes "BadOrder"
plan_fault_text (BadHint parameter) = codes "BadHint " ++ parameter
plan_fault_text (BadPath text) = codes "BadPath " ++ text
plan_fault_text NoMemory = codes "Out of memory"
