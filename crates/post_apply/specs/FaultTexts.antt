-- How the refusal of an operation is written.
use Rattle.std.specs.Prelude.{◌++◌, ℕ, List, codes}
use Rattle.sp_base.specs.Paths.{text_of}
use Rattle.sp_base.specs.FaultTexts.{value_fault_text}
use Rattle.resource_tree.specs.FaultTexts.{tree_fault_text}
use Rattle.post_apply.specs.declared.fault.ApplyFault.{ApplyFault}
use Rattle.post_apply.specs.declared.fault.ApplyFault.TheVariants.{Tree, Value, DestThere, NoMemory}

-- that of the tree as it stands, that of a property's value after its name
abbrev pub apply_fault_text : ApplyFault → List ℕ
apply_fault_text (Tree fault) = tree_fault_text fault
apply_fault_text (Value name fault) = name ++ codes ": " ++ value_fault_text fault
apply_fault_text (DestThere path) = codes "DestThere at " ++ text_of path
apply_fault_text NoMemory = codes "Out of memory"
