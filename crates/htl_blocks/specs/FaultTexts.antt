-- How the faults of a script are written.
use Rattle.std.specs.Prelude.{◌++◌, ℕ, List, codes}
use Rattle.std.specs.Fmt.{decimal}
use Rattle.htl_text.specs.FaultTexts.{template_fault_text}
use Rattle.htl_blocks.specs.declared.fault.BlockFault.{BlockFault}
use Rattle.htl_blocks.specs.declared.fault.BlockFault.TheVariants as block
use Rattle.htl_blocks.specs.declared.run_fault.RunFault.{RunFault}
use Rattle.htl_blocks.specs.declared.run_fault.RunFault.TheVariants as run

-- by its name, and with its place; that of a text between blocks as it stands
abbrev pub block_fault_text : BlockFault → List ℕ
block_fault_text (block.OpenTag at) = codes "OpenTag at " ++ decimal at
block_fault_text (block.BadBlock at) = codes "BadBlock at " ++ decimal at
block_fault_text (block.TooDeep at) = codes "TooDeep at " ++ decimal at
block_fault_text (block.Text fault) = template_fault_text fault
block_fault_text block.NoMemory = codes "Out of memory"

-- by its name
abbrev pub run_fault_text : RunFault → List ℕ
run_fault_text run.TooLong = codes "TooLong"
run_fault_text run.TooMany = codes "TooMany"
run_fault_text run.NoMemory = codes "Out of memory"
