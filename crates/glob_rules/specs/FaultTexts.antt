-- How the fault of a glob is written.
use Rattle.std.specs.Prelude.{◌++◌, ℕ, List, codes}
use Rattle.std.specs.Fmt.{decimal}
use Rattle.glob_rules.specs.declared.fault.GlobFault.{GlobFault}
use Rattle.glob_rules.specs.declared.fault.GlobFault.TheVariants.{OpenClass, NoMemory}

-- by its name, and with the place of the `[`
abbrev pub glob_fault_text : GlobFault → List ℕ
glob_fault_text (OpenClass at) = codes "OpenClass at " ++ decimal at
glob_fault_text NoMemory = codes "Out of memory"
