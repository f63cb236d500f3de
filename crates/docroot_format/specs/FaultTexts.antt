-- How the fault of a file is written.
use Rattle.std.specs.Prelude.{ℕ, List, codes}
use Rattle.docroot_format.specs.declared.fault.FileFault.{FileFault}
use Rattle.docroot_format.specs.declared.fault.FileFault.TheVariants.{Disk, NoMemory}

-- in words
abbrev pub file_fault_text : FileFault → List ℕ
file_fault_text Disk = codes "disk failed"
file_fault_text NoMemory = codes "Out of memory"
