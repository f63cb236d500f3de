-- How it is written that no session begins.
use Rattle.std.specs.Prelude.{ℕ, List, codes}
use Rattle.cache_files.specs.declared.epoch.OpenFault.{OpenFault}
use Rattle.cache_files.specs.declared.epoch.OpenFault.TheVariants.{Disk, Foreign, EpochEnd, NoMemory}

-- in words
abbrev pub open_fault_text : OpenFault → List ℕ
open_fault_text Disk = codes "docroot failed"
open_fault_text Foreign = codes "docroot foreign"
open_fault_text EpochEnd = codes "epoch at its end"
open_fault_text NoMemory = codes "Out of memory"
