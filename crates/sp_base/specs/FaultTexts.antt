-- How the faults of paths and values are written.
use Rattle.std.specs.Prelude.{◌++◌, ℕ, List, codes}
use Rattle.std.specs.Fmt.{decimal}
use Rattle.sp_base.specs.declared.path.PathFault.{PathFault}
use Rattle.sp_base.specs.declared.path.PathFault.TheVariants as path
use Rattle.sp_base.specs.declared.hint.ValueFault.{ValueFault}
use Rattle.sp_base.specs.declared.hint.ValueFault.TheVariants as value

-- by its name, and with the place of a segment
abbrev pub path_fault_text : PathFault → List ℕ
path_fault_text path.NotAbsolute = codes "NotAbsolute"
path_fault_text path.EmptySegment = codes "EmptySegment"
path_fault_text path.DotSegment = codes "DotSegment"
path_fault_text (path.LongSegment at) = codes "LongSegment at " ++ decimal at
path_fault_text path.TooDeep = codes "TooDeep"
path_fault_text path.NoMemory = codes "Out of memory"

-- by its name, and with how many words there are or the place of one
abbrev pub value_fault_text : ValueFault → List ℕ
value_fault_text (value.WrongCount count) = codes "WrongCount " ++ decimal count
value_fault_text (value.NotANumber at) = codes "NotANumber at " ++ decimal at
value_fault_text value.NoMemory = codes "Out of memory"
