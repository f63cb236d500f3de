-- How it is written that a text has no room.
use Rattle.std.specs.Prelude.{ℕ, List, codes}
use Rattle.htl_expr.specs.declared.room.WriteFault.{WriteFault}
use Rattle.htl_expr.specs.declared.room.WriteFault.TheVariants.{TooLong, NoMemory}

-- by its name
abbrev pub write_fault_text : WriteFault → List ℕ
write_fault_text TooLong = codes "TooLong"
write_fault_text NoMemory = codes "Out of memory"
