-- How the faults of the outside are written.
use Rattle.std.specs.Prelude.{ℕ, List, [], codes}
use Rattle.outside_world.specs.declared.inputs.InputFault.{InputFault}
use Rattle.outside_world.specs.declared.inputs.InputFault.TheVariants as input
use Rattle.outside_world.specs.declared.world.WorldFault.{WorldFault}
use Rattle.outside_world.specs.declared.world.WorldFault.TheVariants as world
use Rattle.outside_world.specs.declared.world.SendFault.{SendFault}
use Rattle.outside_world.specs.declared.world.SendFault.TheVariants as send

-- in words; want of memory has none
abbrev pub input_fault_text : InputFault → List ℕ
input_fault_text input.Failed = codes "input failed"
input_fault_text input.TooLong = codes "input too long"
input_fault_text input.NoMemory = []

-- in words
abbrev pub world_fault_text : WorldFault → List ℕ
world_fault_text world.Failed = codes "world failed"
world_fault_text world.NoMemory = codes "Out of memory"

-- in words
abbrev pub send_fault_text : SendFault → List ℕ
send_fault_text send.Failed = codes "sending failed"
send_fault_text send.NoMemory = codes "Out of memory"
