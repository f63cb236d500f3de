-- The statuses of a check.
use Rattle.std.specs.Prelude.{ℕ}
use Rattle.site_check.specs.declared.ending.CheckEnding.{CheckEnding}
use Rattle.site_check.specs.declared.ending.CheckEnding.TheVariants.{Fine, Warned, Faulty, Usage, InputFailed, NoMemory, SinkFailed}

-- the exit status
abbrev pub check_status : CheckEnding → ℕ
check_status Fine = 0
check_status Warned = 1
check_status Faulty = 2
check_status Usage = 64
check_status InputFailed = 66
check_status NoMemory = 70
check_status SinkFailed = 74
