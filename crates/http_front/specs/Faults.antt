-- The status that a refused head or body is answered with (RFC 9110, section 15.5; RFC 6585, section 5; RFC 4918, section 11.5).
use Rattle.std.specs.Prelude.{ℕ}
use Rattle.http_front.specs.declared.fault.InFault.{InFault}
use Rattle.http_front.specs.declared.fault.InFault.TheVariants.{BadHead, ManyHeaders, BadTarget, NoLength, BadLength, LongBody, LongHead, NoMemory}

-- the status where no memory was there (RFC 4918, section 11.5)
abbrev pub insufficient_storage : ℕ
insufficient_storage = 507

-- the status of a fault
abbrev pub fault_status : InFault → ℕ
fault_status BadHead = 400
fault_status ManyHeaders = 431
fault_status BadTarget = 400
fault_status NoLength = 411
fault_status BadLength = 400
fault_status LongBody = 413
fault_status LongHead = 431
fault_status NoMemory = insufficient_storage
