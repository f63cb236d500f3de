-- How the fault of a stream is written.
use Rattle.std.specs.Prelude.{ℕ, List, codes}
use Rattle.http_front.specs.declared.fault.InFault.{InFault}
use Rattle.http_front.specs.declared.fault.InFault.TheVariants.{BadHead, ManyHeaders, BadTarget, NoLength, BadLength, LongBody, LongHead, NoMemory}

-- by its name
abbrev pub in_fault_text : InFault → List ℕ
in_fault_text BadHead = codes "BadHead"
in_fault_text ManyHeaders = codes "ManyHeaders"
in_fault_text BadTarget = codes "BadTarget"
in_fault_text NoLength = codes "NoLength"
in_fault_text BadLength = codes "BadLength"
in_fault_text LongBody = codes "LongBody"
in_fault_text LongHead = codes "LongHead"
in_fault_text NoMemory = codes "Out of memory"
