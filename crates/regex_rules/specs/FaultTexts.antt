-- How the fault of a pattern is written.
use Rattle.std.specs.Prelude.{◌++◌, ℕ, List, codes}
use Rattle.std.specs.Fmt.{decimal}
use Rattle.regex_rules.specs.declared.fault.PatternFault.{PatternFault}
use Rattle.regex_rules.specs.declared.fault.PatternFault.TheVariants.{BadPattern, TooDeep, NoMemory}

-- by its name, and with its place
abbrev pub pattern_fault_text : PatternFault → List ℕ
pattern_fault_text (BadPattern at) = codes "BadPattern at " ++ decimal at
pattern_fault_text (TooDeep at) = codes "TooDeep at " ++ decimal at
pattern_fault_text NoMemory = codes "Out of memory"
