-- How the faults of a script and of a `sling:match` are written.
use Rattle.std.specs.Prelude.{◌++◌, ℕ, List, codes}
use Rattle.std.specs.Fmt.{decimal}
use Rattle.site_faults.specs.declared.match_faults.MatchFault.{MatchFault}
use Rattle.site_faults.specs.declared.match_faults.MatchFault.TheVariants as match
use Rattle.site_faults.specs.declared.script_fault.ScriptFault.{ScriptFault}
use Rattle.site_faults.specs.declared.script_fault.ScriptFault.TheVariants as script

-- by its name, and with its position
abbrev pub script_fault_text : ScriptFault → List ℕ
script_fault_text (script.Unclosed at) = codes "Unclosed at " ++ decimal at
script_fault_text (script.Unexpected at) = codes "Unexpected at " ++ decimal at
script_fault_text (script.TooDeep at) = codes "TooDeep at " ++ decimal at
script_fault_text (script.OpenTag at) = codes "OpenTag at " ++ decimal at
script_fault_text (script.BadBlock at) = codes "BadBlock at " ++ decimal at
script_fault_text (script.DeepBlock at) = codes "DeepBlock at " ++ decimal at
script_fault_text (script.BadTag at) = codes "BadTag at " ++ decimal at

-- by its name, and with its position in the text
abbrev pub match_fault_text : MatchFault → List ℕ
match_fault_text match.Misplaced = codes "Misplaced"
match_fault_text match.NoText = codes "NoText"
match_fault_text (match.NoPattern text at) = codes "NoPattern at " ++ decimal at
match_fault_text (match.TooDeep text at) = codes "TooDeep at " ++ decimal at
match_fault_text match.NoTarget = codes "NoTarget"
match_fault_text match.NoHost = codes "NoHost"
