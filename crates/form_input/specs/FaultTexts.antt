-- How the fault of a form is written.
use Rattle.std.specs.Prelude.{◌++◌, ℕ, List, codes}
use Rattle.std.specs.Fmt.{decimal}
use Rattle.form_input.specs.declared.fault.FormFault.{FormFault}
use Rattle.form_input.specs.declared.fault.FormFault.TheVariants.{WrongKind, NoBoundary, BadPart, TooMany, NoMemory}

-- by its name, and with the byte at which a bad part's boundary line stands
abbrev pub form_fault_text : FormFault → List ℕ
form_fault_text WrongKind = codes "WrongKind"
form_fault_text NoBoundary = codes "NoBoundary"
form_fault_text (BadPart at) = codes "BadPart at " ++ decimal at
form_fault_text TooMany = codes "TooMany"
form_fault_text NoMemory = codes "Out of memory"
