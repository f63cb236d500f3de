-- How the faults of a template are written.
use Rattle.std.specs.Prelude.{◌++◌, ℕ, List, codes}
use Rattle.std.specs.Fmt.{decimal}
use Rattle.htl_text.specs.declared.fault.TextFault.{TextFault}
use Rattle.htl_text.specs.declared.fault.TextFault.TheVariants as text
use Rattle.htl_text.specs.declared.fault.RenderFault.{RenderFault}
use Rattle.htl_text.specs.declared.fault.RenderFault.TheVariants as render

-- by its name, and with the place of the `$`
abbrev pub template_fault_text : TextFault → List ℕ
template_fault_text (text.Unclosed at) = codes "Unclosed at " ++ decimal at
template_fault_text (text.BadExpr at) = codes "BadExpr at " ++ decimal at
template_fault_text text.NoMemory = codes "Out of memory"

-- by its name
abbrev pub render_fault_text : RenderFault → List ℕ
render_fault_text render.TooLong = codes "TooLong"
render_fault_text render.NoMemory = codes "Out of memory"
