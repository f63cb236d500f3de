-- How the fault of an expression is written.
use Rattle.std.specs.Prelude.{◌++◌, ℕ, List, codes}
use Rattle.std.specs.Fmt.{decimal}
use Rattle.htl_syntax.specs.declared.expression.ExprFault.{ExprFault}
use Rattle.htl_syntax.specs.declared.expression.ExprFault.TheVariants.{Unexpected, TooDeep, NoMemory}

-- by its name, and with its place
abbrev pub expr_fault_text : ExprFault → List ℕ
expr_fault_text (Unexpected at) = codes "Unexpected at " ++ decimal at
expr_fault_text (TooDeep at) = codes "TooDeep at " ++ decimal at
expr_fault_text NoMemory = codes "Out of memory"
