use Rattle.std.proofs.Common.{◌≡◌, drop, take, map}
use Rattle.htl_expr.specs.Bindings.{with_vars}
use Rattle.htl_expr.specs.Lent.{out_of_lent, plain_item, IsOperand}
use Rattle.htl_expr.specs.Pieces.{HavePieces}
use Rattle.htl_expr.specs.Value.{and_values, or_values, value}
use Rattle.htl_expr.specs.Variables.{vars_of}
use Rattle.htl_expr.proofs.value.+value.Given as goal

abbrev pub invariant-and_values-loop-operand : goal.invariant-and_values-loop-operand
invariant-and_values-loop-operand l = (l.scope ≡ l.fn.scope) × IsOperand l.fn.scope l.last × (and_values (out_of_lent l.last.value) (map (value (with_vars l.fn.scope (vars_of l.fn.vars))) (drop l.operand-index l.more)) ≡ and_values (out_of_lent l.fn.first.value) (map (value (with_vars l.fn.scope (vars_of l.fn.vars))) l.more))

abbrev pub invariant-or_values-loop-operand : goal.invariant-or_values-loop-operand
invariant-or_values-loop-operand l = (l.scope ≡ l.fn.scope) × IsOperand l.fn.scope l.last × (or_values (out_of_lent l.last.value) (map (value (with_vars l.fn.scope (vars_of l.fn.vars))) (drop l.operand-index l.more)) ≡ or_values (out_of_lent l.fn.first.value) (map (value (with_vars l.fn.scope (vars_of l.fn.vars))) l.more))

abbrev pub invariant-list_value-loop-item : goal.invariant-list_value-loop-item
invariant-list_value-loop-item l =
    (l.scope ≡ l.fn.scope) × (map out_of_lent l.values ≡ map (value (with_vars l.fn.scope (vars_of l.fn.vars))) (take l.item-index l.items)) × HavePieces l.fn.scope l.pieces (map plain_item l.values)
