-- The place that a run of the reader gives is where the text leaves the grammar.
use Rattle.std.proofs.Common.{◌≡◌, ℕ, ◌-◌, List, length, Err}
use Rattle.htl_syntax.specs.declared.stop.ExprStop.TheVariants as stop
use Rattle.htl_syntax.specs.declared.expression.ExprFault.TheVariants.{Unexpected, TooDeep}
use Rattle.htl_syntax.specs.Read.{expression_read}
use Rattle.htl_syntax.specs.Grammar.{nesting_limit}
use Rattle.htl_syntax.specs.Fault.{fault_place, IsExpressionFault}
use Rattle.htl_syntax.proofs.More.{more_left, more_deep}
use Rattle.htl_syntax.proofs.NoneLeft.{none_deep, nests_deep}
use Rattle.htl_syntax.proofs.Limit.{none_any, some_deeper}

pub unexpected_is : (s : List ℕ) (left place : ℕ) → expression_read nesting_limit s ≡ Err (stop.Unexpected left) → place ≡ fault_place nesting_limit s (length s - left) → IsExpressionFault (Unexpected place) s
unexpected_is s left place e p = rw p (more_left nesting_limit s left e, none_any nesting_limit s left e)

pub too_deep_is : (s : List ℕ) (left place : ℕ) → expression_read nesting_limit s ≡ Err (stop.TooDeep left) → place ≡ length s - left → IsExpressionFault (TooDeep place) s
too_deep_is s left place e p = rw p (more_deep nesting_limit s left e, (none_deep nesting_limit s left e, (some_deeper nesting_limit s left e, nests_deep nesting_limit s left e)))
