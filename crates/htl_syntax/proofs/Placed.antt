-- What is read as an expression, and where a fault is placed, by the answer of the reading.
use Rattle.std.proofs.Common.{◌≡◌, ◌≢◌, ℕ, List, Result, Ok, Err, refl, ap, subst}
use Rattle.htl_syntax.specs.declared.stop.ExprStop.{ExprStop}
use Rattle.htl_syntax.specs.declared.stop.ExprStop.TheVariants as stop
use Rattle.htl_syntax.specs.declared.expression.Expression.{Expression}
use Rattle.htl_syntax.specs.declared.expression.ExprFault.{ExprFault}
use Rattle.htl_syntax.specs.declared.expression.ExprFault.TheVariants.{NoMemory}
use Rattle.htl_syntax.specs.Read.{expression_read}
use Rattle.htl_syntax.specs.Grammar.{nesting_limit, Whole}
use Rattle.htl_syntax.specs.Fault.{expression_answer, expression_of, IsExpressionFault}
use Rattle.htl_syntax.proofs.Faults.{unexpected_is, too_deep_is}
use Rattle.htl_syntax.proofs.WholeRead.{read_sound}
use Rattle.htl_syntax.proofs.WholeAgain.{read_again}
use Rattle.htl_syntax.proofs.LocalOptions.{failed}

ok_read : (s : List ℕ) (r : Result Expression ExprStop) (e : Expression) → expression_answer nesting_limit s r ≡ Ok e → r ≡ Ok e
ok_read s (Ok x) e p = let same : ◌≡◌ {A = Result Expression ExprFault} (Ok x) (Ok e) = p in cc
ok_read s (Err stop.NoMemory) e p = absurd cc
ok_read s (Err (stop.Unexpected left)) e p = absurd cc
ok_read s (Err (stop.TooDeep left)) e p = absurd cc

fault_is : (s : List ℕ) (f g : ExprFault) → ◌≡◌ {A = Result Expression ExprFault} (Err f) (Err g) → IsExpressionFault f s → IsExpressionFault g s
fault_is s f g p i = let same : f ≡ g = cc in subst (λ h. IsExpressionFault h s) same i

fault_read : (s : List ℕ) (r : Result Expression ExprStop) (f : ExprFault) → expression_read nesting_limit s ≡ r → expression_answer nesting_limit s r ≡ Err f → IsExpressionFault f s
fault_read s (Ok x) f q p = absurd cc
fault_read s (Err stop.NoMemory) f q p = fault_is s _ f p tt
fault_read s (Err (stop.Unexpected left)) f q p = fault_is s _ f p (unexpected_is s left _ q refl)
fault_read s (Err (stop.TooDeep left)) f q p = fault_is s _ f p (too_deep_is s left _ q refl)

pub found : (s : List ℕ) (e : Expression) → expression_of s ≡ Ok e → Whole s e
found s e p = read_sound nesting_limit s e (ok_read s (expression_read nesting_limit s) e p)

pub only : (s : List ℕ) (e : Expression) → Whole s e → expression_of s ≡ Ok e
only s e w = ap (expression_answer nesting_limit s) (read_again nesting_limit s e w)

pub fault : (s : List ℕ) (f : ExprFault) → expression_of s ≡ Err f → IsExpressionFault f s
fault s f p = fault_read s (expression_read nesting_limit s) f refl p

none_lacks : (s : List ℕ) (r : Result Expression ExprStop) → expression_read nesting_limit s ≡ r → expression_answer nesting_limit s r ≢ Err NoMemory
none_lacks s (Ok x) q p = absurd cc
none_lacks s (Err stop.NoMemory) q p = (failed nesting_limit stop.NoMemory s q).left
none_lacks s (Err (stop.Unexpected left)) q p = absurd cc
none_lacks s (Err (stop.TooDeep left)) q p = absurd cc

pub memory : (s : List ℕ) → expression_of s ≢ Err NoMemory
memory s = none_lacks s (expression_read nesting_limit s) refl
