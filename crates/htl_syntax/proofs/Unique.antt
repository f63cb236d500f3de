-- A text has one expression at most.
use Rattle.std.proofs.Common.{◌≡◌, ℕ, List, Ok, Err, sym, ◌∙◌}
use Rattle.htl_syntax.specs.declared.stop.ExprStop.{ExprStop}
use Rattle.htl_syntax.specs.declared.expression.Expression.{Expression}
use Rattle.htl_syntax.specs.Read.{expression_read}
use Rattle.htl_syntax.specs.Grammar.{WholeWithin}
use Rattle.htl_syntax.proofs.Tools.{ok_is}
use Rattle.htl_syntax.proofs.WholeAgain.{read_again}

-- a text has one expression
pub only_ok : (levels : ℕ) (s : List ℕ) (found : Expression) → expression_read levels s ≡ Ok found → (e : Expression) → WholeWithin levels s e → found ≡ e
only_ok levels s found r e w = ok_is found e (sym r ∙ read_again levels s e w)

-- a text that isn't read has none
pub only_err : (levels : ℕ) (s : List ℕ) (d : ExprStop) → expression_read levels s ≡ Err d → (e : Expression) → WholeWithin levels s e → ⊥
only_err levels s d f e w = let x = sym f ∙ read_again levels s e w in absurd cc
