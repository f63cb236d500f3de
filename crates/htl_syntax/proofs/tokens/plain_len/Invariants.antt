use Rattle.std.proofs.Common.{◌≡◌, ◌+◌, length}
use Rattle.htl_syntax.specs.Tokens.{plain_quoted_len}
use Rattle.htl_syntax.proofs.tokens.plain_len.Given as goal

abbrev pub invariant-loop-rest : goal.invariant-loop-rest
invariant-loop-rest l = (l.len + plain_quoted_len l.mark l.rest ≡ plain_quoted_len l.mark l.text) × (l.len + length l.rest ≡ length l.text)

abbrev pub decreases-loop-rest : goal.decreases-loop-rest
decreases-loop-rest l = length l.rest
