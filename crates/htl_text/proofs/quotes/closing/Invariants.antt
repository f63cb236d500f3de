use Rattle.std.proofs.Common.{◌≡◌, ◌+◌, length}
use Rattle.htl_text.specs.Template.{closing}
use Rattle.htl_text.specs.declared.quotes.Quotes.TheVariants as state
use Rattle.htl_text.proofs.quotes.closing.Given as goal

abbrev pub invariant-loop-rest : goal.invariant-loop-rest
invariant-loop-rest l = (closing l.quotes l.len l.rest ≡ closing state.Outside 0 l.text) × (l.len + length l.rest ≡ length l.text)

abbrev pub decreases-loop-rest : goal.decreases-loop-rest
decreases-loop-rest l = length l.rest
