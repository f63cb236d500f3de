use Rattle.std.proofs.Common.{◌≡◌, length, false}
use Rattle.any_config.specs.Tokens.{after_blanks_and_comments}
use Rattle.any_config.proofs.tokens.skip.Given as goal

abbrev pub invariant-loop-rest : goal.invariant-loop-rest
invariant-loop-rest l = after_blanks_and_comments l.in_comment l.rest ≡ after_blanks_and_comments false l.text

abbrev pub decreases-loop-rest : goal.decreases-loop-rest
decreases-loop-rest l = length l.rest
