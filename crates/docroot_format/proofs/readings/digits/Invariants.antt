use Rattle.std.proofs.Common.{◌≡◌, length}
use Rattle.docroot_format.specs.Readings.{digits_from}
use Rattle.docroot_format.proofs.readings.digits.Given as goal

abbrev pub invariant-loop-more : goal.invariant-loop-more
invariant-loop-more l = digits_from l.number l.rest ≡ digits_from 0 l.text

abbrev pub decreases-loop-more : goal.decreases-loop-more
decreases-loop-more l = length l.rest
