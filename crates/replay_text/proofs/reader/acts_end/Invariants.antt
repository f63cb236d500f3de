use Rattle.std.proofs.Common.{length}
use Rattle.replay_text.proofs.ReadingActs.{Passed}
use Rattle.replay_text.proofs.reader.acts_end.Given as goal

abbrev pub invariant-loop-line : goal.invariant-loop-line
invariant-loop-line l = Passed l.text l.rest l.before

abbrev pub decreases-loop-line : goal.decreases-loop-line
decreases-loop-line l = length l.rest
