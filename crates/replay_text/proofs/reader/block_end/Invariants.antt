use Rattle.std.proofs.Common.{length}
use Rattle.replay_text.proofs.BlockLaws.{PassedBlock}
use Rattle.replay_text.proofs.reader.block_end.Given as goal

abbrev pub invariant-loop-line : goal.invariant-loop-line
invariant-loop-line l = PassedBlock l.text l.rest l.count

abbrev pub decreases-loop-line : goal.decreases-loop-line
decreases-loop-line l = length l.rest
