use Rattle.std.proofs.Common.{◌-◌, ◌≤◌, length}
use Rattle.replay_text.specs.Quoting.{AreLiteral}
use Rattle.replay_text.proofs.quoting.literal_blocks.Given as goal

abbrev pub invariant-loop-n : goal.invariant-loop-n
invariant-loop-n l = (l.n ≤ length l.bytes) × AreLiteral l.bytes 0 l.n

abbrev pub decreases-loop-n : goal.decreases-loop-n
decreases-loop-n l = length l.bytes - l.n
