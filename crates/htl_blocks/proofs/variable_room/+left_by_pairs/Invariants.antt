use Rattle.std.proofs.Common.{length}
use Rattle.htl_blocks.proofs.variable_room.+left_by_pairs.Given as goal

abbrev pub decreases-left_by_pairs : goal.decreases-left_by_pairs
decreases-left_by_pairs l = length l.pairs.now
