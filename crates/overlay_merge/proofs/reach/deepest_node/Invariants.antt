use Rattle.std.proofs.Common.{◌-◌, length}
use Rattle.overlay_merge.proofs.ReachLemmas.{NoneFrom}
use Rattle.overlay_merge.proofs.reach.deepest_node.Given as goal

abbrev pub invariant-loop-missing : goal.invariant-loop-missing
invariant-loop-missing l = NoneFrom l.tree l.path (length l.path - l.missing)
