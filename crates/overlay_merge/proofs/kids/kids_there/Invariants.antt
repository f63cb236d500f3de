use Rattle.std.proofs.Common.{◌≡◌}
use Rattle.overlay_merge.specs.Kids.{kids_there}
use Rattle.overlay_merge.proofs.kids.kids_there.Given as goal

abbrev pub invariant-loop-name : goal.invariant-loop-name
invariant-loop-name l = l.kids.items ≡ kids_there l.tree l.path l.yielded
