use Rattle.std.proofs.Common.{◌≡◌, ◌++◌}
use Rattle.script_rank.specs.Search.{with_selectors}
use Rattle.script_rank.proofs.naming.add_with_selectors.Given as goal

-- those after fewer selectors are left
abbrev pub invariant-loop-left : goal.invariant-loop-left
invariant-loop-left l = l.list.items ++ with_selectors l.html l.left ≡ l.fn.list.items ++ with_selectors l.html l.count

abbrev pub decreases-loop-left : goal.decreases-loop-left
decreases-loop-left l = l.left
