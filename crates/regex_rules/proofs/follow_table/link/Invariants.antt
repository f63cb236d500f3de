use Rattle.std.proofs.Common.{◌≡◌, ◌++◌, take, drop}
use Rattle.regex_rules.specs.Linkings.{link}
use Rattle.regex_rules.proofs.follow_table.link.Given as goal

abbrev pub invariant-loop-set : goal.invariant-loop-set
invariant-loop-set l = take l.set-index l.sets ++ link l.left l.next (drop l.set-index l.sets) ≡ link l.after l.next l.fn.sets
