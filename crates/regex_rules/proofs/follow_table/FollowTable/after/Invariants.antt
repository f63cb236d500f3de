use Rattle.regex_rules.proofs.KeptLemmas.{Gathered}
use Rattle.regex_rules.proofs.follow_table.FollowTable.after.Given as goal

abbrev pub invariant-ends : goal.invariant-ends
invariant-ends l = Gathered l.sets l.ends l.next l.left

abbrev pub decreases-ends : goal.decreases-ends
decreases-ends l = l.left
