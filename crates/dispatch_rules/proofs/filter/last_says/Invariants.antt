use Rattle.std.proofs.Common.{◌≡◌, ◌≤◌, length, take}
use Rattle.glob_rules.specs.Rules.{decision}
use Rattle.dispatch_rules.specs.RequestParts.{applies_to}
use Rattle.dispatch_rules.proofs.filter.last_says.Given as goal

abbrev pub invariant-loop-left : goal.invariant-loop-left
invariant-loop-left l = (l.left ≤ length l.entries) × (decision (applies_to l.seen) (λ entry. entry.allow) (take l.left l.entries) ≡ decision (applies_to l.seen) (λ entry. entry.allow) l.entries)

abbrev pub decreases-loop-left : goal.decreases-loop-left
decreases-loop-left l = l.left
