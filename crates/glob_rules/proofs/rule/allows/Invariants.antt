use Rattle.std.proofs.Common.{◌≡◌, ◌≤◌, length, take}
use Rattle.glob_rules.specs.Rules.{allows}
use Rattle.glob_rules.proofs.rule.allows.Given as goal

abbrev pub invariant-loop-left : goal.invariant-loop-left
invariant-loop-left l = (l.left ≤ length l.rules) × (allows (take l.left l.rules) l.text ≡ allows l.rules l.text)

abbrev pub decreases-loop-left : goal.decreases-loop-left
decreases-loop-left l = l.left
