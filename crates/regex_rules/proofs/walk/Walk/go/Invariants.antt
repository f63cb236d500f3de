use Rattle.std.proofs.Common.{◌≡◌, ◌-◌, [], length, drop}
use Rattle.regex_rules.specs.Walks.{walked, at, begun}
use Rattle.regex_rules.proofs.walk.Walk.go.Given as goal

abbrev pub invariant-loop-at : goal.invariant-loop-at
invariant-loop-at l = walked l.c (drop l.at l.places) (drop l.at l.olds) (at l.self.level l.self.around l.self.marks) ≡ walked l.c l.places l.olds (at (begun l.enters) [] [])

abbrev pub decreases-loop-at : goal.decreases-loop-at
decreases-loop-at l = length l.places - l.at
