use Rattle.std.proofs.Common.{◌≡◌, ◌++◌}
use Rattle.publisher.specs.Choices.{choices}
use Rattle.publisher.proofs.choices.choices.Given as goal

abbrev pub invariant-loop-depth : goal.invariant-loop-depth
invariant-loop-depth l = l.list ++ choices l.path l.depth ≡ choices l.path l.most
