use Rattle.std.proofs.Common.{◌≡◌, ◌-◌}
use Rattle.post_apply.specs.Names.{free_number}
use Rattle.post_apply.proofs.names.first_free.Given as goal

abbrev pub invariant-loop-n : goal.invariant-loop-n
invariant-loop-n l = free_number l.draft.content l.parent l.name l.n (l.most - l.n) ≡ free_number l.draft.content l.parent l.name 0 l.most
