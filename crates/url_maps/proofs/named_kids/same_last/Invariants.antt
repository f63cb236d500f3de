use Rattle.std.proofs.Common.{◌≡◌, ◌-◌, drop, length}
use Rattle.url_maps.proofs.named_kids.same_last.Given as goal

abbrev pub invariant-loop-passed : goal.invariant-loop-passed
invariant-loop-passed l = drop (length l.texts - l.passed) l.texts ≡ drop (length l.others - l.passed) l.others
