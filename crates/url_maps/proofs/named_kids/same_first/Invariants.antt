use Rattle.std.proofs.Common.{◌≡◌, take}
use Rattle.url_maps.proofs.named_kids.same_first.Given as goal

abbrev pub invariant-loop-at : goal.invariant-loop-at
invariant-loop-at l = take l.at l.texts ≡ take l.at l.others
