use Rattle.std.proofs.Common.{◌≡◌, not, take}
use Rattle.std.specs.Prelude.{filter}
use Rattle.overlay_merge.specs.Roots.{is_name_of_root}
use Rattle.overlay_merge.proofs.merging.kids_but_roots.Given as goal

abbrev pub invariant-loop-kid : goal.invariant-loop-kid
invariant-loop-kid l = l.list ≡ filter (λ name. not (is_name_of_root name)) (take l.kid-index l.kids)
