use Rattle.std.proofs.Common.{◌≡◌, ◌++◌, not, take}
use Rattle.std.specs.Prelude.{filter}
use Rattle.std.specs.List.{list_any}
use Rattle.overlay_merge.specs.Kids.{has_text}
use Rattle.overlay_merge.proofs.kids.add_kids.Given as goal

abbrev pub invariant-loop-name : goal.invariant-loop-name
invariant-loop-name l = l.names.items ≡ l.fn.names.items ++ filter (λ name. not (list_any (λ layer. has_text layer.kids name) l.lower)) (take l.name-index l.layer.kids)
