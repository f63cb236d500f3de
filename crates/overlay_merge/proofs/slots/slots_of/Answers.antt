use Rattle.std.proofs.Common.{◌∙◌, ap, nat_eq}
use Rattle.std.specs.List.{list_any}
use Rattle.std.specs.Cmp.Lexicographic.{pointwise}
use Rattle.overlay_merge.specs.Slots.{names_of}
use Rattle.overlay_merge.proofs.SlotsKept.{is_new}
use Rattle.overlay_merge.proofs.slots.slots_of.Goals as goal

pub add-requires-clause-new : goal.add-requires-clause-new
add-requires-clause-new c =
    ap (λ t. list_any (pointwise nat_eq t) (names_of c.loop-name.slots)) c.text.ensures
    ∙ is_new c.args.names.now (names_of c.loop-name.slots) c.loop-name.name-index c.name-item.result c.requires c.loop-name-test.true c.name-item.is c.loop-name.invariant.names
