use Rattle.std.proofs.Common.{◌≡◌, drop}
use Rattle.serde_json.specs.View.{items_view}
use Rattle.content_json.specs.Lists.{items_cause}
use Rattle.content_json.proofs.kind.items_cause.Given as goal

-- nothing is against the items so far
abbrev pub invariant-loop-item : goal.invariant-loop-item
invariant-loop-item l = items_cause l.kind (items_view l.items) ≡ items_cause l.kind (items_view (drop l.item-index l.items))
