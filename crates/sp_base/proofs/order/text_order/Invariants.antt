use Rattle.std.proofs.Common.{◌≡◌, ◌-◌, ◌≤◌, drop}
use Rattle.sp_base.specs.PathTexts.{text_order}
use Rattle.sp_base.proofs.order.text_order.Given as goal

abbrev pub invariant-loop-at : goal.invariant-loop-at
invariant-loop-at l = (text_order (drop l.at l.text) (drop l.at l.other) ≡ text_order l.text l.other) × (l.at ≤ l.both)

abbrev pub decreases-loop-at : goal.decreases-loop-at
decreases-loop-at l = l.both - l.at
