use Rattle.std.proofs.Common.{◌≡◌, take}
use Rattle.overlay_merge.specs.Slots.{SlotsAreGood, names_after_moves, names_of}
use Rattle.overlay_merge.proofs.order.move_all.Given as goal

abbrev pub invariant-loop-step : goal.invariant-loop-step
invariant-loop-step l = record { good : SlotsAreGood l.slots; names : names_of l.slots ≡ names_after_moves (take l.step-index l.moves) (names_of l.fn.slots) }
