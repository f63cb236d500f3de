use Rattle.std.proofs.Common.{◌≡◌, take}
use Rattle.overlay_merge.specs.Slots.{SlotsAreGood, names_of}
use Rattle.overlay_merge.proofs.slots.slots_of.Given as goal

abbrev pub invariant-loop-name : goal.invariant-loop-name
invariant-loop-name l = record { good : SlotsAreGood l.slots; names : names_of l.slots ≡ take l.name-index l.names }
