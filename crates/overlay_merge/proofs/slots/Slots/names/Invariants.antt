use Rattle.std.proofs.Common.{◌-◌, length, reverse}
use Rattle.overlay_merge.proofs.SlotsKept.{Walked}
use Rattle.overlay_merge.proofs.slots.Slots.names.Given as goal

abbrev pub invariant-loop : goal.invariant-loop
invariant-loop l = Walked l.self (length l.self.held.items - l.counter) l.slot (reverse l.names.items)
