use Rattle.std.proofs.Common.{◌≡◌, ◌≤◌, ◌-◌, length, take}
use Rattle.sp_outside.specs.Told.{held_after}
use Rattle.sling_dispatch.proofs.streams.write_all.Given as goal

abbrev pub invariant-loop-at : goal.invariant-loop-at
invariant-loop-at g l = record {
  wrote : g.K.Sink.held l.sink ≡ held_after (g.K.Sink.held l.initial.sink) (take l.at l.bytes);
  within : l.at ≤ length l.bytes;
  not_failed : g.K.Sink.faults l.sink ≡ g.K.Sink.faults l.initial.sink;
}

abbrev pub decreases-loop-at : goal.decreases-loop-at
decreases-loop-at g l = length l.bytes - l.at
