use Rattle.std.proofs.Common.{◌≡◌, ◌≤◌, ◌-◌, ◌+◌, length, vec_len}
use Rattle.sp_outside.specs.Told.{before_taking}
use Rattle.sling_dispatch.proofs.streams.read_whole.Given as goal

abbrev pub invariant-loop-buffer : goal.invariant-loop-buffer
invariant-loop-buffer g l = record {
  read : g.S.Source.left l.initial.source ≡ before_taking l.text.items (g.S.Source.left l.source);
  most : length l.text.items ≤ l.limit + 1;
  not_failed : g.S.Source.faults l.source ≡ g.S.Source.faults l.initial.source;
}

abbrev pub decreases-loop-buffer : goal.decreases-loop-buffer
decreases-loop-buffer g l = l.limit + 1 - vec_len l.text
