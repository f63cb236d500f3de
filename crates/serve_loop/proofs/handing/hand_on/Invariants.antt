use Rattle.std.proofs.Common.{◌≡◌, List, Option, drop}
use Rattle.outside_world.specs.Faults.{HasRisenBy}
use Rattle.outside_world.specs.declared.world.WorldEntry.{WorldEntry}
use Rattle.serve_loop.specs.Hands.{HandsOn}
use Rattle.serve_loop.specs.declared.handing.HandedOn.{HandedOn}
use Rattle.serve_loop.proofs.handing.hand_on.Given as goal

abbrev pub invariant-loop-note : goal.invariant-loop-note
invariant-loop-note g l = record {
  log : (r : HandedOn) (new : Option (List WorldEntry)) → HandsOn r (g.W.World.log l.world) new (drop l.note-index l.notes) → HandsOn r (g.W.World.log l.initial.world) new l.notes;
  send_count : HasRisenBy 0 (g.W.World.send_faults l.initial.world) (g.W.World.send_faults l.world);
  next_count : g.W.World.next_faults l.world ≡ g.W.World.next_faults l.initial.world;
}
