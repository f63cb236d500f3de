use Rattle.std.proofs.Common.{arith, sym}
use Rattle.std.proofs.lemmas.List.{at_drop_all}
use Rattle.serve_loop.specs.Hands.{world_told_notes}
use Rattle.serve_loop.specs.declared.handing.HandedOn.TheVariants.{All}
use Rattle.serve_loop.proofs.handing.hand_on.Goals as goal

-- at the loop's end no note is left
pub returns-clause-log : goal.returns-clause-log
returns-clause-log g c =
    let log = g.W.World.log c.loop-note.world in
    c.loop-note.invariant.log All log (sym (at_drop_all (world_told_notes log) c.args.notes.now c.loop-note.note-index (omega arith)))
