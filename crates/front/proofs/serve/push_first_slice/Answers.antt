use Rattle.std.proofs.Common.{true, false}
use Rattle.run_events.specs.Moves.{state_after_notes}
use Rattle.front.proofs.ServedLemmas.{given-more, on-ok}
use Rattle.front.proofs.ServeLemmas.{given-slice}
use Rattle.front.proofs.serve.push_first_slice.Goals as goal

pub returns-clause-given : goal.returns-clause-given
returns-clause-given g c =
    on-ok c.push.result c.push.ensures.notes c.push.ensures.conditions (λ notes conditions w k old given.
    let slice = c.in-Some.ensures.slice (state_after_notes w c.args.effect.now.notes.items) given.meets.behind_is in
    let one = given-slice (state_after_notes w c.args.effect.now.notes.items) k c.args.connection.now c.end_wait.new.self _ _ c.in-Some.ended given.meets slice c.end_wait.ensures.filled in
    given-more true false c.args.effect.now c.push.new.self w k c.args.connection.now c.end_wait.new.self old _ _ c.in-Some.ended.note c.in-Some.ended.conditions given one.0 one.1 one.2 notes conditions)
