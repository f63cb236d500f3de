use Rattle.std.proofs.Common.{true, false}
use Rattle.run_events.specs.Moves.{state_after_notes}
use Rattle.front.proofs.ServedLemmas.{given-all, given-more, given-none, open-still}
use Rattle.front.proofs.UseLemmas.{uses-none, uses-then}
use Rattle.front.proofs.serve.serve_all.Goals as goal

pub loop-effect-init : goal.loop-effect-init
loop-effect-init g c = record {
  given = λ w meets. given-none c.nothing-effect.result w c.args.c c.args.connection.now _ c.nothing-effect.ensures.notes c.nothing-effect.ensures.conditions meets;
  disk = uses-none (g.D.Disk.faults c.args.disk.now) (g.D.Disk.calls c.args.disk.now);
}

pub loop-effect-preserved-in-Continue-branch-3 : goal.loop-effect-preserved-in-Continue-branch-3
loop-effect-preserved-in-Continue-branch-3 g c = record {
  given = λ w meets.
      (let so_far = c.loop-effect.invariant.given w meets in
      let served = rw c.in-Said.is at c.in_ok-note.ensures.served in
      let one = served (state_after_notes w c.loop-effect.effect.notes.items) (open-still so_far.meets) in
      given-more false false c.loop-effect.effect c.push.new.self w c.args.c c.loop-effect.connection c.serve_one.new.connection _ _ _ c.in-Said.note c.in-Said.conditions so_far one.0 one.1 one.2 c.in_ok-push-in-Said.ensures.notes c.in_ok-push-in-Said.ensures.conditions);
  disk = uses-then _ _ _ _ _ _ c.loop-effect.invariant.disk c.serve_one.ensures.disk;
}

pub loop-effect-preserved : goal.loop-effect-preserved
loop-effect-preserved g c = record {
  given = λ w meets.
      (let so_far = c.loop-effect.invariant.given w meets in
      let served = rw c.in-Begun.is at c.in_ok-note.ensures.served in
      let one = served (state_after_notes w c.loop-effect.effect.notes.items) (open-still so_far.meets) in
      let begun =
      given-more false true c.loop-effect.effect c.push-in-Begun.new.self w c.args.c c.loop-effect.connection c.serve_one.new.connection _ _ _ c.in-Begun.note c.in-Begun.conditions so_far one.0 one.1 one.2 c.in_ok-push-in-Begun.ensures.notes c.in_ok-push-in-Begun.ensures.conditions in
      c.in_ok-push_first_slice-in-Begun.ensures.given w c.args.c _ begun);
  disk = uses-then _ _ _ _ _ _ (uses-then _ _ _ _ _ _ c.loop-effect.invariant.disk c.serve_one.ensures.disk) c.push_first_slice.ensures.disk;
}

pub returns-in-Quiet-clause-given : goal.returns-in-Quiet-clause-given
returns-in-Quiet-clause-given g c = λ w meets.
    let so_far = c.loop-effect.invariant.given w meets in
    let served = rw c.in-Quiet.is at c.in_ok-note.ensures.served in
    given-all false c.loop-effect.effect w c.args.c c.loop-effect.connection c.serve_one.new.connection _ _ _ so_far (served (state_after_notes w c.loop-effect.effect.notes.items) (open-still so_far.meets))

pub returns-in-Ended-clause-given : goal.returns-in-Ended-clause-given
returns-in-Ended-clause-given g c = λ w meets.
    let so_far = c.loop-effect.invariant.given w meets in
    let served = rw c.in-Ended.is at c.in_ok-note.ensures.served in
    given-all true c.loop-effect.effect w c.args.c c.loop-effect.connection c.serve_one.new.connection _ _ _ so_far (served (state_after_notes w c.loop-effect.effect.notes.items) (open-still so_far.meets))

pub returns-in_err-note-clause-disk : goal.returns-in_err-note-clause-disk
returns-in_err-note-clause-disk g c = uses-then _ _ _ _ _ _ c.loop-effect.invariant.disk c.serve_one.ensures.disk

pub returns-in_err-push-in-Said-clause-disk : goal.returns-in_err-push-in-Said-clause-disk
returns-in_err-push-in-Said-clause-disk g c = uses-then _ _ _ _ _ _ c.loop-effect.invariant.disk c.serve_one.ensures.disk

pub returns-in_err-push-in-Begun-clause-disk : goal.returns-in_err-push-in-Begun-clause-disk
returns-in_err-push-in-Begun-clause-disk g c = uses-then _ _ _ _ _ _ c.loop-effect.invariant.disk c.serve_one.ensures.disk

pub returns-in_err-push_first_slice-in-Begun-clause-disk : goal.returns-in_err-push_first_slice-in-Begun-clause-disk
returns-in_err-push_first_slice-in-Begun-clause-disk g c = uses-then _ _ _ _ _ _ (uses-then _ _ _ _ _ _ c.loop-effect.invariant.disk c.serve_one.ensures.disk) c.push_first_slice.ensures.disk

pub returns-in-Quiet-clause-disk : goal.returns-in-Quiet-clause-disk
returns-in-Quiet-clause-disk g c = uses-then _ _ _ _ _ _ c.loop-effect.invariant.disk c.serve_one.ensures.disk

pub returns-in-Ended-clause-disk : goal.returns-in-Ended-clause-disk
returns-in-Ended-clause-disk g c = uses-then _ _ _ _ _ _ c.loop-effect.invariant.disk c.serve_one.ensures.disk
