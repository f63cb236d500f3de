use Rattle.std.proofs.Common.{◌∙◌, refl}
use Rattle.sp_base.proofs.ResultLemmas.{OnErr-from}
use Rattle.front.specs.Boards.{at_disk}
use Rattle.serve_loop.specs.Steps.{server_at}
use Rattle.serve_loop.proofs.RoundLemmas.{all_landed, first_is_left, landings_cut, none_is_left, none_landed_yet, none_said, one_more_landed, some_said}
use Rattle.serve_loop.proofs.rounds.land_all.Goals as goal

pub loop-round-init : goal.loop-round-init
loop-round-init g c = record {
  lands = λ w serving h. none_landed_yet _ w serving h;
  next_count = refl;
  calls = c.docroot_calls_add_up.ensures.none _;
}

pub returns-then-is_none-clause-ok : goal.returns-then-is_none-clause-ok
returns-then-is_none-clause-ok g c w serving h =
    let l = c.loop-round.invariant.lands w serving h in
    all_landed _ _ c.loop-round.round w l (none_is_left l.left.flights _ (c.unrendered.ensures _ _ _ l.left l.serving.serves.stands) (none_said c.unrendered.result c.is_none.result c.is_none.ensures c.if-is_none.true) l.unrendered)

pub returns-in_err-land_first-clause-err : goal.returns-in_err-land_first-clause-err
returns-in_err-land_first-clause-err g c =
    let mid = server_at g.R.Renderer.publishing (g.R.Renderer.content c.loop-round.front.renderer) (at_disk c.loop-round.front.board (g.D.Disk.files c.loop-round.disk) (g.D.Disk.faults c.loop-round.disk)) (g.W.World.log c.loop-round.world) (g.W.World.send_faults c.loop-round.world) in
    OnErr-from c.from_residual.result
    (λ w serving h.
    let l = c.loop-round.invariant.lands w serving h in
    landings_cut _ mid _ c.loop-round.round w l (first_is_left l.left.flights _ (c.unrendered.ensures _ _ _ l.left l.serving.serves.stands) (some_said c.unrendered.result c.is_none.result c.is_none.ensures c.if-is_none.false) l.unrendered) c.in_err-land_first.ensures.err)

pub returns-in_err-land_first-clause-calls : goal.returns-in_err-land_first-clause-calls
returns-in_err-land_first-clause-calls g c = c.docroot_calls_add_up.ensures.more _ _ _ c.loop-round.invariant.calls c.in_err-land_first.ensures.calls

pub loop-round-preserved : goal.loop-round-preserved
loop-round-preserved g c =
    let mid = server_at g.R.Renderer.publishing (g.R.Renderer.content c.loop-round.front.renderer) (at_disk c.loop-round.front.board (g.D.Disk.files c.loop-round.disk) (g.D.Disk.faults c.loop-round.disk)) (g.W.World.log c.loop-round.world) (g.W.World.send_faults c.loop-round.world) in
    record {
      lands = λ w serving h.
          let l = c.loop-round.invariant.lands w serving h in
          one_more_landed _ mid _ c.loop-round.round w l (first_is_left l.left.flights _ (c.unrendered.ensures _ _ _ l.left l.serving.serves.stands) (some_said c.unrendered.result c.is_none.result c.is_none.ensures c.if-is_none.false) l.unrendered) c.in_ok-land_first.ensures.ok;
      next_count = c.in_ok-land_first.ensures.next_count ∙ c.loop-round.invariant.next_count;
      calls = c.docroot_calls_add_up.ensures.more _ _ _ c.loop-round.invariant.calls c.in_ok-land_first.ensures.calls;
    }
