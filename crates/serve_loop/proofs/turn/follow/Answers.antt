use Rattle.std.proofs.lemmas.Result.{on_err_weaker, on_ok_weaker}
use Rattle.sp_base.proofs.ResultLemmas.{OnErr-from}
use Rattle.front.specs.Boards.{at_disk}
use Rattle.serve_loop.specs.Turns.{stage_of}
use Rattle.serve_loop.specs.Steps.{server_at}
use Rattle.serve_loop.proofs.RoundLemmas.{turn_cut_at_end, turn_cut_landing, turn_rests}
use Rattle.serve_loop.proofs.turn.follow.Goals as goal

pub returns-in_err-land_all-clause-err : goal.returns-in_err-land_all-clause-err
returns-in_err-land_all-clause-err g c =
    let one = server_at g.R.Renderer.publishing (g.R.Renderer.content c.begin.new.front.renderer) (at_disk c.begin.new.front.board (g.D.Disk.files c.begin.new.disk) (g.D.Disk.faults c.begin.new.disk)) (g.W.World.log c.begin.new.world) (g.W.World.send_faults c.begin.new.world) in
    OnErr-from c.from_residual-in_err-land_all.result (λ w serves awaits none. turn_cut_landing _ one _ (stage_of c.args.news) w (c.in_ok-begin.ensures.ok w serves awaits none) c.in_err-land_all.ensures.err)

pub returns-in_err-land_all-clause-calls : goal.returns-in_err-land_all-clause-calls
returns-in_err-land_all-clause-calls g c = c.docroot_calls_add_up.ensures.more _ _ _ c.in_ok-begin.ensures.calls c.in_err-land_all.ensures.calls

pub returns-clause-ok : goal.returns-clause-ok
returns-clause-ok g c =
    let one = server_at g.R.Renderer.publishing (g.R.Renderer.content c.begin.new.front.renderer) (at_disk c.begin.new.front.board (g.D.Disk.files c.begin.new.disk) (g.D.Disk.faults c.begin.new.disk)) (g.W.World.log c.begin.new.world) (g.W.World.send_faults c.begin.new.world) in
    let two = server_at g.R.Renderer.publishing (g.R.Renderer.content c.land_all.new.front.renderer) (at_disk c.land_all.new.front.board (g.D.Disk.files c.land_all.new.disk) (g.D.Disk.faults c.land_all.new.disk)) (g.W.World.log c.land_all.new.world) (g.W.World.send_faults c.land_all.new.world) in
    on_ok_weaker c.purge_once.result (λ ends w serves awaits none. turn_rests _ one two _ (stage_of c.args.news) w (c.in_ok-begin.ensures.ok w serves awaits none) c.in_ok-land_all.ensures.ok ends) c.purge_once.ensures.ok

pub returns-clause-err : goal.returns-clause-err
returns-clause-err g c =
    let one = server_at g.R.Renderer.publishing (g.R.Renderer.content c.begin.new.front.renderer) (at_disk c.begin.new.front.board (g.D.Disk.files c.begin.new.disk) (g.D.Disk.faults c.begin.new.disk)) (g.W.World.log c.begin.new.world) (g.W.World.send_faults c.begin.new.world) in
    let two = server_at g.R.Renderer.publishing (g.R.Renderer.content c.land_all.new.front.renderer) (at_disk c.land_all.new.front.board (g.D.Disk.files c.land_all.new.disk) (g.D.Disk.faults c.land_all.new.disk)) (g.W.World.log c.land_all.new.world) (g.W.World.send_faults c.land_all.new.world) in
    on_err_weaker c.purge_once.result (λ cuts w serves awaits none. turn_cut_at_end _ one two _ (stage_of c.args.news) w (c.in_ok-begin.ensures.ok w serves awaits none) c.in_ok-land_all.ensures.ok cuts) c.purge_once.ensures.err

pub returns-clause-calls : goal.returns-clause-calls
returns-clause-calls g c = c.docroot_calls_add_up.ensures.more _ _ _ (c.docroot_calls_add_up.ensures.more _ _ _ c.in_ok-begin.ensures.calls c.in_ok-land_all.ensures.calls) c.purge_once.ensures.calls
