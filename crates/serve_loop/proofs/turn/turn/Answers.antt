use Rattle.std.proofs.Common.{◌∙◌, ap, subst}
use Rattle.outside_world.specs.Worlds.{told_came}
use Rattle.front.specs.Boards.{at_disk}
use Rattle.serve_loop.specs.Steps.{CutsTurn, MakesTurn, server_at}
use Rattle.serve_loop.proofs.TurnLemmas.{cut_turn, took_turn}
use Rattle.serve_loop.proofs.turn.turn.Goals as goal

pub returns-in-Ok-follow-clause-ends : goal.returns-in-Ok-follow-clause-ends
returns-in-Ok-follow-clause-ends g c w rests =
    let sends = c.next.ensures.send_count ∙ c.expect.ensures.send_count in
    let told = c.in-Ok.ensures.ok ∙ ap (λ t. told_came t c.in-Ok.news) c.expect.ensures.same in
    took_turn g.R.Renderer.publishing (g.R.Renderer.content c.args.front.now.renderer) (at_disk c.args.front.now.board (g.D.Disk.files c.args.disk.now) (g.D.Disk.faults c.args.disk.now)) (g.W.World.log c.args.world.now) (g.W.World.log c.next.new.self)
    (g.W.World.send_faults c.args.world.now) _ c.in-Ok.news w told
    (subst
    (λ n. MakesTurn c.in-Ok.news (server_at g.R.Renderer.publishing (g.R.Renderer.content c.args.front.now.renderer) (at_disk c.args.front.now.board (g.D.Disk.files c.args.disk.now) (g.D.Disk.faults c.args.disk.now)) (g.W.World.log c.next.new.self) n)
    (server_at g.R.Renderer.publishing (g.R.Renderer.content c.follow.new.front.renderer) (at_disk c.follow.new.front.board (g.D.Disk.files c.follow.new.disk) (g.D.Disk.faults c.follow.new.disk)) (g.W.World.log c.follow.new.world)
    (g.W.World.send_faults c.follow.new.world)))
    sends c.in-Ok-follow.ensures.ok)
    rests

pub returns-in-Err-clause-ends : goal.returns-in-Err-clause-ends
returns-in-Err-clause-ends g c w rests =
    let sends = c.next.ensures.send_count ∙ c.expect.ensures.send_count in
    let told = c.in-Ok.ensures.ok ∙ ap (λ t. told_came t c.in-Ok.news) c.expect.ensures.same in
    cut_turn g.R.Renderer.publishing (g.R.Renderer.content c.args.front.now.renderer) (at_disk c.args.front.now.board (g.D.Disk.files c.args.disk.now) (g.D.Disk.faults c.args.disk.now)) (g.W.World.log c.args.world.now) (g.W.World.log c.next.new.self)
    (g.W.World.send_faults c.args.world.now) _ c.in-Ok.news w told
    (subst
    (λ n. CutsTurn c.in-Ok.news (server_at g.R.Renderer.publishing (g.R.Renderer.content c.args.front.now.renderer) (at_disk c.args.front.now.board (g.D.Disk.files c.args.disk.now) (g.D.Disk.faults c.args.disk.now)) (g.W.World.log c.next.new.self) n)
    (server_at g.R.Renderer.publishing (g.R.Renderer.content c.follow.new.front.renderer) (at_disk c.follow.new.front.board (g.D.Disk.files c.follow.new.disk) (g.D.Disk.faults c.follow.new.disk)) (g.W.World.log c.follow.new.world)
    (g.W.World.send_faults c.follow.new.world)))
    sends c.in-Err.ensures.err)
    rests
