use Rattle.std.proofs.Common.{◌≡◌, ◌<◌, ◌∙◌, refl, sym, subst, arith}
use Rattle.front.specs.Boards.{at_disk}
use Rattle.run_events.specs.Events.{state_after_events}
use Rattle.serve_loop.specs.Turns.{turn_events}
use Rattle.serve_loop.specs.Steps.{RestsAt, TakesTurns, server_at}
use Rattle.serve_loop.proofs.TurnLemmas.{Serving, no_turns, one_more_turn, rests_at_first, served_turns, served_until_cut, served_until_failure}
use Rattle.serve_loop.proofs.serving.serve.Goals as goal

pub loop-made-init : goal.loop-made-init
loop-made-init g c = record { turns = λ w rests. no_turns _ w rests; next_count = refl; calls = c.docroot_calls_add_up.ensures.none _ }

pub loop-made-preserved : goal.loop-made-preserved
loop-made-preserved g c = record {
  turns = λ w rests.
      let t = c.loop-made.invariant.turns w rests in
      one_more_turn _ (server_at g.R.Renderer.publishing (g.R.Renderer.content c.loop-made.front.renderer) (at_disk c.loop-made.front.board (g.D.Disk.files c.loop-made.disk) (g.D.Disk.faults c.loop-made.disk)) (g.W.World.log c.loop-made.world) (g.W.World.send_faults c.loop-made.world)) _ c.loop-made.made w t (c.in-Whole.ensures.ends (state_after_events w (turn_events t.turns)) t.rests);
  next_count = c.in-Whole.ensures.cause ∙ c.loop-made.invariant.next_count;
  calls = c.docroot_calls_add_up.ensures.more _ _ _ c.loop-made.invariant.calls c.in-Whole.ensures.calls;
}

pub returns-in-WorldFailed-clause-served : goal.returns-in-WorldFailed-clause-served
returns-in-WorldFailed-clause-served g c w stands rest =
    let s : Serving = record {
      publishing = g.R.Renderer.publishing;
      content_old = g.R.Renderer.content c.args.front.now.renderer;
      content_new = g.R.Renderer.content c.turn.new.front.renderer;
      board_old = c.args.front.now.board;
      board_new = c.turn.new.front.board;
      files_old = g.D.Disk.files c.args.disk.now;
      files_new = g.D.Disk.files c.turn.new.disk;
      faults_old = g.D.Disk.faults c.args.disk.now;
      faults_new = g.D.Disk.faults c.turn.new.disk;
      told_old = g.W.World.log c.args.world.now;
      told_new = g.W.World.log c.turn.new.world;
      sends_old = g.W.World.send_faults c.args.world.now;
      sends_new = g.W.World.send_faults c.turn.new.world;
    } in
    let rests : RestsAt (server_at g.R.Renderer.publishing (g.R.Renderer.content c.args.front.now.renderer) (at_disk c.args.front.now.board (g.D.Disk.files c.args.disk.now) (g.D.Disk.faults c.args.disk.now)) (g.W.World.log c.args.world.now) (g.W.World.send_faults c.args.world.now)) w = rests_at_first g.R.Renderer.publishing (g.R.Renderer.content c.args.front.now.renderer) (at_disk c.args.front.now.board (g.D.Disk.files c.args.disk.now) (g.D.Disk.faults c.args.disk.now)) (g.W.World.log c.args.world.now) (g.W.World.send_faults c.args.world.now) w stands rest in
    let few : c.loop-made.made < c.args.turns = c.loop-made-test.true in
    served_until_failure (record { held = c.the_files_of_a_front_hold_its_log.ensures.held; landed = c.the_files_of_a_front_hold_its_log.ensures.landed; allowed = c.the_files_of_a_front_hold_its_log.ensures.allowed; grows = c.a_legal_log_grows_by_what_is_allowed.ensures.call }) s c.args.turns c.loop-made.made (g.W.World.next_faults c.args.world.now) (g.W.World.next_faults c.turn.new.world) w few
    (subst (λ v. TakesTurns (server_at g.R.Renderer.publishing (g.R.Renderer.content c.args.front.now.renderer) (at_disk c.args.front.now.board (g.D.Disk.files c.args.disk.now) (g.D.Disk.faults c.args.disk.now)) (g.W.World.log c.args.world.now) (g.W.World.send_faults c.args.world.now)) v c.loop-made.made w) (sym c.in-WorldFailed.ensures.ends) (c.loop-made.invariant.turns w rests))

pub returns-in-WorldFailed-clause-calls : goal.returns-in-WorldFailed-clause-calls
returns-in-WorldFailed-clause-calls g c = c.docroot_calls_add_up.ensures.more _ _ _ c.loop-made.invariant.calls c.in-WorldFailed.ensures.calls

pub returns-in-NoMemory-clause-served : goal.returns-in-NoMemory-clause-served
returns-in-NoMemory-clause-served g c w stands rest =
    let s : Serving = record {
      publishing = g.R.Renderer.publishing;
      content_old = g.R.Renderer.content c.args.front.now.renderer;
      content_new = g.R.Renderer.content c.turn.new.front.renderer;
      board_old = c.args.front.now.board;
      board_new = c.turn.new.front.board;
      files_old = g.D.Disk.files c.args.disk.now;
      files_new = g.D.Disk.files c.turn.new.disk;
      faults_old = g.D.Disk.faults c.args.disk.now;
      faults_new = g.D.Disk.faults c.turn.new.disk;
      told_old = g.W.World.log c.args.world.now;
      told_new = g.W.World.log c.turn.new.world;
      sends_old = g.W.World.send_faults c.args.world.now;
      sends_new = g.W.World.send_faults c.turn.new.world;
    } in
    let rests : RestsAt (server_at g.R.Renderer.publishing (g.R.Renderer.content c.args.front.now.renderer) (at_disk c.args.front.now.board (g.D.Disk.files c.args.disk.now) (g.D.Disk.faults c.args.disk.now)) (g.W.World.log c.args.world.now) (g.W.World.send_faults c.args.world.now)) w = rests_at_first g.R.Renderer.publishing (g.R.Renderer.content c.args.front.now.renderer) (at_disk c.args.front.now.board (g.D.Disk.files c.args.disk.now) (g.D.Disk.faults c.args.disk.now)) (g.W.World.log c.args.world.now) (g.W.World.send_faults c.args.world.now) w stands rest in
    let few : c.loop-made.made < c.args.turns = c.loop-made-test.true in
    let t = c.loop-made.invariant.turns w rests in
    served_until_cut s (server_at g.R.Renderer.publishing (g.R.Renderer.content c.loop-made.front.renderer) (at_disk c.loop-made.front.board (g.D.Disk.files c.loop-made.disk) (g.D.Disk.faults c.loop-made.disk)) (g.W.World.log c.loop-made.world) (g.W.World.send_faults c.loop-made.world)) c.args.turns c.loop-made.made (g.W.World.next_faults c.args.world.now) (g.W.World.next_faults c.turn.new.world) w few t
    (c.in-NoMemory.ensures.ends (state_after_events w (turn_events t.turns)) t.rests)

pub returns-in-NoMemory-clause-calls : goal.returns-in-NoMemory-clause-calls
returns-in-NoMemory-clause-calls g c = c.docroot_calls_add_up.ensures.more _ _ _ c.loop-made.invariant.calls c.in-NoMemory.ensures.calls

pub returns-clause-served : goal.returns-clause-served
returns-clause-served g c w stands rest =
    let s : Serving = record {
      publishing = g.R.Renderer.publishing;
      content_old = g.R.Renderer.content c.args.front.now.renderer;
      content_new = g.R.Renderer.content c.loop-made.front.renderer;
      board_old = c.args.front.now.board;
      board_new = c.loop-made.front.board;
      files_old = g.D.Disk.files c.args.disk.now;
      files_new = g.D.Disk.files c.loop-made.disk;
      faults_old = g.D.Disk.faults c.args.disk.now;
      faults_new = g.D.Disk.faults c.loop-made.disk;
      told_old = g.W.World.log c.args.world.now;
      told_new = g.W.World.log c.loop-made.world;
      sends_old = g.W.World.send_faults c.args.world.now;
      sends_new = g.W.World.send_faults c.loop-made.world;
    } in
    let rests : RestsAt (server_at g.R.Renderer.publishing (g.R.Renderer.content c.args.front.now.renderer) (at_disk c.args.front.now.board (g.D.Disk.files c.args.disk.now) (g.D.Disk.faults c.args.disk.now)) (g.W.World.log c.args.world.now) (g.W.World.send_faults c.args.world.now)) w = rests_at_first g.R.Renderer.publishing (g.R.Renderer.content c.args.front.now.renderer) (at_disk c.args.front.now.board (g.D.Disk.files c.args.disk.now) (g.D.Disk.faults c.args.disk.now)) (g.W.World.log c.args.world.now) (g.W.World.send_faults c.args.world.now) w stands rest in
    let whole : c.loop-made.made ≡ c.args.turns = omega (arith, c.loop-made-test.false, c.loop-made.auto.made-end) in
    served_turns (record { held = c.the_files_of_a_front_hold_its_log.ensures.held; landed = c.the_files_of_a_front_hold_its_log.ensures.landed; allowed = c.the_files_of_a_front_hold_its_log.ensures.allowed; grows = c.a_legal_log_grows_by_what_is_allowed.ensures.call }) s c.args.turns (g.W.World.next_faults c.args.world.now) (g.W.World.next_faults c.loop-made.world) w
    (subst (λ n. TakesTurns (server_at g.R.Renderer.publishing (g.R.Renderer.content c.args.front.now.renderer) (at_disk c.args.front.now.board (g.D.Disk.files c.args.disk.now) (g.D.Disk.faults c.args.disk.now)) (g.W.World.log c.args.world.now) (g.W.World.send_faults c.args.world.now)) (server_at g.R.Renderer.publishing (g.R.Renderer.content c.loop-made.front.renderer) (at_disk c.loop-made.front.board (g.D.Disk.files c.loop-made.disk) (g.D.Disk.faults c.loop-made.disk)) (g.W.World.log c.loop-made.world) (g.W.World.send_faults c.loop-made.world)) n w) whole (c.loop-made.invariant.turns w rests))
