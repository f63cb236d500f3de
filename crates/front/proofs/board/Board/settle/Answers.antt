use Rattle.std.proofs.Common.{ap, ◌∙◌}
use Rattle.front.specs.Caches.{under_both}
use Rattle.front.specs.Boards.{at_disk}
use Rattle.front.proofs.BoardLemmas.{settled-over, settled-quiet}
use Rattle.front.proofs.board.Board.settle.Goals as goal
use Rattle.front.proofs.board.Board.settle.Goals.{then-over+in_ok-push, else-over}

pub returns-clause-given : goal.returns-clause-given
returns-clause-given g c = λ w tied. elim c.if-over.branch [
  | then-over+in_ok-push b ↦ rw (b.self-is, b.effect-is) (settled-over (at_disk c.args.self.now (g.D.Disk.files c.args.disk.now) (g.D.Disk.faults c.args.disk.now)) w c.args.c c.in-Some.connection.now c.serve_all.new.connection c.serve_all.new.cache (g.D.Disk.files c.serve_all.new.disk) (g.D.Disk.faults c.serve_all.new.disk) (c.get_mut.follows.lender c.serve_all.new.connection) b.remove.new.self c.in_ok-effect.field-0.effect b.push.new.self c.in_ok-effect.field-0.over
      tied c.in-Some.ensures.value c.in_ok-effect.ensures.given b.if-over.true (c.get_mut.follows.holds c.serve_all.new.connection) b.remove.ensures.updates b.remove.result b.remove.ensures.value b.remove.ensures.len b.in_ok-push.ensures.notes (b.in_ok-push.ensures.conditions ∙ ap (under_both c.in_ok-effect.field-0.effect.conditions) b.not_out_of_memory.ensures))
  | else-over b ↦ rw (b.self-is, b.effect-is) (settled-quiet (at_disk c.args.self.now (g.D.Disk.files c.args.disk.now) (g.D.Disk.faults c.args.disk.now)) w c.args.c c.in-Some.connection.now c.serve_all.new.connection c.serve_all.new.cache (g.D.Disk.files c.serve_all.new.disk) (g.D.Disk.faults c.serve_all.new.disk) (c.get_mut.follows.lender c.serve_all.new.connection) c.in_ok-effect.field-0.effect c.in_ok-effect.field-0.over
      tied c.in-Some.ensures.value c.in_ok-effect.ensures.given b.if-over.false (c.get_mut.follows.holds c.serve_all.new.connection))
]
