use Rattle.std.proofs.Common.{sym, ◌∙◌}
use Rattle.front.specs.Boards.{at_disk}
use Rattle.front.proofs.EventLemmas.{piece-none, piece-there}
use Rattle.front.proofs.FrontLemmas.{ok-map-two}
use Rattle.front.proofs.board.Board.take_piece.Goals as goal

pub returns-then-not-branch-clause-event : goal.returns-then-not-branch-clause-event
returns-then-not-branch-clause-event g c = ok-map-two c.idle.result c.idle.ensures.notes c.idle.ensures.conditions (λ effect notes under w tied.
    rw (c.in_ok-read.ensures.same c.if-not-branch.true) (piece-none (at_disk c.args.self.now (g.D.Disk.files c.args.disk.now) (g.D.Disk.faults c.args.disk.now)) w c.args.c c.args.bytes.now effect tied (sym c.in_ok-read.ensures.there ∙ c.if-not-branch.true) notes under))

pub returns-clause-event : goal.returns-clause-event
returns-clause-event g c = λ w tied. piece-there (at_disk c.args.self.now (g.D.Disk.files c.args.disk.now) (g.D.Disk.faults c.args.disk.now)) c.read.new.self (at_disk c.settle.new.self (g.D.Disk.files c.settle.new.disk) (g.D.Disk.faults c.settle.new.disk)) w c.args.c c.args.bytes.now c.in_ok-effect.effect tied (rw c.bytes.ensures at (c.in_ok-read.ensures.reads c.if-not-branch.false)) c.in_ok-effect.ensures.given
