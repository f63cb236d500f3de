use Rattle.std.proofs.Common.{refl}
use Rattle.front.specs.Boards.{at_disk}
use Rattle.front.proofs.EventLemmas.{delivered-none, landed}
use Rattle.front.proofs.FrontLemmas.{ok-map-two}
use Rattle.front.proofs.UseLemmas.{uses-then}
use Rattle.front.proofs.board.Board.deliver.Goals as goal

pub returns-in_default-clause-event : goal.returns-in_default-clause-event
returns-in_default-clause-event g c = ok-map-two c.idle.result c.idle.ensures.notes c.idle.ensures.conditions (λ effect notes under w tied. delivered-none (at_disk c.args.self.now (g.D.Disk.files c.args.disk.now) (g.D.Disk.faults c.args.disk.now)) (at_disk (record { open_connections = c.args.self.now.open_connections; cache = c.deliver.new.self }) (g.D.Disk.files c.deliver.new.disk) (g.D.Disk.faults c.deliver.new.disk)) w c.args.pick.now effect tied (rw (c.in_default.ensures.same.0, c.in_default.ensures.same.1, c.in_default.ensures.same.2) refl) c.in_default.ensures.none notes under)

pub returns-clause-event : goal.returns-clause-event
returns-clause-event g c = λ w tied.
    let ends = (c.in-Some.ensures.landing w tied.behind_is tied.slicing_is) in
    landed (at_disk c.args.self.now (g.D.Disk.files c.args.disk.now) (g.D.Disk.faults c.args.disk.now)) (at_disk c.finish.new.self (g.D.Disk.files c.finish.new.disk) (g.D.Disk.faults c.finish.new.disk)) _ _ w c.args.pick.now c.in-Some.ended c.in_ok-effect.effect ends (c.in_ok-effect.ensures.given w (g.D.Disk.faults c.args.disk.now) (record { open_connections = tied.open_connections; ending = ends.ending }))

pub returns-in_err-effect-clause-disk : goal.returns-in_err-effect-clause-disk
returns-in_err-effect-clause-disk g c = uses-then _ _ _ _ _ _ c.deliver.ensures.disk c.finish.ensures.disk

pub returns-clause-disk : goal.returns-clause-disk
returns-clause-disk g c = uses-then _ _ _ _ _ _ c.deliver.ensures.disk c.finish.ensures.disk
