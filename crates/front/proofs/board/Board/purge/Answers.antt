use Rattle.front.specs.Boards.{at_disk}
use Rattle.front.proofs.EventLemmas.{sliced, sliced-none}
use Rattle.front.proofs.FrontLemmas.{ok-map-two}
use Rattle.front.proofs.UseLemmas.{uses-then}
use Rattle.front.proofs.board.Board.purge.Goals as goal

pub returns-in_default-clause-event : goal.returns-in_default-clause-event
returns-in_default-clause-event g c = ok-map-two c.idle.result c.idle.ensures.notes c.idle.ensures.conditions (λ effect notes under w tied.
    let kept = c.in_default.ensures.none w tied.behind_is in
    sliced-none (at_disk c.args.self.now (g.D.Disk.files c.args.disk.now) (g.D.Disk.faults c.args.disk.now)) (at_disk (record { open_connections = c.args.self.now.open_connections; cache = c.slice.new.self }) (g.D.Disk.files c.slice.new.disk) (g.D.Disk.faults c.slice.new.disk)) w effect kept.0
    (record { open_connections = tied.open_connections; behind_is = kept.1; slicing_is = tied.slicing_is }) c.in_default.ensures.quiet notes under)

pub returns-clause-event : goal.returns-clause-event
returns-clause-event g c = λ w tied.
    let ends = c.in-Some.ensures.slice w tied.behind_is in
    sliced (at_disk c.args.self.now (g.D.Disk.files c.args.disk.now) (g.D.Disk.faults c.args.disk.now)) (at_disk c.finish.new.self (g.D.Disk.files c.finish.new.disk) (g.D.Disk.faults c.finish.new.disk)) _ _ w c.in-Some.ended c.in_ok-effect.effect ends
    (c.in_ok-effect.ensures.given w (g.D.Disk.faults c.args.disk.now) (record { open_connections = tied.open_connections; ending = ends.ending }))

pub returns-in_err-effect-clause-disk : goal.returns-in_err-effect-clause-disk
returns-in_err-effect-clause-disk g c = uses-then _ _ _ _ _ _ c.slice.ensures.disk c.finish.ensures.disk

pub returns-clause-disk : goal.returns-clause-disk
returns-clause-disk g c = uses-then _ _ _ _ _ _ c.slice.ensures.disk c.finish.ensures.disk
