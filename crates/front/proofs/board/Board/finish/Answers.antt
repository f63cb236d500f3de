use Rattle.std.proofs.Common.{ap}
use Rattle.front.specs.Boards.{at_disk}
use Rattle.front.specs.Caches.{behind}
use Rattle.front.proofs.BoardLemmas.{ended-then}
use Rattle.front.proofs.board.Board.finish.Goals as goal

pub returns-clause-given : goal.returns-clause-given
returns-clause-given g c = λ w before has.
    let files = g.D.Disk.files c.args.disk.now in
    let faults = g.D.Disk.faults c.args.disk.now in
    ended-then (at_disk c.args.self.now files faults) (at_disk c.fill.new.self files faults) (at_disk c.settle.new.self (g.D.Disk.files c.settle.new.disk) (g.D.Disk.faults c.settle.new.disk)) w c.args.ended before c.in_ok-effect.effect c.in_ok-effect-2.effect has
    c.fill.ensures.connection c.fill.ensures.count (ap (λ x. behind x files faults) c.fill.ensures.cache) c.in_ok-effect.ensures.given c.in_ok-effect-2.ensures.notes c.in_ok-effect-2.ensures.conditions
