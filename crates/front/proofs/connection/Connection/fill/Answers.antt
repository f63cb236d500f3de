use Rattle.front.proofs.ConnectionLemmas.{fill-holds}
use Rattle.front.proofs.connection.Connection.fill.Goals as goal

pub returns-clause-filled : goal.returns-clause-filled
returns-clause-filled c = λ m response says holds. fill-holds c.args.self.now c.fill.new.self m c.args.awaited response holds (c.fill.ensures.filled m response says holds.keeps.answers)
