use Rattle.front.proofs.FrontLemmas.{read-at}
use Rattle.front.proofs.board.Board.read.Goals as goal

pub returns-clause-reads : goal.returns-clause-reads
returns-clause-reads c = λ is. read-at c.args.self.now _ c.args.c c.args.bytes.now c.in-Some.connection.now c.read.new.self c.in-Some.ensures.value (c.get_mut.follows.holds c.read.new.self) c.in_ok-read.ensures
