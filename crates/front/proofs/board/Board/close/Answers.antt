use Rattle.std.proofs.Common.{sym, ◌∙◌}
use Rattle.front.proofs.EventLemmas.{gone-none, gone-there}
use Rattle.front.proofs.FrontLemmas.{ok-map-two}
use Rattle.front.specs.Boards.{at_disk}
use Rattle.front.proofs.board.Board.close.Goals as goal

pub returns-then-not-contains_key : goal.returns-then-not-contains_key
returns-then-not-contains_key c = ok-map-two c.idle.result c.idle.ensures.notes c.idle.ensures.conditions (λ effect notes under files faults w tied. gone-none (at_disk c.args.self.now files faults) w c.args.c effect tied (sym c.contains_key.ensures ∙ c.if-not-contains_key.true) notes under)

pub returns : goal.returns
returns c = λ files faults w tied. gone-there (at_disk c.args.self.now files faults) w c.args.c c.remove.new.self c.remove.result c.nothing.result tied (sym c.contains_key.ensures ∙ c.if-not-contains_key.false) c.remove.ensures.updates c.remove.ensures.value c.remove.ensures.len c.nothing.ensures.notes c.nothing.ensures.conditions
