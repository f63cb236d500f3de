use Rattle.std.proofs.Common.{string_bytes}
use Rattle.htl_blocks.proofs.SheetSteps.{round_over}
use Rattle.htl_blocks.proofs.sheet.Sheet.begin_round.Goals as goal

pub returns-then-self-ge-MOST_ROUNDS-clause-parts : goal.returns-then-self-ge-MOST_ROUNDS-clause-parts
returns-then-self-ge-MOST_ROUNDS-clause-parts c =
    λ known. round_over c.args.self.now c.self.inside.of c.self.inside.keeping c.self.inside.pieces (string_bytes c.self.inside.tail) c.self.inside.rounds c.self.view_is c.if-self-ge-MOST_ROUNDS.true c.self.invariant.1
