use Rattle.std.proofs.Common.{sym, ◌∙◌, arith}
use Rattle.std.proofs.lemmas.Grind.{common_steps}
use Rattle.sp_base.proofs.OptionLemmas.{none_from_test}
use Rattle.front.specs.Boards.{at_disk}
use Rattle.front.proofs.BoardLemmas.{none-one}
use Rattle.front.proofs.EventLemmas.{opened-full, opened-new, opened-there}
use Rattle.front.proofs.FrontLemmas.{ok-map-two}
use Rattle.front.proofs.board.Board.open.Goals as goal

pub returns-then-contains_key : goal.returns-then-contains_key
returns-then-contains_key c = ok-map-two c.idle.result c.idle.ensures.notes c.idle.ensures.conditions (λ effect notes under files faults w tied. opened-there (at_disk c.args.self.now files faults) w c.args.c c.args.peer.now effect tied (sym c.contains_key.ensures ∙ c.if-contains_key.true) notes under)

pub returns-then-len-ge-MOST_CONNECTIONS : goal.returns-then-len-ge-MOST_CONNECTIONS
returns-then-len-ge-MOST_CONNECTIONS c =
    ok-map-two c.one.result c.one.ensures.notes c.one.ensures.conditions (λ effect notes under files faults w tied.
    opened-full (at_disk c.args.self.now files faults) w c.args.c c.args.peer.now effect tied (none_from_test _ (sym c.contains_key.ensures ∙ c.if-contains_key.false)) (grind (arith, common_steps)) notes (under ∙ c.not_out_of_memory.ensures))

pub returns : goal.returns
returns c = λ files faults w tied.
    let absent = none_from_test _ (sym c.contains_key.ensures ∙ c.if-contains_key.false) in
    opened-new (at_disk c.args.self.now files faults) w c.args.c c.args.peer.now c.in_ok-new.field-0 c.insert.new.self c.nothing.result tied absent (grind (arith, common_steps)) c.in_ok-new.ensures c.in_ok-insert.ensures.updates (c.in_ok-insert.ensures.len ∙ none-one c.in_ok-insert.field-0 _ (c.in_ok-insert.ensures.old ∙ absent)) c.nothing.ensures.notes c.nothing.ensures.conditions
