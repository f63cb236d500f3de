use Rattle.std.proofs.Common.{sym, ◌∙◌, subst}
use Rattle.connections.specs.Connections.{with_end}
use Rattle.connections.specs.AnswerQueues.{IsLeft}
use Rattle.connections.proofs.PlaceLemmas.{filled-none, filled-some}
use Rattle.connections.proofs.QueueLemmas.{filled-left}
use Rattle.connections.proofs.answer_queue.AnswerQueue.fill.Goals as goal

pub returns-in-Some-clause-filled : goal.returns-in-Some-clause-filled
returns-in-Some-clause-filled c = λ m response says tied.
    subst (λ places. IsLeft places c.args.self.now.closing c.args.self.now.over c.args.self.now.spare (with_end c.args.awaited response m))
    (filled-some c.args.awaited c.args.reply c.args.self.now.places.items c.in-Some.at c.index_mut.result.now c.in-Some.ensures c.index_mut.ensures.value)
    (filled-left m c.args.awaited c.args.reply response says tied)

pub returns-in_default-clause-filled : goal.returns-in_default-clause-filled
returns-in_default-clause-filled c = λ m response says tied.
    subst (λ places. IsLeft places c.args.self.now.closing c.args.self.now.over c.args.self.now.spare (with_end c.args.awaited response m))
    (filled-none c.args.awaited c.args.reply c.args.self.now.places.items (sym c.awaiting_place.ensures ∙ c.in_default.is))
    (filled-left m c.args.awaited c.args.reply response says tied)
