use Rattle.std.proofs.Common.{◌≡◌, ◌||◌, refl}
use Rattle.connections.proofs.QueueLemmas.{push-left}
use Rattle.connections.proofs.answer_queue.AnswerQueue.push.Goals as goal
use Rattle.connections.proofs.answer_queue.AnswerQueue.push.Goals.{then-self, else-self}

pub returns-clause-ok : goal.returns-clause-ok
returns-clause-ok c = λ m slot tied place.
    let closing : c.if-self.self ≡ (c.args.self.now.closing || c.args.place.closes) =
    elim c.if-self.branch [ then-self w ↦ rw (w.self-is, w.if-self.true) refl | else-self w ↦ rw (w.self-is, w.if-self.false) refl ] in
    rw (c.in_ok-push_back.ensures.items, closing) (push-left m c.args.place slot tied place)
