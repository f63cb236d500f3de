use Rattle.std.proofs.Common.{◌≡◌, ◌∷◌, ap, sym, ◌∙◌}
use Rattle.connections.specs.AnswerQueues.{first_has_reply}
use Rattle.connections.proofs.QueueLemmas.{held-waits, in-place-due, over-waits, sent-left}
use Rattle.connections.proofs.answer_queue.AnswerQueue.send.Goals as goal
use Rattle.connections.proofs.answer_queue.AnswerQueue.send.Goals.{then-self-via-then-self, then-self-via-else-self+then-not-is_ready}

pub returns-then-self-clause-waits : goal.returns-then-self-clause-waits
returns-then-self-clause-waits c = λ m tied.
    elim c.then-self.branch [
      | then-self-via-then-self w ↦ over-waits m tied w.if-self.true
      | then-self-via-else-self+then-not-is_ready w ↦ held-waits m tied (sym w.is_ready.ensures ∙ w.if-not-is_ready.true)
    ]

pub returns-clause-sends : goal.returns-clause-sends
returns-clause-sends c = λ m tied.
    let kept = c.make_sending-sending.ensures.kept in
    let place = c.in_ok-place.place in
    let places : c.args.self.now.places.items ≡ place ∷ c.make_sending-sending.new.self.places.items = c.in_ok-place.ensures.items ∙ ap (λ q. place ∷ q.items) (sym kept.0) in
    let has = ap first_has_reply (sym places) ∙ sym c.is_ready.ensures ∙ c.if-not-is_ready.false in
    sent-left m place _ c.make_sending-sending.result _ _ _ tied places kept.1 c.if-self.false has c.make_sending-sending.ensures.sends c.make_sending-sending.ensures.spare
    c.is_last-self.ensures

pub returns-clause-out_of_memory : goal.returns-clause-out_of_memory
returns-clause-out_of_memory c = λ m tied out_of_memory.
    let kept = c.make_sending-sending.ensures.kept in
    let place = c.in_ok-place.place in
    let places : c.args.self.now.places.items ≡ place ∷ c.make_sending-sending.new.self.places.items = c.in_ok-place.ensures.items ∙ ap (λ q. place ∷ q.items) (sym kept.0) in
    let has = ap first_has_reply (sym places) ∙ sym c.is_ready.ensures ∙ c.if-not-is_ready.false in
    in-place-due m place _ c.make_sending-sending.result tied places c.if-self.false has c.make_sending-sending.ensures.sends out_of_memory
