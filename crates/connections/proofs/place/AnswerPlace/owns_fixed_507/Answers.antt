use Rattle.std.proofs.Common.{ap, ◌∙◌, sym}
use Rattle.http_front.specs.Answers.{answer_bytes}
use Rattle.connections.specs.Slots.{are_fixed_507}
use Rattle.connections.specs.AnswerQueues.{reply_bytes}
use Rattle.connections.proofs.FixedLemmas.{own_unfixed}
use Rattle.connections.proofs.place.AnswerPlace.owns_fixed_507.Goals as goal

pub returns-in-Says : goal.returns-in-Says
returns-in-Says c =
    c.is_sent_as_fixed_507.ensures ∙ ap (λ a. are_fixed_507 (answer_bytes c.args.self.now.head_only c.args.self.now.closes a)) c.answer.ensures
    ∙ ap (λ r. are_fixed_507 (reply_bytes c.args.self.now.head_only c.args.self.now.closes r)) (sym c.in-Says.is)

pub returns-in-Own : goal.returns-in-Own
returns-in-Own c = own_unfixed c.args.self.now.head_only c.args.self.now.closes c.in-Own.field-0 ∙ ap (λ r. are_fixed_507 (reply_bytes c.args.self.now.head_only c.args.self.now.closes r)) (sym c.in-Own.is)
