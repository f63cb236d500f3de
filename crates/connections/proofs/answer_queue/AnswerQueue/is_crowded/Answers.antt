use Rattle.std.proofs.Common.{◌∙◌, ap, nat_le}
use Rattle.connections.proofs.PlaceLemmas.{count-tied}
use Rattle.connections.proofs.answer_queue.AnswerQueue.is_crowded.Goals as goal

pub returns : goal.returns
returns c = λ m tied. ap (λ n. nat_le 64 n) (c.unsent_requests.ensures ∙ count-tied _ _ tied.unsent)
