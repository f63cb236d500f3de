use Rattle.std.proofs.Common.{true}
use Rattle.connections.specs.AnswerQueues.{ReplyStandsFor}
use Rattle.connections.specs.Slots.{local_response, request_slot}
use Rattle.front.proofs.ServeLemmas.{given-away, local-stands}
use Rattle.front.proofs.treat.turn_away.Goals as goal

pub returns-clause-given : goal.returns-clause-given
returns-clause-given c = λ w b owes crowded.
    let replies : ReplyStandsFor c.local_reply.result (local_response 503) = rw c.local_reply.ensures (local-stands 503) in
    rw c.not_out_of_memory.ensures (given-away w c.args.c c.args.connection.now c.push.new.self b c.args.request.now owes crowded (λ m owed. c.in_ok-push.ensures.request m (request_slot c.args.request.now true (local_response 503)) (c.of_last_request.ensures (local_response 503) replies) owed))
