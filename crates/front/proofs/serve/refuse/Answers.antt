use Rattle.std.proofs.Common.{refl}
use Rattle.connections.specs.AnswerQueues.{ReplyStandsFor}
use Rattle.connections.specs.Slots.{fault_slot, local_response}
use Rattle.http_front.specs.Faults.{fault_status}
use Rattle.front.proofs.ServeLemmas.{given-refusal, local-stands}
use Rattle.front.proofs.serve.refuse.Goals as goal

pub returns-clause-given : goal.returns-clause-given
returns-clause-given c = λ w b owes.
    let status = c.status-status.ensures in
    let replies : ReplyStandsFor c.local_reply.result (local_response (fault_status c.args.fault)) = rw (c.local_reply.ensures, status) (local-stands (fault_status c.args.fault)) in
    rw status (given-refusal w c.args.c c.args.connection.now c.push.new.self b c.args.fault owes
    (λ m kept. c.in_ok-push.ensures.fault m (fault_slot (local_response (fault_status c.args.fault))) (c.of_fault.ensures (local_response (fault_status c.args.fault)) replies) refl kept))
