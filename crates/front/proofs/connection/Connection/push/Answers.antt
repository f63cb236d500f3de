use Rattle.std.proofs.Common.{refl}
use Rattle.connections.specs.Connections.{with_slot}
use Rattle.front.proofs.ConnectionLemmas.{push-fault, push-owed}
use Rattle.front.proofs.connection.Connection.push.Goals as goal

pub returns-clause-request : goal.returns-clause-request
returns-clause-request c = λ m slot tied owes.
    c.in_ok-advance.ensures.holds (with_slot slot m) (push-owed c.args.self.now _ m slot owes refl refl refl refl (c.in_ok-push.ensures.ok m slot owes.answers tied))

pub returns-clause-fault : goal.returns-clause-fault
returns-clause-fault c = λ m slot tied closes left.
    c.in_ok-advance.ensures.holds (with_slot slot m) (push-fault _ m slot closes left.peer_is (c.in_ok-push.ensures.ok m slot left.answers tied))
