use Rattle.std.proofs.Common.{refl}
use Rattle.front.proofs.ConnectionLemmas.{new-holds}
use Rattle.front.proofs.connection.Connection.new.Goals as goal

pub returns : goal.returns
returns c = new-holds _ c.args.peer.now c.in_ok-duplicate.ensures c.in_ok-new.ensures c.new-2.ensures.items refl (c.in_ok-new-2.ensures c.args.peer.now)
