use Rattle.front.proofs.ConnectionLemmas.{send-out_of_memory, send-holds}
use Rattle.front.proofs.connection.Connection.send.Goals as goal

pub returns-clause-sends : goal.returns-clause-sends
returns-clause-sends c = send-holds c.args.self.now c.send.new.self c.send.result c.send.ensures.sends

pub returns-clause-out_of_memory : goal.returns-clause-out_of_memory
returns-clause-out_of_memory c = send-out_of_memory c.args.self.now c.send.result c.send.ensures.out_of_memory
