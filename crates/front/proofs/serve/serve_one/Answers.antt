use Rattle.front.proofs.ServedLemmas.{ok-map}
use Rattle.front.proofs.ServeLemmas.{given-sent}
use Rattle.front.proofs.serve.serve_one.Goals as goal

pub returns-in-Some-clause-served : goal.returns-in-Some-clause-served
returns-in-Some-clause-served g c = λ w meets. given-sent w c.args.c c.args.connection.now c.send.new.self _ c.in-Some.sending meets c.in-Some.ensures.sends c.in-Some.ensures.out_of_memory

pub returns-in-None-clause-served : goal.returns-in-None-clause-served
returns-in-None-clause-served g c = ok-map c.serve_turn.result c.serve_turn.ensures.served (λ served gives w meets. gives w (record {
  meets = record { connection = meets.connection; open_is = meets.open_is; holds = rw c.in-None.ensures.same meets.holds; behind_is = meets.behind_is; slicing_is = meets.slicing_is };
  without_sending = c.in-None.ensures.waits meets.connection meets.holds;
}))
