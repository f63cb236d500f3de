use Rattle.front.proofs.serve.serve_turn.Goals as goal

pub returns-in_ok-note-in-Fault-clause-served : goal.returns-in_ok-note-in-Fault-clause-served
returns-in_ok-note-in-Fault-clause-served g c = λ w met.
    let meets = met.meets in
    let taken = rw c.in-Fault.is at (c.take.ensures.taken meets.connection meets.holds met.without_sending) in
    rw c.not_out_of_memory.ensures (c.in_ok-note-in-Fault.ensures.given w _ (record { connection = meets.connection; open_is = meets.open_is; due_is = taken.0; answers = taken.1; behind_is = meets.behind_is; slicing_is = meets.slicing_is }))
