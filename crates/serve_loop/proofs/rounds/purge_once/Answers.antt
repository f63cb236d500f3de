use Rattle.std.proofs.lemmas.Result.{on_err_weaker, on_ok_weaker}
use Rattle.serve_loop.proofs.RoundLemmas.{FlightLaws, no_slice, slice_cut, slice_ends}
use Rattle.serve_loop.proofs.rounds.purge_once.Goals as goal

pub returns-then-purging-clause-ok : goal.returns-then-purging-clause-ok
returns-then-purging-clause-ok g c =
    let laws : FlightLaws = record {
      rendered = c.rounds_take_flights_out_of_the_air.ensures.rendered;
      landed = c.rounds_take_flights_out_of_the_air.ensures.landed;
      same = c.rounds_take_flights_out_of_the_air.ensures.same;
      unrendered = c.rounds_take_flights_out_of_the_air.ensures.unrendered;
    } in
    on_ok_weaker c.make.result
    (λ purges w serving none. slice_ends laws _ _ w purges serving none (c.purging.ensures.some _ _ _ w serving.serves.stands c.if-purging.true))
    c.make.ensures.ok

pub returns-then-purging-clause-err : goal.returns-then-purging-clause-err
returns-then-purging-clause-err g c =
    on_err_weaker c.make.result
    (λ cuts w serving none. slice_cut _ _ w cuts serving none (c.purging.ensures.some _ _ _ w serving.serves.stands c.if-purging.true))
    c.make.ensures.err

pub returns-else-purging-clause-ok : goal.returns-else-purging-clause-ok
returns-else-purging-clause-ok g c w serving none = no_slice _ w serving none (c.purging.ensures.none _ _ _ w serving.serves.stands c.if-purging.false)
