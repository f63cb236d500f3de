use Rattle.std.proofs.lemmas.Result.{on_ok_weaker}
use Rattle.serve_loop.proofs.RoundLemmas.{FlightLaws, gone_begins, opened_begins, piece_begins}
use Rattle.serve_loop.proofs.turn.begin.Goals as goal

pub returns-in-Opened-clause-ok : goal.returns-in-Opened-clause-ok
returns-in-Opened-clause-ok g c =
    let laws : FlightLaws = record {
      rendered = c.rounds_take_flights_out_of_the_air.ensures.rendered;
      landed = c.rounds_take_flights_out_of_the_air.ensures.landed;
      same = c.rounds_take_flights_out_of_the_air.ensures.same;
      unrendered = c.rounds_take_flights_out_of_the_air.ensures.unrendered;
    } in
    on_ok_weaker c.make.result (λ makes w serves awaits none. opened_begins laws _ _ c.args.news _ _ w c.in-Opened.is makes serves awaits none) c.make.ensures.ok

pub returns-in-Piece-clause-ok : goal.returns-in-Piece-clause-ok
returns-in-Piece-clause-ok g c =
    let laws : FlightLaws = record {
      rendered = c.rounds_take_flights_out_of_the_air.ensures.rendered;
      landed = c.rounds_take_flights_out_of_the_air.ensures.landed;
      same = c.rounds_take_flights_out_of_the_air.ensures.same;
      unrendered = c.rounds_take_flights_out_of_the_air.ensures.unrendered;
    } in
    on_ok_weaker c.make-in-Piece.result (λ makes w serves awaits none. piece_begins laws _ _ c.args.news _ _ w c.in-Piece.is makes serves awaits none) c.make-in-Piece.ensures.ok

pub returns-in-Gone-clause-ok : goal.returns-in-Gone-clause-ok
returns-in-Gone-clause-ok g c =
    let laws : FlightLaws = record {
      rendered = c.rounds_take_flights_out_of_the_air.ensures.rendered;
      landed = c.rounds_take_flights_out_of_the_air.ensures.landed;
      same = c.rounds_take_flights_out_of_the_air.ensures.same;
      unrendered = c.rounds_take_flights_out_of_the_air.ensures.unrendered;
    } in
    on_ok_weaker c.go.result (λ makes w serves awaits none. gone_begins laws _ _ c.args.news _ w c.in-Gone.is (makes _ _) serves awaits none) c.go.ensures.ok
