use Rattle.front.proofs.laws.a_front_stands_whatever_the_count.Goals as goal

pub returns : goal.returns
returns c = λ publishing content board files before after w s.
    let b = s.board_is in
    let x = b.behind_is in
    record {
      publishing_is = s.publishing_is;
      content_is = s.content_is;
      board_is = record {
        open_connections = b.open_connections;
        behind_is = record {
          core_is = x.core_is;
          farm_is = x.farm_is;
          flying_is = x.flying_is;
          rising = x.rising;
          flights_are = x.flights_are;
          flushing_is = x.flushing_is;
          flushes_are = x.flushes_are;
          flushes_rise = x.flushes_rise;
        };
        slicing_is = b.slicing_is;
      };
    }
