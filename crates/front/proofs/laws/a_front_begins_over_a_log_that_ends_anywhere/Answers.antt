use Rattle.std.specs.Prelude.{◌++◌}
use Rattle.front.proofs.laws.a_front_begins_over_a_log_that_ends_anywhere.Goals as goal

pub returns : goal.returns
returns c = λ publishing content farm files b now begins log entries held closing. begins (entries ++ log) (c.a_log_is_closed_in_one_way.ensures.closed farm files log entries held closing)
