use Rattle.http_front.proofs.ValueLemmas.{values_stay}
use Rattle.http_front.proofs.laws.no_value_ends_its_line.Goals as goal

pub returns : goal.returns
returns c = values_stay
