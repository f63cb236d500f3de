use Rattle.stat_files.proofs.StampOrder.{one, same, apart, through}
use Rattle.stat_files.proofs.laws.stamps_are_in_order.Goals as goal

pub returns-clause-one : goal.returns-clause-one
returns-clause-one c = one

pub returns-clause-same : goal.returns-clause-same
returns-clause-same c = same

pub returns-clause-apart : goal.returns-clause-apart
returns-clause-apart c = apart

pub returns-clause-through : goal.returns-clause-through
returns-clause-through c = through
