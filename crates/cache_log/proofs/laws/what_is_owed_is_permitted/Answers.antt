use Rattle.cache_log.proofs.HitLemmas.{may-must, must-may, must-unfinished}
use Rattle.cache_log.proofs.laws.what_is_owed_is_permitted.Goals as goal

pub returns-clause-permitted : goal.returns-clause-permitted
returns-clause-permitted c = must-may

pub returns-clause-one : goal.returns-clause-one
returns-clause-one c = may-must

pub returns-clause-uncovered : goal.returns-clause-uncovered
returns-clause-uncovered c = must-unfinished
