use Rattle.page_index.proofs.IndexLemmas.{stamp_agrees, stamp_covered}
use Rattle.page_index.proofs.laws.a_noted_stamp_agrees.Goals as goal

pub returns-clause-agrees : goal.returns-clause-agrees
returns-clause-agrees c = stamp_agrees

pub returns-clause-covered : goal.returns-clause-covered
returns-clause-covered c = stamp_covered
