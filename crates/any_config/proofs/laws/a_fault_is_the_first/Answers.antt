use Rattle.any_config.proofs.FaultLemmas.{fault_found, fault_only}
use Rattle.any_config.proofs.laws.a_fault_is_the_first.Goals as goal

pub returns-clause-found : goal.returns-clause-found
returns-clause-found c = fault_found

pub returns-clause-only : goal.returns-clause-only
returns-clause-only c = fault_only
