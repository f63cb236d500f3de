use Rattle.rule_laws.proofs.FarmFaultLemmas.{fault_found, fault_only}
use Rattle.rule_laws.proofs.laws.the_first_fault_is_told.Goals as goal

pub returns-clause-found : goal.returns-clause-found
returns-clause-found c = fault_found

pub returns-clause-only : goal.returns-clause-only
returns-clause-only c = fault_only
