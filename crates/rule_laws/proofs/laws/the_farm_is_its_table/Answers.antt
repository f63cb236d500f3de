use Rattle.rule_laws.proofs.FarmLemmas.{farm_found, farm_only}
use Rattle.rule_laws.proofs.laws.the_farm_is_its_table.Goals as goal

pub returns-clause-found : goal.returns-clause-found
returns-clause-found c = farm_found

pub returns-clause-only : goal.returns-clause-only
returns-clause-only c = farm_only
