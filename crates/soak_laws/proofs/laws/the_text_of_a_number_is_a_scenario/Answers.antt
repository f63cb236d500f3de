use Rattle.soak_laws.proofs.Heads.{text_is_accepted, text_is_scenario}
use Rattle.soak_laws.proofs.laws.the_text_of_a_number_is_a_scenario.Goals as goal

pub returns-clause-spelled : goal.returns-clause-spelled
returns-clause-spelled c = text_is_scenario

pub returns-clause-accepted : goal.returns-clause-accepted
returns-clause-accepted c = text_is_accepted
