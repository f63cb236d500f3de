use Rattle.post_laws.proofs.SetLemmas.{has_its_value}
use Rattle.post_laws.proofs.laws.the_last_value_of_a_property_stays.Goals as goal

pub returns : goal.returns
returns c = has_its_value
