use Rattle.property_json.proofs.ArrayLemmas.{members_are}
use Rattle.property_json.proofs.laws.properties_come_first.Goals as goal

pub returns : goal.returns
returns c = members_are
