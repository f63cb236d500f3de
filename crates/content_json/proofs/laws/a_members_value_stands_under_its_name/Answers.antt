use Rattle.content_json.proofs.StandLemmas.{member_stands}
use Rattle.content_json.proofs.laws.a_members_value_stands_under_its_name.Goals as goal

pub returns : goal.returns
returns c = λ bytes tree top path is json node name there. member_stands bytes tree top path node name is json there
