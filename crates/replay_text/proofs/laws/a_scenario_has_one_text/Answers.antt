use Rattle.replay_text.proofs.WrittenLaws.{one_text}
use Rattle.replay_text.proofs.laws.a_scenario_has_one_text.Goals as goal

pub returns : goal.returns
returns c = one_text
