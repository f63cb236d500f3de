use Rattle.replay_text.proofs.OneReading.{one_reading as law}
use Rattle.replay_text.proofs.laws.one_reading.Goals as goal

pub returns : goal.returns
returns c = law
