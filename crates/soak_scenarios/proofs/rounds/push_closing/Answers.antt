use Rattle.std.proofs.Common.{codes}
use Rattle.std.proofs.lemmas.Result.{on_ok_weaker}
use Rattle.soak_scenarios.proofs.Texts.{three_texts}
use Rattle.soak_scenarios.proofs.rounds.push_closing.Goals as goal

pub returns : goal.returns
returns c = on_ok_weaker _ (three_texts (codes "close ") _ (codes "\n") _ _ _ _ c.in_ok-push.ensures c.in_ok-push_number.ensures) c.push-2.ensures
