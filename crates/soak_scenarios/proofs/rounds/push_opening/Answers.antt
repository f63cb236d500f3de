use Rattle.std.proofs.Common.{codes}
use Rattle.std.proofs.lemmas.Result.{on_ok_weaker}
use Rattle.soak_scenarios.proofs.Texts.{three_texts}
use Rattle.soak_scenarios.proofs.rounds.push_opening.Goals as goal

pub returns : goal.returns
returns c = on_ok_weaker _ (three_texts (codes "open ") _ (codes " 127.0.0.1\n") _ _ _ _ c.in_ok-push.ensures c.in_ok-push_number.ensures) c.push-2.ensures
