use Rattle.run_laws.proofs.NothingDueLemmas.{treats-as-they-come}
use Rattle.run_laws.proofs.serving.turns_are_treated_as_they_come.Goals as goal

pub returns : goal.returns
returns c = treats-as-they-come
