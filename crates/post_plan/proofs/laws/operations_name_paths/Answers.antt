use Rattle.post_plan.proofs.NamedPaths.{asks_for_paths}
use Rattle.post_plan.proofs.laws.operations_name_paths.Goals as goal

pub returns : goal.returns
returns c = asks_for_paths c.a_path_and_its_text.ensures.valid
