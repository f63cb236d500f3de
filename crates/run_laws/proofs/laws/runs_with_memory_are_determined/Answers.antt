use Rattle.run_laws.proofs.DeterminedLemmas.{runs-with-memory}
use Rattle.run_laws.proofs.laws.runs_with_memory_are_determined.Goals as goal

pub returns : goal.returns
returns c = runs-with-memory c.the_turns_of_a_beginning.ensures
