use Rattle.run_laws.proofs.DeterminedLemmas.{ends-with-memory}
use Rattle.run_laws.proofs.laws.streams_with_memory_end_alike.Goals as goal

pub returns : goal.returns
returns c = ends-with-memory c.the_turns_of_a_beginning.ensures c.the_end_of_a_stream.ensures.one
