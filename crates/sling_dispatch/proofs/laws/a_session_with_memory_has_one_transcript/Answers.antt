use Rattle.sling_dispatch.proofs.MemoryLemmas.{sessions-with-memory}
use Rattle.sling_dispatch.proofs.laws.a_session_with_memory_has_one_transcript.Goals as goal

pub returns : goal.returns
returns c = sessions-with-memory c.acts_are_told_by_their_lines.ensures.first c.runs_with_memory_are_determined.ensures
