use Rattle.sling_dispatch.proofs.UncachedLemmas.{texts-alone, uncached-scenarios}
use Rattle.sling_dispatch.proofs.laws.a_scenario_that_asks_no_cache_has_one_transcript.Goals as goal

pub returns-clause-ends : goal.returns-clause-ends
returns-clause-ends c = uncached-scenarios c.a_session_with_memory_has_one_transcript.ensures c.runs_that_ask_no_cache_leave_no_choice.ensures

pub returns-clause-text : goal.returns-clause-text
returns-clause-text c =
    texts-alone c.acts_are_told_by_their_lines.ensures.first c.a_session_with_memory_has_one_transcript.ensures c.runs_that_ask_no_cache_leave_no_choice.ensures c.steps_tell_the_ends_of_streams.ensures c.streams_with_memory_end_alike.ensures
