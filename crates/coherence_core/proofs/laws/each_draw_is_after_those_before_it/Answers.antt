use Rattle.coherence_core.proofs.DrawnLemmas.{drawn_of_session, rising, session_drawn}
use Rattle.coherence_core.proofs.laws.each_draw_is_after_those_before_it.Goals as goal

pub returns-clause-rising : goal.returns-clause-rising
returns-clause-rising c = rising

pub returns-clause-each : goal.returns-clause-each
returns-clause-each c = session_drawn

pub returns-clause-only : goal.returns-clause-only
returns-clause-only c = drawn_of_session
