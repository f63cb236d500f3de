use Rattle.coherence_core.proofs.LegalLemmas.{legal_first, legal_over}
use Rattle.coherence_core.proofs.laws.a_session_begins_in_a_legal_log.Goals as goal

pub returns-clause-over : goal.returns-clause-over
returns-clause-over c = legal_over

pub returns-clause-first : goal.returns-clause-first
returns-clause-first c = legal_first
