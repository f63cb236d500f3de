use Rattle.cache_log.proofs.LegalLemmas.{legal-call, legal-place}
use Rattle.cache_log.proofs.laws.a_legal_log_grows_by_what_is_allowed.Goals as goal

pub returns-clause-call : goal.returns-clause-call
returns-clause-call c = legal-call

pub returns-clause-place : goal.returns-clause-place
returns-clause-place c = legal-place
