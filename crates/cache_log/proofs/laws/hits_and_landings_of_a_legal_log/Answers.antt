use Rattle.cache_log.proofs.LegalLemmas.{legal-hit, legal-kept}
use Rattle.cache_log.proofs.laws.hits_and_landings_of_a_legal_log.Goals as goal

pub returns-clause-hit : goal.returns-clause-hit
returns-clause-hit c = legal-hit

pub returns-clause-kept : goal.returns-clause-kept
returns-clause-kept c = legal-kept
