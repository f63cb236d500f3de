use Rattle.cache_log.proofs.LegalLemmas.{down-idle, up-no-downs}
use Rattle.cache_log.proofs.laws.a_cache_is_up_or_idle.Goals as goal

pub returns-clause-up : goal.returns-clause-up
returns-clause-up c = up-no-downs

pub returns-clause-idle : goal.returns-clause-idle
returns-clause-idle c = down-idle
