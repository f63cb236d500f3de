use Rattle.cache_log.proofs.AfterLemmas.{asked-after}
use Rattle.cache_log.proofs.laws.a_permitted_hit_was_asked_for_after_each_flush.Goals as goal

pub returns : goal.returns
returns c = asked-after
