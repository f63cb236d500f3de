use Rattle.cache_log.proofs.ExampleLemmas.{two-sessions}
use Rattle.cache_log.proofs.laws.a_log_of_two_sessions_is_legal.Goals as goal

pub returns : goal.returns
returns c = two-sessions
