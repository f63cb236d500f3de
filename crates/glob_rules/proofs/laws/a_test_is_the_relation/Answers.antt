use Rattle.glob_rules.proofs.MatchLemmas.{sound, complete}
use Rattle.glob_rules.proofs.laws.a_test_is_the_relation.Goals as goal

pub returns-clause-sound : goal.returns-clause-sound
returns-clause-sound c = sound

pub returns-clause-complete : goal.returns-clause-complete
returns-clause-complete c = complete
