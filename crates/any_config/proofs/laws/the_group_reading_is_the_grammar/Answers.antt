use Rattle.any_config.proofs.Sound.{any_sound}
use Rattle.any_config.proofs.Complete.{any_complete}
use Rattle.any_config.proofs.laws.the_group_reading_is_the_grammar.Goals as goal

pub returns-clause-found : goal.returns-clause-found
returns-clause-found c = any_sound

pub returns-clause-only : goal.returns-clause-only
returns-clause-only c = any_complete
