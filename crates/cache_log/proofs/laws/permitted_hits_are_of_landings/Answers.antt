use Rattle.cache_log.proofs.PermittedLemmas.{permitted-placed, placed-permitted}
use Rattle.cache_log.proofs.laws.permitted_hits_are_of_landings.Goals as goal

pub returns : goal.returns
returns c = λ farm log key answer legal. (permitted-placed farm key answer log legal, placed-permitted farm key answer log)
