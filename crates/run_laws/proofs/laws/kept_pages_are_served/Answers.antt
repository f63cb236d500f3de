use Rattle.run_laws.proofs.ServedLemmas.{kept-served}
use Rattle.run_laws.proofs.laws.kept_pages_are_served.Goals as goal

pub returns-clause-served : goal.returns-clause-served
returns-clause-served c = kept-served

pub returns-clause-owed : goal.returns-clause-owed
returns-clause-owed c farm log key answer owed = (answer, (c.owed_hits_are_of_landings.ensures farm log key answer).1 owed)

pub returns-clause-one : goal.returns-clause-one
returns-clause-one c farm log key answer other owed hit = c.what_is_owed_is_permitted.ensures.one farm log key answer other ((c.owed_hits_are_of_landings.ensures farm log key answer).1 owed) hit.0
