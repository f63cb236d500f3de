use Rattle.run_laws.proofs.NothingDueLemmas.{lands-the-first, leaves-flights, renders-the-first}
use Rattle.run_laws.proofs.RoundLemmas.{step-unrendered}
use Rattle.run_laws.proofs.serving.rounds_take_flights_out_of_the_air.Goals as goal

pub returns-clause-rendered : goal.returns-clause-rendered
returns-clause-rendered c = renders-the-first

pub returns-clause-landed : goal.returns-clause-landed
returns-clause-landed c = lands-the-first

pub returns-clause-same : goal.returns-clause-same
returns-clause-same c = leaves-flights

pub returns-clause-unrendered : goal.returns-clause-unrendered
returns-clause-unrendered c = λ w e happens leaves all. step-unrendered w e e.step leaves happens.0 all
