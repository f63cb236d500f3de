use Rattle.run_laws.proofs.AddressLemmas.{begun-there, note-brings, shut-gone, step-addressed}
use Rattle.run_laws.proofs.serving.notes_are_of_connections_that_are_there.Goals as goal

pub returns-clause-notes : goal.returns-clause-notes
returns-clause-notes c = λ w e happens stays. step-addressed w e e.step stays happens.0

pub returns-clause-begun : goal.returns-clause-begun
returns-clause-begun c = λ w e. begun-there w e e.step

pub returns-clause-brings : goal.returns-clause-brings
returns-clause-brings c = note-brings

pub returns-clause-shut : goal.returns-clause-shut
returns-clause-shut c = shut-gone
