use Rattle.form_input.proofs.FaultLemmas.{refused}
use Rattle.form_input.proofs.RefusalLemmas.{cause}
use Rattle.form_input.proofs.laws.bodies_are_refused_for_their_first_fault.Goals as goal

pub returns-clause-found : goal.returns-clause-found
returns-clause-found c = cause

pub returns-clause-only : goal.returns-clause-only
returns-clause-only c = refused
