use Rattle.form_input.proofs.BodyLemmas.{found, only}
use Rattle.form_input.proofs.LineLemmas.{joined_lines}
use Rattle.form_input.proofs.laws.the_parts_are_the_body.Goals as goal

pub returns-clause-found : goal.returns-clause-found
returns-clause-found c = found

pub returns-clause-only : goal.returns-clause-only
returns-clause-only c = only

pub returns-clause-lines : goal.returns-clause-lines
returns-clause-lines c = joined_lines
