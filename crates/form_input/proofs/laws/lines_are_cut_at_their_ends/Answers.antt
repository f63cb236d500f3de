use Rattle.form_input.proofs.LineLawLemmas.{lines_found, lines_only}
use Rattle.form_input.proofs.laws.lines_are_cut_at_their_ends.Goals as goal

pub returns-clause-found : goal.returns-clause-found
returns-clause-found c = lines_found

pub returns-clause-only : goal.returns-clause-only
returns-clause-only c = lines_only
