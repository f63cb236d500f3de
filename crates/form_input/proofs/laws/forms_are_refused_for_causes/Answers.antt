use Rattle.form_input.proofs.CauseLemmas.{form_cause}
use Rattle.form_input.proofs.laws.forms_are_refused_for_causes.Goals as goal

pub returns : goal.returns
returns c = form_cause
