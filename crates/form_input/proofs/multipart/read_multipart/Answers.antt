use Rattle.std.proofs.Common.{◌∙◌}
use Rattle.form_input.proofs.FormLemmas.{body_without_end}
use Rattle.form_input.proofs.multipart.read_multipart.Goals as goal

pub returns-clause-err : goal.returns-clause-err
returns-clause-err c = λ _. body_without_end c.as_slice.result.now c.args.boundary.now c.args.body.now (c.as_slice.ensures.value ∙ c.in_ok-dash.ensures) c.in-None.ensures.none
