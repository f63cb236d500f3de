use Rattle.publisher.proofs.CauseLemmas.{posting_has_cause}
use Rattle.publisher.proofs.laws.posts_are_refused_for_causes.Goals as goal

pub returns : goal.returns
returns c = posting_has_cause c.forms_are_refused_for_causes.ensures c.refusals_have_causes.ensures
