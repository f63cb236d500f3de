use Rattle.publisher.specs.Rendering.{answer_to_request}
use Rattle.publisher.proofs.StatusLemmas.{rendered_short, errors_short, below_1000, not_507}
use Rattle.publisher.proofs.laws.statuses_are_short.Goals as goal

pub returns : goal.returns
returns c = record {
  rendered = λ tree ask. below_1000 (answer_to_request tree ask).status (rendered_short c.away_is_a_redirect.ensures tree ask);
  memory = λ tree ask. not_507 (answer_to_request tree ask).status (rendered_short c.away_is_a_redirect.ensures tree ask);
  error = errors_short;
}
