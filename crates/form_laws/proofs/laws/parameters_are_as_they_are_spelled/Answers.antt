use Rattle.form_laws.proofs.SpellingLemmas.{type_is, word_is, tokens_are_names}
use Rattle.form_laws.proofs.laws.parameters_are_as_they_are_spelled.Goals as goal

pub returns-clause-field_type : goal.returns-clause-field_type
returns-clause-field_type c = type_is

pub returns-clause-word : goal.returns-clause-word
returns-clause-word c = word_is

pub returns-clause-token : goal.returns-clause-token
returns-clause-token c = tokens_are_names
