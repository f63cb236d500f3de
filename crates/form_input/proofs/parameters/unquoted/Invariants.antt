use Rattle.std.proofs.Common.{◌≡◌, false, length}
use Rattle.form_input.specs.Parameters.{word_in_quotes}
use Rattle.form_input.specs.Words.{before_word}
use Rattle.form_input.proofs.parameters.unquoted.Given as goal

abbrev pub invariant-loop-rest : goal.invariant-loop-rest
invariant-loop-rest l = word_in_quotes false l.text ≡ before_word l.word.items (word_in_quotes l.escaped l.rest)

abbrev pub decreases-loop-rest : goal.decreases-loop-rest
decreases-loop-rest l = length l.rest
