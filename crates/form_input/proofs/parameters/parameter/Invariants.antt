use Rattle.std.proofs.Common.{◌≡◌, length, option_copied, ℕ, Option, Some, None, List, suc}
use Rattle.form_input.specs.Parameters.{parameter_word_in, pieces_left, parameter}
use Rattle.form_input.proofs.parameters.parameter.Given as goal

abbrev pub left : Option (List ℕ) → ℕ
left None = 0
left (Some text) = suc (length text)

abbrev pub invariant-loop-rest : goal.invariant-loop-rest
invariant-loop-rest l = parameter_word_in l.name (pieces_left (option_copied l.rest)) ≡ parameter l.name l.text

abbrev pub decreases-loop-rest : goal.decreases-loop-rest
decreases-loop-rest l = left (option_copied l.rest)
