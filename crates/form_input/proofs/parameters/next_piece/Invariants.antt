use Rattle.std.proofs.Common.{◌≡◌, take, drop}
use Rattle.form_input.specs.Parameters.{parameter_pieces, parameter_pieces_from}
use Rattle.form_input.proofs.ParameterLemmas.{with_prefix}
use Rattle.form_input.proofs.parameters.next_piece.Given as goal

abbrev pub invariant-loop-at : goal.invariant-loop-at
invariant-loop-at l = with_prefix (take l.at l.text) (parameter_pieces_from l.quoting (drop l.at l.text)) ≡ parameter_pieces l.text
