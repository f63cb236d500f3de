use Rattle.std.proofs.Common.{sym, ◌∙◌, arith}
use Rattle.std.proofs.lemmas.List.{take_rest}
use Rattle.form_input.specs.declared.parameters.Quoting.TheVariants.{Outside}
use Rattle.form_input.proofs.ParameterLemmas.{with_prefix_none, read_separator, read_byte, read_all}
use Rattle.form_input.proofs.parameters.next_piece.Goals as goal

pub loop-at-init : goal.loop-at-init
loop-at-init c = with_prefix_none Outside c.args.text.now

pub returns-then-separates-clause-pieces : goal.returns-then-separates-clause-pieces
returns-then-separates-clause-pieces c = rw take_rest (read_separator c.loop-at.quoting c.loop-at.at c.args.text.now (omega arith) (sym c.separates.ensures ∙ c.if-separates.true) c.loop-at.invariant)

pub loop-at-preserved : goal.loop-at-preserved
loop-at-preserved c = rw c.step-quoting.ensures (read_byte c.loop-at.quoting c.loop-at.at c.args.text.now (omega arith) (sym c.separates.ensures ∙ c.if-separates.false) c.loop-at.invariant)

pub returns-clause-pieces : goal.returns-clause-pieces
returns-clause-pieces c = read_all c.loop-at.quoting c.loop-at.at c.args.text.now (omega arith) c.loop-at.invariant
