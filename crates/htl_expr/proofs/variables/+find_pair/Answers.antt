use Rattle.std.proofs.Common.{sym, ◌∙◌}
use Rattle.htl_expr.proofs.VariableLemmas.{not_first}
use Rattle.htl_expr.proofs.variables.+find_pair.Goals as goal

pub returns-else-eq : goal.returns-else-eq
returns-else-eq t c = c.find_pair.ensures ∙ not_first c.args.name.now c.args.pairs.now _ c.in-len1-up.len_at_least (sym c.if-eq.ensures)
