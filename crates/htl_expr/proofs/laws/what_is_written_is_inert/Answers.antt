use Rattle.htl_expr.specs.Print.{plain, join_text}
use Rattle.htl_expr.specs.Value.{expr_value}
use Rattle.htl_expr.proofs.EscapeLemmas.{is_inert_in}
use Rattle.htl_expr.proofs.laws.what_is_written_is_inert.Goals as goal

pub returns : goal.returns
returns c scope e = is_inert_in e.context (plain (join_text e.join) (expr_value scope e))
