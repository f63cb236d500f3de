use Rattle.std.proofs.Common.{sym, ap, ◌∙◌}
use Rattle.std.proofs.lemmas.Slice.Eq.{bytes_eq-Decides}
use Rattle.htl_expr.specs.Lent.{property_item}
use Rattle.htl_expr.proofs.evaluation.Evaluation.has_same_item.Goals as goal

pub returns-then-eq-clause-same : goal.returns-then-eq-clause-same
returns-then-eq-clause-same c = sym ((bytes_eq-Decides _ _).1 (ap (property_item c.args.self.now) ((bytes_eq-Decides c.args.a.now c.args.b.now).0 (sym c.eq.ensures ∙ c.if-eq.true))))
