use Rattle.std.proofs.Common.{List, ℕ, Some, subst}
use Rattle.std.specs.BTreeMap.{Updates}
use Rattle.sp_base.specs.Names.{by_name}
use Rattle.htl_expr.proofs.Remembered.{remembers_more_items}
use Rattle.htl_expr.proofs.kept.keep.Goals as goal

pub returns-clause-texts : goal.returns-clause-texts
returns-clause-texts c =
    let updates = subst (λ (name : List ℕ). Updates by_name c.args.texts.now c.insert.new.self name (Some c.in_ok-text.text)) c.in_ok-duplicate.ensures c.in_ok-insert.ensures.updates in
    remembers_more_items c.args.scope.now c.args.texts.now c.insert.new.self c.args.name.now c.in_ok-text.text updates c.in_ok-text.ensures c.requires
