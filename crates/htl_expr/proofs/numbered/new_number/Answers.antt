use Rattle.std.proofs.Common.{ℕ, List, Some, ap, sym, subst, ◌∙◌}
use Rattle.std.specs.BTreeMap.{Updates}
use Rattle.sp_base.specs.Names.{by_name}
use Rattle.htl_expr.specs.ComparedValue.{number_in}
use Rattle.htl_expr.proofs.Remembered.{known_still, known_more}
use Rattle.htl_expr.proofs.numbered.new_number.Goals as goal

pub returns-clause-known : goal.returns-clause-known
returns-clause-known c =
    let updates = subst (λ (name : List ℕ). Updates by_name c.args.numbering.now.known c.insert.new.self name (Some c.in_ok-number.number)) c.in_ok-duplicate.ensures c.in_ok-insert.ensures.updates in
    let is = ap (number_in c.number.new.self) (sym c.in_ok-compared.ensures) ∙ c.in_ok-number.ensures.number in
    let knows = known_still c.args.scope.now c.args.aspect c.args.numbering.now.classes c.number.new.self c.args.numbering.now.known c.in_ok-number.ensures.kept c.requires in
    known_more c.args.scope.now c.args.aspect c.number.new.self c.args.numbering.now.known c.insert.new.self c.args.name.now c.in_ok-number.number updates is knows
