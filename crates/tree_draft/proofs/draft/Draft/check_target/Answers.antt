use Rattle.std.proofs.Common.{rules, ◌≡◌, ◌∙◌, sym, ap, arith, Some}
use Rattle.std.proofs.lemmas.Grind.{common_steps}
use Rattle.resource_tree.specs.declared.faults.TreeFault.{TreeFault}
use Rattle.resource_tree.specs.declared.faults.TreeFault.TheVariants.{NoSuch, Exists}
use Rattle.resource_tree.specs.Moves.{target_fault}
use Rattle.tree_draft.proofs.draft.Draft.check_target.Goals as goal

pub returns-then-is_none-clause-err : goal.returns-then-is_none-clause-err
returns-then-is_none-clause-err c = λ other.
    let fault : target_fault c.args.self.now.content c.args.source.now c.args.target.now ≡ Some (NoSuch c.args.source.now) = search rules in
    fault ∙ ap (λ (f : TreeFault). Some f) (sym (c.no_such.ensures other))

pub returns-in_default-clause-err : goal.returns-in_default-clause-err
returns-in_default-clause-err c = λ other.
    let fault : target_fault c.args.self.now.content c.args.source.now c.args.target.now ≡ Some (NoSuch c.args.parent.now) = search rules in
    fault ∙ ap (λ (f : TreeFault). Some f) (sym (c.no_such-in_default.ensures other))

pub returns-then-is_some-clause-err : goal.returns-then-is_some-clause-err
returns-then-is_some-clause-err c = λ other.
    let fault : target_fault c.args.self.now.content c.args.source.now c.args.target.now ≡ Some (Exists c.args.target.now) = grind (arith, common_steps) in
    fault ∙ ap (λ (f : TreeFault). Some f) (sym (c.node_exists.ensures other))
