use Rattle.std.proofs.Common.{rules, ◌≡◌, ◌≤◌, ◌<◌, ◌∙◌, sym, ap, arith, false, length, Some}
use Rattle.std.specs.Prelude.{is_some}
use Rattle.resource_tree.specs.declared.faults.TreeFault.{TreeFault}
use Rattle.resource_tree.specs.declared.faults.TreeFault.TheVariants.{NoSuch, Exists}
use Rattle.resource_tree.specs.Content.{node_at, prop_at}
use Rattle.resource_tree.specs.Changes.{create_fault}
use Rattle.tree_draft.proofs.CreateLemmas.{fault_but_size, full, not_full}
use Rattle.tree_draft.proofs.draft.Draft.check_create.Goals as goal

pub returns-then-len-ge-MOST_NODES-clause-err : goal.returns-then-len-ge-MOST_NODES-clause-err
returns-then-len-ge-MOST_NODES-clause-err c = λ _.
    let free : is_some (node_at c.args.self.now.content c.args.path.now) ≡ false = search rules in
    let untaken : is_some (prop_at c.in-Some.above c.name.result.now) ≡ false = search rules in
    let test = c.if-len-ge-MOST_NODES.true in
    let size = c.len.ensures in
    let large : 200000 ≤ length c.args.self.now.content = omega (arith, test, size) in
    fault_but_size c.args.self.now.content c.args.path.now c.args.parent.now c.in-Some.above c.name.result.now (sym c.node.ensures.value ∙ c.in-Some.is) c.requires.above free
    c.name.ensures.name
    untaken
    ∙ full c.args.self.now.content large

pub returns-clause-ok : goal.returns-clause-ok
returns-clause-ok c =
    let free : is_some (node_at c.args.self.now.content c.args.path.now) ≡ false = search rules in
    let untaken : is_some (prop_at c.in-Some.above c.name.result.now) ≡ false = search rules in
    let test = c.if-len-ge-MOST_NODES.false in
    let size = c.len.ensures in
    let small : length c.args.self.now.content < 200000 = omega (arith, test, size) in
    fault_but_size c.args.self.now.content c.args.path.now c.args.parent.now c.in-Some.above c.name.result.now (sym c.node.ensures.value ∙ c.in-Some.is) c.requires.above free
    c.name.ensures.name
    untaken
    ∙ not_full c.args.self.now.content small

pub returns-in_default-clause-err : goal.returns-in_default-clause-err
returns-in_default-clause-err c = λ other.
    let fault : create_fault c.args.self.now.content c.args.path.now ≡ Some (NoSuch c.args.parent.now) = search rules in
    fault ∙ ap (λ (f : TreeFault). Some f) (sym (c.no_such.ensures other))

pub returns-then-is_some-clause-err : goal.returns-then-is_some-clause-err
returns-then-is_some-clause-err c = λ other.
    let fault : create_fault c.args.self.now.content c.args.path.now ≡ Some (Exists c.args.path.now) = search rules in
    fault ∙ ap (λ (f : TreeFault). Some f) (sym (c.node_exists.ensures other))
