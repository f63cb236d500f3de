use Rattle.std.proofs.Common.{rules, ◌≡◌, ◌∙◌, sym, ap, refl, Some}
use Rattle.resource_tree.specs.declared.patch.PatchNode.{PatchNode}
use Rattle.resource_tree.specs.declared.patch.PatchNode.TheVariants as patch_node
use Rattle.resource_tree.specs.Content.{node_at}
use Rattle.resource_tree.specs.Patches.{with_entry}
use Rattle.resource_tree.specs.Moves.{path_there}
use Rattle.resource_tree.proofs.Creation.{node_unique}
use Rattle.resource_tree.proofs.Patching.{with_entry-is}
use Rattle.resource_tree.proofs.PathThere.{there_is}
use Rattle.tree_draft.proofs.copy.put_copy.Goals as goal

pub returns-in_default-node-clause-fits : goal.returns-in_default-node-clause-fits
returns-in_default-node-clause-fits c = (there_is c.args.source.now c.args.target.now c.args.path.now c.in-Some.there c.depth.result (sym c.in-Some.is ∙ c.in_ok-there.ensures) c.depth.ensures.depth).1

pub returns-clause-fits : goal.returns-clause-fits
returns-clause-fits c = (there_is c.args.source.now c.args.target.now c.args.path.now c.in-Some.there c.depth.result (sym c.in-Some.is ∙ c.in_ok-there.ensures) c.depth.ensures.depth).1

pub returns-clause-once : goal.returns-clause-once
returns-clause-once c = λ _. c.in_ok-insert.ensures.unique

pub returns-clause-ok : goal.returns-clause-ok
returns-clause-ok c = λ node is.
    let old = c.args.part.now.entries in
    let goal_path = path_there c.args.source.now c.args.target.now c.args.path.now in
    let at_target : c.in-Some.there ≡ goal_path = (there_is c.args.source.now c.args.target.now c.args.path.now c.in-Some.there c.depth.result (sym c.in-Some.is ∙ c.in_ok-there.ensures) c.depth.ensures.depth).0 in
    let was : node_at c.args.draft.now.content c.args.path.now ≡ Some c.in-Some-node.node = search rules in
    let same : c.in-Some-node.node ≡ node = node_unique c.in-Some-node.node node _ _ was is refl in
    c.in_ok-insert.ensures.entries ∙ with_entry-is old c.in-Some.there c.of.result ∙ ap (λ (r : PatchNode). with_entry old c.in-Some.there r) c.of.ensures ∙ ap (λ n. with_entry old c.in-Some.there (patch_node.Node n)) (c.in_ok-node.ensures ∙ same)
    ∙ ap (λ p. with_entry old p (patch_node.Node node)) at_target
