use Rattle.std.proofs.Common.{◌∙◌, ap, sym}
use Rattle.resource_tree.specs.Content.{node_at}
use Rattle.resource_tree.specs.Patches.{left_by}
use Rattle.url_maps.proofs.ParentLemmas.{left_of}
use Rattle.url_maps.proofs.siblings.node_after.Goals as goal

pub returns-in-Some : goal.returns-in-Some
returns-in-Some c = c.left_by.ensures ∙ sym (left_of c.in-Some.row.now (node_at c.args.tree.now c.args.path.now)) ∙ ap (λ o. left_by o (node_at c.args.tree.now c.args.path.now)) c.in-Some.ensures

pub returns-in-None : goal.returns-in-None
returns-in-None c = c.node.ensures ∙ ap (λ o. left_by o (node_at c.args.tree.now c.args.path.now)) c.in-None.ensures
