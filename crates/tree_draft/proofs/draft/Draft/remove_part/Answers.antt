use Rattle.std.proofs.Common.{◌∙◌, ap, sym}
use Rattle.std.specs.Prelude.{is_some, ◌&&◌}
use Rattle.sp_base.specs.Paths.{is_under}
use Rattle.resource_tree.specs.Content.{Content, node_at, parent_of}
use Rattle.resource_tree.specs.Changes.{change_at, without_kid, without_under}
use Rattle.resource_tree.proofs.NodeLookups.{there-change_at}
use Rattle.resource_tree.proofs.Reordering.{can_move, parent_there}
use Rattle.resource_tree.proofs.Removal.{IsGood-removal}
use Rattle.tree_draft.proofs.draft.Draft.remove_part.Goals as goal

pub change-requires : goal.change-requires
change-requires c =
    ap (λ p. is_some (node_at c.args.self.now.content p)) c.in_ok-parent.ensures
    ∙ parent_there c.args.self.now.content c.args.path.now c.requires.sound.good.shape (can_move c.args.self.now.content c.args.path.now c.requires.fixed)

pub drop_nodes-requires-clause-all : goal.drop_nodes-requires-clause-all
drop_nodes-requires-clause-all c = λ q.
    c.requires.all q
    ∙ ap (λ b. b && is_under q c.args.path.now)
    (sym (ap (λ (t : Content). is_some (node_at t q)) c.in_ok-change.ensures.content ∙ there-change_at c.args.self.now.content c.in_ok-parent.parent (without_kid c.in_ok-name.name) q))

pub returns-clause-ok : goal.returns-clause-ok
returns-clause-ok c =
    c.in_ok-drop_nodes.ensures.after
    ∙ ap (λ (t : Content). without_under t c.args.path.now)
    (c.in_ok-change.ensures.content ∙ ap (λ p. change_at c.args.self.now.content p (without_kid c.in_ok-name.name)) c.in_ok-parent.ensures
    ∙ ap (λ n. change_at c.args.self.now.content (parent_of c.args.path.now) (without_kid n)) (c.in_ok-name.ensures ∙ c.name.ensures.name))

pub returns-clause-follows : goal.returns-clause-follows
returns-clause-follows c = record {
  sound = record {
    good = IsGood-removal c.drop_nodes.new.self.content c.args.self.now.content c.args.path.now c.requires.sound.good (can_move c.args.self.now.content c.args.path.now c.requires.fixed) (returns-clause-ok c) c.in_ok-drop_nodes.ensures.ordered;
    counted = c.in_ok-drop_nodes.ensures.counted;
  };
  tree = c.in_ok-drop_nodes.ensures.tree ∙ c.in_ok-change.ensures.tree;
}
