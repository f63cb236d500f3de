use Rattle.std.proofs.Common.{◌∙◌, ap, sym, refl}
use Rattle.std.specs.Prelude.{is_some}
use Rattle.resource_tree.specs.Content.{node_at}
use Rattle.resource_tree.specs.Changes.{kids_at}
use Rattle.resource_tree.proofs.Reordering.{can_move, parent_there, reordering_named, IsGood-reordering}
use Rattle.tree_draft.proofs.OrderLemmas.{order_allowed}
use Rattle.tree_draft.proofs.draft.Draft.order.Goals as goal

pub put_kids-requires : goal.put_kids-requires
put_kids-requires c =
    ap (λ p. is_some (node_at c.args.self.now.content p)) c.in_ok-parent.ensures
    ∙ parent_there c.args.self.now.content c.args.path.now c.requires.good.shape (can_move c.args.self.now.content c.args.path.now c.in_ok-check_fixed.ensures.ok)

pub returns-clause-allowed : goal.returns-clause-allowed
returns-clause-allowed c =
    let tree = c.args.self.now.content in
    order_allowed tree c.args.path.now c.in_ok-parent.parent c.args.place.now c.name.result.now (kids_at tree c.in_ok-parent.parent) c.in-Some.kids c.in_ok-check_fixed.ensures.ok c.in_ok-parent.ensures c.name.ensures.name refl
    (sym c.in-Some.is ∙ c.in_ok-kids.ensures)

pub returns-clause-ok : goal.returns-clause-ok
returns-clause-ok c =
    let tree = c.args.self.now.content in
    c.in_ok-put_kids.ensures.content
    ∙ reordering_named tree tree c.args.path.now c.in_ok-parent.parent c.args.place.now c.name.result.now (kids_at tree c.in_ok-parent.parent) c.in-Some.kids c.requires.good.shape
    (can_move tree c.args.path.now c.in_ok-check_fixed.ensures.ok)
    refl
    c.in_ok-parent.ensures
    c.name.ensures.name
    refl
    (sym c.in-Some.is ∙ c.in_ok-kids.ensures)

pub returns-clause-follows : goal.returns-clause-follows
returns-clause-follows c = record {
  sound = record {
    good = IsGood-reordering c.put_kids.new.self.content c.args.self.now.content c.args.path.now c.args.place.now c.requires.good (can_move c.args.self.now.content c.args.path.now c.in_ok-check_fixed.ensures.ok) (returns-clause-ok c) c.in_ok-put_kids.ensures.ordered;
    counted = c.in_ok-put_kids.ensures.counted c.requires.counted;
  };
  tree = c.in_ok-put_kids.ensures.tree;
}
