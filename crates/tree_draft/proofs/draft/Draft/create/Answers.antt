use Rattle.std.proofs.Common.{◌∙◌, ap, []}
use Rattle.std.specs.Prelude.{is_some}
use Rattle.resource_tree.specs.Content.{node_at}
use Rattle.resource_tree.proofs.Creation.{can_create, IsGood-creation}
use Rattle.tree_draft.proofs.DraftLemmas.{created-is, no_names, still_there}
use Rattle.tree_draft.proofs.draft.Draft.create.Goals as goal

pub add_kid-requires : goal.add_kid-requires
add_kid-requires c =
    still_there c.args.self.now.content c.put_fresh.new.self.content c.args.path.now c.in_ok-parent.parent _ c.requires.good.ordered c.in_ok-put_fresh.ensures.content
    (ap (λ p. is_some (node_at c.args.self.now.content p)) c.in_ok-parent.ensures ∙ (can_create c.args.self.now.content c.args.path.now c.in_ok-check_create.ensures.ok).parent_there)

pub returns-clause-ok : goal.returns-clause-ok
returns-clause-ok c =
    created-is c.args.self.now.content c.put_fresh.new.self.content c.add_kid.new.self.content c.args.path.now c.in_ok-parent.parent c.in_ok-put_fresh.ensures.content c.in_ok-add_kid.ensures.content c.in_ok-parent.ensures

pub returns-clause-follows : goal.returns-clause-follows
returns-clause-follows c = record {
  sound = record {
    good = IsGood-creation c.add_kid.new.self.content c.args.self.now.content c.args.path.now [] c.requires.good c.in_ok-check_create.ensures.ok c.in_ok-add_kid.ensures.valid no_names (returns-clause-ok c) c.in_ok-add_kid.ensures.ordered;
    counted = c.in_ok-add_kid.ensures.counted (c.in_ok-put_fresh.ensures.counted c.requires.counted);
  };
  tree = c.in_ok-add_kid.ensures.tree ∙ c.in_ok-put_fresh.ensures.tree;
}
