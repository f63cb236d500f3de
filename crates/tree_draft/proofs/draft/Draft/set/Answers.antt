use Rattle.std.proofs.Common.{◌∙◌, ap}
use Rattle.resource_tree.specs.Changes.{change_at, with_value}
use Rattle.resource_tree.proofs.Update.{IsGood-update}
use Rattle.tree_draft.proofs.draft.Draft.set.Goals as goal

pub returns-clause-follows : goal.returns-clause-follows
returns-clause-follows c = record {
  sound = record {
    good = IsGood-update c.change.new.self.content c.args.self.now.content c.args.path.now c.args.name.now c.args.value c.requires.sound.good c.in_ok-check_set.ensures.ok c.requires.name
        (c.in_ok-change.ensures.content ∙ ap (λ n. change_at c.args.self.now.content c.args.path.now (with_value n c.args.value)) c.in_ok-name.ensures) c.in_ok-change.ensures.ordered;
    counted = c.in_ok-change.ensures.counted c.requires.sound.counted;
  };
  tree = c.in_ok-change.ensures.tree;
}
