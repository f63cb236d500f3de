use Rattle.std.proofs.Common.{rules, ◌∙◌, ap}
use Rattle.std.specs.Prelude.{IsSome}
use Rattle.resource_tree.specs.Content.{node_at}
use Rattle.resource_tree.specs.Changes.{change_at, without_value}
use Rattle.resource_tree.proofs.Update.{IsGood-clearing}
use Rattle.tree_draft.proofs.draft.Draft.unset.Goals as goal

pub returns-clause-follows : goal.returns-clause-follows
returns-clause-follows c =
    let found : IsSome (node_at c.args.self.now.content c.args.path.now) = search rules in
    record {
      sound = record {
        good = IsGood-clearing c.change.new.self.content c.args.self.now.content c.args.path.now c.args.name.now c.requires.good found
            (c.in_ok-change.ensures.content ∙ ap (λ n. change_at c.args.self.now.content c.args.path.now (without_value n)) c.in_ok-name.ensures) c.in_ok-change.ensures.ordered;
        counted = c.in_ok-change.ensures.counted c.requires.counted;
      };
      tree = c.in_ok-change.ensures.tree;
    }
