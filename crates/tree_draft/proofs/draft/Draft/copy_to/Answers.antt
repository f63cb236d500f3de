use Rattle.std.proofs.Common.{◌∙◌, ap}
use Rattle.std.specs.Prelude.{is_some}
use Rattle.resource_tree.specs.Content.{node_at}
use Rattle.resource_tree.proofs.Copied.{is_free, allowed, IsGood-copy}
use Rattle.tree_draft.proofs.MoveLemmas.{part_put}
use Rattle.tree_draft.proofs.draft.Draft.copy_to.Goals as goal

pub put_part-requires : goal.put_part-requires
put_part-requires c =
    ap (λ p. is_some (node_at c.args.self.now.content p)) c.in_ok-parent.ensures ∙ (is_free c.args.self.now.content c.args.source.now c.args.target.now c.in_ok-check_target.ensures.ok).parent_there

pub returns-clause-ok : goal.returns-clause-ok
returns-clause-ok c =
    part_put c.args.self.now.content c.args.self.now.content c.put_part.new.self.content c.args.source.now c.args.target.now c.in_ok-parent.parent c.in_ok-part.part.entries
    c.requires.good.ordered
    c.requires.good.ordered
    c.in_ok-part.ensures.once
    c.in_ok-part.ensures.ok
    c.in_ok-parent.ensures
    c.in_ok-put_part.ensures.content

pub returns-clause-allowed : goal.returns-clause-allowed
returns-clause-allowed c = allowed c.args.self.now.content c.args.source.now c.args.target.now c.in_ok-check_target.ensures.ok c.in_ok-part.ensures.shallow c.in_ok-part.ensures.small

pub returns-clause-follows : goal.returns-clause-follows
returns-clause-follows c =
    let tree = c.args.self.now.content in
    let free = is_free tree c.args.source.now c.args.target.now c.in_ok-check_target.ensures.ok in
    record {
      sound = record {
        good = IsGood-copy tree c.args.source.now c.args.target.now c.requires.good free c.in_ok-part.ensures.shallow c.put_part.new.self.content (returns-clause-ok c) c.in_ok-put_part.ensures.ordered c.in_ok-part.ensures.small;
        counted = c.in_ok-put_part.ensures.counted c.requires.counted;
      };
      tree = c.in_ok-put_part.ensures.tree;
    }
