use Rattle.resource_tree.proofs.PartLemmas.{more_below}
use Rattle.tree_draft.proofs.part.paths_of_kids.Goals as goal

pub loop-path-preserved : goal.loop-path-preserved
loop-path-preserved c =
    more_below c.args.draft.now.content c.requires c.args.level.now c.loop-path.path-index c.path-item.result c.loop-path.paths.items c.push_kids.new.paths.items c.loop-path-test.true
    c.path-item.is
    c.loop-path.invariant
    c.in_ok-push_kids.ensures
