use Rattle.std.proofs.Common.{sym, ◌∙◌}
use Rattle.resource_tree.specs.Content.{kid}
use Rattle.overlay_merge.proofs.KidLemmas.{not_there}
use Rattle.overlay_merge.proofs.kids.is_there.Goals as goal

pub returns-in-None : goal.returns-in-None
returns-in-None c = not_there c.args.tree.now (kid c.args.path.now c.args.name.now) (sym c.in-None.is ∙ c.in_ok-path.ensures)
