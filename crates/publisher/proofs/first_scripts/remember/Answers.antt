use Rattle.std.proofs.Common.{◌∙◌}
use Rattle.publisher.proofs.FirstLemmas.{one_more}
use Rattle.publisher.proofs.first_scripts.remember.Goals as goal

pub returns : goal.returns
returns c =
    one_more c.args.tree.now c.args.firsts.now c.make_room.new.self c.put.new.self c.in-Ok.first c.args.props.now c.args.parts.now c.requires.firsts c.make_room.ensures.fewer
    c.in-Ok.ensures.of (c.in-Ok.ensures.script ∙ c.requires.script) c.put.ensures
