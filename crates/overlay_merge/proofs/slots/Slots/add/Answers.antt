use Rattle.overlay_merge.proofs.SlotsKept.{added}
use Rattle.overlay_merge.proofs.slots.Slots.add.Goals as goal

pub returns-clause-good : goal.returns-clause-good
returns-clause-good c = (added c.args.self.now c.put.new.self c.args.name.now c.requires.good c.in_ok-put.ensures.put c.in_ok-put.ensures.size c.in_ok-put.ensures.more c.requires.new).good

pub returns-clause-names : goal.returns-clause-names
returns-clause-names c = (added c.args.self.now c.put.new.self c.args.name.now c.requires.good c.in_ok-put.ensures.put c.in_ok-put.ensures.size c.in_ok-put.ensures.more c.requires.new).names_are
