use Rattle.script_rank.proofs.TextLemmas.{adds_one}
use Rattle.script_rank.proofs.texts.push_script.Goals as goal

pub returns : goal.returns
returns c =
    adds_one c.args.path.now c.in_ok-parent.field-0 c.args.holds c.args.scripts.now.items c.push.new.self.items c.requires c.if-not-holds.false c.in_ok-parent.ensures c.in_ok-push.ensures.items
