use Rattle.std.proofs.Common.{sym, ◌∙◌}
use Rattle.overlay_merge.proofs.PropertyLemmas.{hide_every, hide_one}
use Rattle.overlay_merge.proofs.properties.hide_by.Goals as goal

pub returns-then-eq : goal.returns-then-eq
returns-then-eq c = c.clear.ensures ∙ hide_every c.args.text.now c.args.props.now (sym c.eq.ensures ∙ c.if-eq.true)

pub returns-else-eq : goal.returns-else-eq
returns-else-eq c = hide_one c.args.text.now c.args.props.now c.remove.new.self (sym c.eq.ensures ∙ c.if-eq.false) c.remove.ensures
