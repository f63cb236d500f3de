use Rattle.overlay_merge.proofs.PropertyLemmas.{steering_is}
use Rattle.overlay_merge.proofs.properties.remove_steering.Goals as goal

pub returns : goal.returns
returns c = steering_is c.args.props.now c.remove.new.self c.remove-2.new.self c.remove-3.new.self c.remove-4.new.self c.remove.ensures c.remove-2.ensures c.remove-3.ensures c.remove-4.ensures
