use Rattle.std.proofs.Common.{ap, sym}
use Rattle.std.specs.Prelude.{unwrap_or}
use Rattle.post_plan.proofs.NumberedSpotLemmas.{noted_new}
use Rattle.post_plan.proofs.numbered_spots.new_index.Goals as goal

pub returns-clause-index : goal.returns-clause-index
returns-clause-index c = sym (ap (λ o. unwrap_or o c.args.n) c.requires)

pub returns-clause-noted : goal.returns-clause-noted
returns-clause-noted c =
    noted_new c.args.first.now c.insert.new.self c.args.spot.now c.key_of.result c.args.n c.key_of.ensures c.requires c.in_ok-insert.ensures.updates.0
