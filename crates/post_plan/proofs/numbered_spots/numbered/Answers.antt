use Rattle.std.proofs.Common.{◌==◌, arith, filter}
use Rattle.post_plan.specs.NumberedSpots.{first_index}
use Rattle.post_plan.proofs.NumberedSpotLemmas.{own_all, own_step, within_indices}
use Rattle.post_plan.proofs.numbered_spots.numbered.Goals as goal

pub bounds-indices-k : goal.bounds-indices-k
bounds-indices-k c = within_indices c.args.entries.now c.args.indices.now c.loop-k.k c.requires (omega arith)

pub loop-k-preserved : goal.loop-k-preserved
loop-k-preserved c =
    own_step c.args.entries.now c.args.indices.now c.loop-k.k c.args.n c.loop-k.own c.add_numbered.new.own (filter (λ e. first_index c.args.entries.now e.spot == c.args.n) c.args.entries.now) c.index-entries-k.result
    c.requires (omega arith) c.index-entries-k.is c.in_ok-add_numbered.ensures c.loop-k.invariant

pub returns : goal.returns
returns c = own_all c.args.entries.now c.loop-k.k c.args.n c.loop-k.own (omega arith) c.loop-k.invariant
