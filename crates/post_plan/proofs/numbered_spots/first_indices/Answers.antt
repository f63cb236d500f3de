use Rattle.std.proofs.Common.{ap, arith}
use Rattle.post_plan.specs.Entries.{Entry}
use Rattle.post_plan.proofs.NumberedSpotLemmas.{indices_end, indices_start, indices_step}
use Rattle.post_plan.proofs.numbered_spots.first_indices.Goals as goal

pub loop-n-init : goal.loop-n-init
loop-n-init c = indices_start c.args.entries.now c.new-first.result c.new-indices.result.items c.new-first.ensures.empty c.new-indices.ensures.items

pub loop-n-preserved : goal.loop-n-preserved
loop-n-preserved c =
    indices_step c.args.entries.now c.loop-n.n c.index-entries-n.result c.loop-n.first c.index_of.new.first c.loop-n.indices.items c.push.new.self.items c.in_ok-index.index c.entry.inside.spot
    (omega arith) c.index-entries-n.is (ap (λ (e : Entry). e.spot) c.entry.view_is) c.loop-n.invariant c.in_ok-index.ensures.index c.in_ok-index.ensures.noted c.in_ok-push.ensures.items

pub returns : goal.returns
returns c = indices_end c.args.entries.now c.loop-n.n c.loop-n.first c.loop-n.indices.items (omega arith) c.loop-n.invariant
