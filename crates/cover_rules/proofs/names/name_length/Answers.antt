use Rattle.std.proofs.Common.{◌<◌, refl, length, arith}
use Rattle.cover_rules.specs.Names.{file_name}
use Rattle.cover_rules.proofs.NameLemmas.{name_more}
use Rattle.cover_rules.proofs.names.name_length.Goals as goal

pub loop-b-init : goal.loop-b-init
unfolding file_name
loop-b-init c = (refl, omega arith)

pub loop-b-preserved : goal.loop-b-preserved
loop-b-preserved c =
    let below : c.loop-b.b-index < length c.as_bytes-b-items.result.now = omega arith in
    (omega (arith, c.loop-b.invariant.0, name_more c.as_bytes-b-items.result.now c.loop-b.b-index below, c.width-length.ensures.width), omega (arith, c.loop-b.invariant.1, c.width-length.ensures.few))
