use Rattle.std.proofs.Common.{◌≡◌}
use Rattle.std.specs.Prelude.{option_map}
use Rattle.overlay_merge.specs.Layers.{base_at}
use Rattle.overlay_merge.proofs.LayerLemmas.{base_below}
use Rattle.overlay_merge.proofs.layers.base_of.Given as goal

abbrev pub invariant-loop-n : goal.invariant-loop-n
invariant-loop-n l = option_map (λ b. base_at b.0 b.1.now) l.base ≡ base_below l.tree l.path l.n
