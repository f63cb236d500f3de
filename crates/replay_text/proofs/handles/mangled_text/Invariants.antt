use Rattle.std.proofs.Common.{◌≡◌, ◌∷◌, take}
use Rattle.std.specs.Prelude.{flat_map}
use Rattle.sp_base.specs.Paths.{mangled_seg}
use Rattle.replay_text.proofs.handles.mangled_text.Given as goal

abbrev pub invariant-loop-place : goal.invariant-loop-place
invariant-loop-place l = l.text.items ≡ flat_map (λ seg. 47 ∷ mangled_seg seg) (take l.place l.path)
