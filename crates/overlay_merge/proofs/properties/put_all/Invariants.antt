use Rattle.std.proofs.Common.{◌≡◌, drop}
use Rattle.overlay_merge.specs.Properties.{put_all}
use Rattle.overlay_merge.proofs.properties.put_all.Given as goal

abbrev pub invariant-loop-place : goal.invariant-loop-place
invariant-loop-place l = put_all l.props (drop l.place l.upper) ≡ put_all l.fn.props l.upper
