use Rattle.std.proofs.Common.{◌≡◌, []}
use Rattle.overlay_merge.specs.Lent.{properties_lent}
use Rattle.overlay_merge.specs.Properties.{put_all}
use Rattle.overlay_merge.proofs.lent_props.LentProps.copied.Given as goal

-- those so far, with those that are left put over them
abbrev pub invariant-loop-name : goal.invariant-loop-name
invariant-loop-name l = put_all l.props (properties_lent l.name-iterator) ≡ put_all [] l.fn.self
