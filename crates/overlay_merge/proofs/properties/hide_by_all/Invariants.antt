use Rattle.std.proofs.Common.{◌≡◌, not, take}
use Rattle.std.specs.List.{list_any}
use Rattle.std.specs.FinMap.Entries.{where_key}
use Rattle.sp_base.specs.Names.{by_name}
use Rattle.overlay_merge.specs.Hiding.{text_stands_for}
use Rattle.overlay_merge.proofs.properties.hide_by_all.Given as goal

abbrev pub invariant-loop-text : goal.invariant-loop-text
invariant-loop-text l = l.props ≡ where_key by_name (λ name. not (list_any (text_stands_for name) (take l.text-index l.texts))) l.fn.props
