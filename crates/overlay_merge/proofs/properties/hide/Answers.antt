use Rattle.std.proofs.Common.{not, ◌∙◌, ap}
use Rattle.std.specs.List.{list_any}
use Rattle.std.specs.FinMap.Entries.{where_key}
use Rattle.sp_base.specs.Names.{by_name}
use Rattle.overlay_merge.specs.Hiding.{text_stands_for}
use Rattle.overlay_merge.proofs.properties.hide.Goals as goal

pub returns : goal.returns
returns c = c.hide_by_all.ensures ∙ ap (λ l. where_key by_name (λ name. not (list_any (text_stands_for name) l)) c.args.props.now) c.value_texts.ensures
