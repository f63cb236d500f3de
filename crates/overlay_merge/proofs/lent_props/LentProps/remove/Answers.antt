use Rattle.std.proofs.Common.{not, ◌∙◌, ap}
use Rattle.std.specs.FinMap.Entries.{where_key}
use Rattle.std.specs.Ordering.{eq_by_cmp}
use Rattle.sp_base.specs.Names.{by_name}
use Rattle.overlay_merge.specs.Lent.{properties_lent}
use Rattle.overlay_merge.proofs.LentLemmas.{remove_lent}
use Rattle.overlay_merge.proofs.lent_props.LentProps.remove.Goals as goal

pub returns : goal.returns
returns c =
    ap properties_lent c.remove.ensures.entries ∙ remove_lent c.args.name.now c.self.inside.props.entries c.len.ensures.ordered
    ∙ ap (where_key by_name (λ key. not (eq_by_cmp by_name c.args.name.now key))) c.self.view_is
