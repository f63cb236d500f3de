use Rattle.std.proofs.Common.{◌∙◌, ap}
use Rattle.std.specs.FinMap.Entries.{put}
use Rattle.sp_base.specs.Names.{by_name}
use Rattle.overlay_merge.specs.Lent.{properties_lent}
use Rattle.overlay_merge.proofs.LentLemmas.{put_lent}
use Rattle.overlay_merge.proofs.lent_props.LentProps.put.Goals as goal

pub returns : goal.returns
returns c =
    ap properties_lent c.in_ok-insert.ensures.entries ∙ put_lent c.self.inside.props.entries c.args.name c.args.value ∙ ap (put by_name c.args.name.now c.args.value.now) c.self.view_is
