use Rattle.std.proofs.Common.{sym}
use Rattle.sp_base.proofs.PropertyLemmas.{value_at, find_gap}
use Rattle.sp_base.proofs.property_list.PropList.get.Goals as goal

pub returns-in-Ok : goal.returns-in-Ok
returns-in-Ok c =
    let found = rw c.deref.ensures.value at c.in-Ok.ensures.found in
    let at = rw c.self.view_is at (value_at c.args.name.now c.self.inside.props.items c.in-Ok.place c.index.result.now found c.index.ensures) in at

pub returns-in-Err : goal.returns-in-Err
returns-in-Err c =
    let gap = rw c.deref.ensures.value at c.in-Err.ensures.gap in
    rw (← c.self.view_is) (sym (find_gap c.args.name.now c.self.inside.props.items c.in-Err.field-0 gap))
