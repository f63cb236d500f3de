use Rattle.std.proofs.Common.{◌∙◌, sym, ap, subst, T, not, is_some}
use Rattle.std.specs.Ordering.{eq_by_cmp}
use Rattle.std.specs.FinMap.Entries.{find, where_key, is_sorted, is_sorted-where_key}
use Rattle.sp_base.specs.Properties.{by_name}
use Rattle.sp_base.proofs.PropertyLemmas.{find_at, find_gap, others_gap, remove_at}
use Rattle.sp_base.proofs.property_list.PropList.remove.Goals as goal

pub invariant_of-self : goal.invariant_of-self
invariant_of-self c =
    let found = rw c.deref.ensures.value at c.in-Ok.ensures.found in
    let same = c.remove.ensures.items ∙ remove_at c.args.name.now c.self.inside.props.items c.in-Ok.place found c.self.invariant in
    subst (λ list. T (is_sorted by_name list)) (sym same)
    (is_sorted-where_key by_name (λ key. not (eq_by_cmp by_name c.args.name.now key)) c.self.inside.props.items c.self.invariant)

pub returns-in-Ok-clause-was : goal.returns-in-Ok-clause-was
returns-in-Ok-clause-was c =
    let found = rw c.deref.ensures.value at c.in-Ok.ensures.found in
    sym (ap (λ list. is_some (find by_name c.args.name.now list)) (sym c.self.view_is) ∙ ap is_some (find_at c.args.name.now c.self.inside.props.items c.in-Ok.place found))

pub returns-in-Ok-clause-new : goal.returns-in-Ok-clause-new
returns-in-Ok-clause-new c =
    let found = rw c.deref.ensures.value at c.in-Ok.ensures.found in
    c.remove.ensures.items ∙ remove_at c.args.name.now c.self.inside.props.items c.in-Ok.place found c.self.invariant
    ∙ ap (where_key by_name (λ key. not (eq_by_cmp by_name c.args.name.now key))) c.self.view_is

pub returns-in-Err-clause-was : goal.returns-in-Err-clause-was
returns-in-Err-clause-was c =
    let gap = rw c.deref.ensures.value at c.in-Err.ensures.gap in
    sym (ap (λ list. is_some (find by_name c.args.name.now list)) (sym c.self.view_is) ∙ ap is_some (find_gap c.args.name.now c.self.inside.props.items c.in-Err.field-0 gap))

pub returns-in-Err-clause-new : goal.returns-in-Err-clause-new
returns-in-Err-clause-new c =
    let gap = rw c.deref.ensures.value at c.in-Err.ensures.gap in
    sym c.self.view_is ∙ sym (others_gap c.args.name.now c.self.inside.props.items c.in-Err.field-0 gap)
    ∙ ap (where_key by_name (λ key. not (eq_by_cmp by_name c.args.name.now key))) c.self.view_is
