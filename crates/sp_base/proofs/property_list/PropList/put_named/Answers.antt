use Rattle.std.proofs.Common.{◌∙◌, sym, ap, subst, T}
use Rattle.std.specs.FinMap.Entries.{put, is_sorted, is_sorted-put}
use Rattle.std.specs.Cmp.Lexicographic.{nat_list_cmp_total}
use Rattle.sp_base.specs.Properties.{by_name}
use Rattle.sp_base.proofs.PropertyLemmas.{set_at, put_gap}
use Rattle.sp_base.proofs.property_list.PropList.put_named.Goals as goal

pub invariant_of-self : goal.invariant_of-self
invariant_of-self c =
    let found = rw c.text.ensures at (rw c.deref.ensures.value at c.in-Ok.ensures.found) in
    let same = set_at c.args.name c.args.value c.self.inside.props.items c.in-Ok.place c.index_mut.result.now found c.index_mut.ensures.value in
    subst (λ list. T (is_sorted by_name list)) (sym same)
    (is_sorted-put by_name nat_list_cmp_total c.args.name c.args.value c.self.inside.props.items c.self.invariant)

pub invariant_of-self-in-Err : goal.invariant_of-self-in-Err
invariant_of-self-in-Err c =
    let gap = rw c.text.ensures at (rw c.deref.ensures.value at c.in-Err.ensures.gap) in
    let same = c.in_ok-insert-in-Err.ensures.items ∙ sym (put_gap c.args.name c.args.value c.self.inside.props.items c.in-Err.place gap) in
    subst (λ list. T (is_sorted by_name list)) (sym same)
    (is_sorted-put by_name nat_list_cmp_total c.args.name c.args.value c.self.inside.props.items c.self.invariant)

pub returns-in-Ok-clause-ok : goal.returns-in-Ok-clause-ok
returns-in-Ok-clause-ok c =
    let found = rw c.text.ensures at (rw c.deref.ensures.value at c.in-Ok.ensures.found) in
    set_at c.args.name c.args.value c.self.inside.props.items c.in-Ok.place c.index_mut.result.now found c.index_mut.ensures.value
    ∙ ap (put by_name c.args.name c.args.value) c.self.view_is

pub returns-in_ok-insert-in-Err-clause-ok : goal.returns-in_ok-insert-in-Err-clause-ok
returns-in_ok-insert-in-Err-clause-ok c =
    let gap = rw c.text.ensures at (rw c.deref.ensures.value at c.in-Err.ensures.gap) in
    c.in_ok-insert-in-Err.ensures.items ∙ sym (put_gap c.args.name c.args.value c.self.inside.props.items c.in-Err.place gap)
    ∙ ap (put by_name c.args.name c.args.value) c.self.view_is
