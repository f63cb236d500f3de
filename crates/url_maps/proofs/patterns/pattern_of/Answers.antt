use Rattle.std.proofs.Common.{◌∙◌, ap, sym, Some}
use Rattle.url_maps.proofs.RowLemmas.{none_read, read_row}
use Rattle.url_maps.proofs.patterns.pattern_of.Goals as goal

pub returns-in_ok-of-in-Ok : goal.returns-in_ok-of-in-Ok
returns-in_ok-of-in-Ok c =
    read_row c.args.name.now c.args.node.now c.text-2.result.now (record { name = c.in_ok-of-in-Ok.field-0; pattern = c.in-Ok.pattern }) (sym c.in-Some.ensures ∙ ap (λ t. Some t) (sym c.text-2.ensures)) (sym c.leads.ensures ∙ c.if-not-leads.false)
    c.in-Ok.ensures.spelled c.in_ok-of-in-Ok.ensures

pub returns-in-Err : goal.returns-in-Err
returns-in-Err c =
    none_read c.args.name.now c.args.node.now c.text-2.result.now c.in-Err.fault c.none_read.result (sym c.in-Some.ensures ∙ ap (λ t. Some t) (sym c.text-2.ensures)) c.in-Err.ensures.none c.none_read.ensures
