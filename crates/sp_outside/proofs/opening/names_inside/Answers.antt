use Rattle.std.proofs.Common.{get_or, sym, ◌∙◌, ap, arith, subst}
use Rattle.sp_outside.proofs.Found.{IsNamesTo, all_added, no_names_yet, one_added}
use Rattle.sp_outside.proofs.opening.names_inside.Goals as goal

pub loop-name-init : goal.loop-name-init
loop-name-init c = subst (IsNamesTo c.args.found.now 0) (sym c.new-names.ensures) (no_names_yet c.args.found.now)

pub loop-name-preserved : goal.loop-name-preserved
loop-name-preserved c =
    let found = c.args.found.now in
    let at = c.loop-name.name-index in
    one_added found at c.text.result.now c.loop-name.names c.add_inside.new.names c.loop-name-test.true
    (c.text.ensures ∙ c.name-item.is ∙ ap (get_or found at) (sym c.text.ensures)) c.loop-name.invariant c.in_ok-add_inside.ensures

pub returns : goal.returns
returns c = all_added c.args.found.now c.loop-name.name-index c.loop-name.names (omega arith) c.loop-name.invariant
