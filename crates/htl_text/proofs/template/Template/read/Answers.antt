use Rattle.std.proofs.Common.{sym, rules, arith, length, ◌≡◌, ◌≢◌, Err}
use Rattle.htl_text.specs.Template.{template_of}
use Rattle.htl_text.specs.declared.fault.TextFault.TheVariants.{NoMemory}
use Rattle.htl_text.proofs.Pieces.{opens_is, read_ends, read_fails, read_more}
use Rattle.htl_text.proofs.template.Template.read.Goals as goal

pub returns-then-is_empty-clause-ok : goal.returns-then-is_empty-clause-ok
returns-then-is_empty-clause-ok c =
    let none = sym c.if-is_empty.ensures in
    read_ends (length c.args.text.now) _ c.push_plain.new.pieces c.in_ok-prefix.prefix c.in_ok-prefix.remainder.now c.loop-pieces.rest.now c.args.text.now none c.in_ok-prefix.ensures.pieces c.in_ok-push_plain.ensures c.loop-pieces.invariant.2

pub returns-in_err-expression-clause-err : goal.returns-in_err-expression-clause-err
returns-in_err-expression-clause-err c =
    let some = sym c.if-is_empty.ensures in
    let there = opens_is c.in_ok-prefix.remainder.now c.in_ok-prefix.ensures.ends some in
    let fails : c.in_err-expression.field-0.0 ≢ NoMemory → template_of c.args.text.now ≡ Err c.in_err-expression.field-0.0 =
    λ known. read_fails (length c.args.text.now) c.saturating_sub-place.result _ c.in_ok-prefix.prefix c.in_ok-prefix.remainder.now c.loop-pieces.rest.now c.args.text.now c.in_err-expression.field-0.0 there c.saturating_sub-place.ensures (c.in_err-expression.ensures.err known) c.in_ok-prefix.ensures.pieces c.loop-pieces.invariant.2 in
    search rules

pub loop-pieces-preserved : goal.loop-pieces-preserved
loop-pieces-preserved c =
    let some = sym c.if-is_empty.ensures in
    let there = opens_is c.in_ok-prefix.remainder.now c.in_ok-prefix.ensures.ends some in
    let less = c.in_ok-expression.ensures.less in
    let prefix = c.in_ok-prefix.ensures.less in
    let within = c.loop-pieces.invariant.1 in
    let more =
    read_more (length c.args.text.now) c.saturating_sub-place.result _ _ _ c.in_ok-prefix.prefix c.in_ok-prefix.remainder.now c.in_ok-expression.after.now c.loop-pieces.rest.now c.args.text.now _ there c.saturating_sub-place.ensures c.in_ok-expression.ensures.ok c.in_ok-prefix.ensures.pieces c.in_ok-push_plain.ensures c.in_ok-push.ensures.ok c.loop-pieces.invariant.2 in
    (search rules, omega (arith, less, prefix, within), more)
