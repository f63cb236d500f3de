use Rattle.std.proofs.Common.{◌≡◌, arith, sym, ap, ◌∙◌, option_copied, false, true}
use Rattle.std.proofs.lemmas.Bool.{not-false, not-true}
use Rattle.form_input.proofs.FormLemmas.{no_end, nothing_left, read_on, bad_part, too_many, pushed, all_read}
use Rattle.form_input.proofs.multipart.read_parts.Goals as goal

pub returns-in_default-clause-err : goal.returns-in_default-clause-err
returns-in_default-clause-err c = λ _.
    let opening : c.loop-mark.mark.closing ≡ false = first_of (cc, grind (arith, not-true)) in
    no_end c.args.dash.now c.args.end c.args.first c.loop-mark.form c.loop-mark.mark c.loop-mark.invariant opening (nothing_left c.args.dash.now c.args.end (option_copied c.loop-mark.mark.after) (ap option_copied c.in_default.is))

pub returns-in_default-next_mark-clause-err : goal.returns-in_default-next_mark-clause-err
returns-in_default-next_mark-clause-err c = λ _.
    let opening : c.loop-mark.mark.closing ≡ false = first_of (cc, grind (arith, not-true)) in
    no_end c.args.dash.now c.args.end c.args.first c.loop-mark.form c.loop-mark.mark c.loop-mark.invariant opening (rw c.in-Some.is c.in_default-next_mark.ensures.none)

pub returns-in_default-2-clause-err : goal.returns-in_default-2-clause-err
returns-in_default-2-clause-err c = λ _.
    let opening : c.loop-mark.mark.closing ≡ false = first_of (cc, grind (arith, not-true)) in
    let on = read_on c.args.dash.now c.args.end c.args.first c.loop-mark.form c.loop-mark.mark c.in-Some-next_mark.next c.in-Some.after.now c.loop-mark.invariant opening (ap option_copied c.in-Some.is) c.in-Some-next_mark.ensures.some in
    bad_part _ c.loop-mark.mark.place c.loop-mark.form _ _ _ (sym c.in_ok-pair.ensures ∙ c.in_default-2.is) on

pub returns-then-len-eq-MOST_PAIRS-clause-err : goal.returns-then-len-eq-MOST_PAIRS-clause-err
returns-then-len-eq-MOST_PAIRS-clause-err c = λ _.
    let opening : c.loop-mark.mark.closing ≡ false = first_of (cc, grind (arith, not-true)) in
    let on = read_on c.args.dash.now c.args.end c.args.first c.loop-mark.form c.loop-mark.mark c.in-Some-next_mark.next c.in-Some.after.now c.loop-mark.invariant opening (ap option_copied c.in-Some.is) c.in-Some-next_mark.ensures.some in
    too_many _ c.loop-mark.mark.place c.loop-mark.form _ c.in-Some-2.pair _ _ (sym c.in_ok-pair.ensures ∙ c.in-Some-2.is) (sym c.len.ensures ∙ c.if-len-eq-MOST_PAIRS.true) on

pub loop-mark-preserved : goal.loop-mark-preserved
loop-mark-preserved c =
    let opening : c.loop-mark.mark.closing ≡ false = first_of (cc, grind (arith, not-true)) in
    pushed c.args.dash.now c.args.end c.args.first c.loop-mark.form c.push.new.self c.loop-mark.mark c.in-Some-next_mark.next c.in-Some.after c.in_ok-pair.field-0 c.in-Some-2.pair c.loop-mark.invariant opening c.in-Some.is c.in-Some-next_mark.ensures.some
    c.in-Some-next_mark.ensures.shorter c.in_ok-pair.ensures c.in-Some-2.is (λ full. c.if-len-eq-MOST_PAIRS.false (c.len.ensures ∙ full)) c.in_ok-push.ensures.ok

pub returns-clause-ok : goal.returns-clause-ok
returns-clause-ok c =
    let shut_mark : c.loop-mark.mark.closing ≡ true = first_of (cc, grind (arith, not-false)) in
    all_read c.args.dash.now c.args.end c.args.first c.loop-mark.form c.loop-mark.mark c.loop-mark.invariant shut_mark
