use Rattle.std.proofs.Common.{◌≡◌, false, sym, subst}
use Rattle.serde_json.specs.Data.{boolean}
use Rattle.sp_base.specs.declared.value.Value.TheVariants.{Truths}
use Rattle.content_json.specs.Tokens.{is_open_list, HasItemMore}
use Rattle.content_json.proofs.ListLemmas.{more_truths, truth_mixes}
use Rattle.content_json.proofs.tokens.with_truth.Goals as goal

pub returns-then-not-is_open : goal.returns-then-not-is_open
returns-then-not-is_open c =
    let closed : is_open_list c.args.list ≡ false = (let a = c.is_open.ensures in let b = c.if-not-is_open.true in let e = c.in_default.other-is in cc) in
    truth_mixes c.args.list c.args.truth c.requires closed c.in_default.not-Truths

pub returns-in_ok-push-in-Truths : goal.returns-in_ok-push-in-Truths
returns-in_ok-push-in-Truths c =
    let truths = c.in-Truths.truths in
    let b = c.args.truth in
    subst (λ l. HasItemMore l (boolean b) (Truths c.push.new.self)) (sym c.in-Truths.is)
    (subst (λ xs. HasItemMore (Truths truths) (boolean b) (Truths xs)) (sym c.in_ok-push-in-Truths.ensures.ok) (more_truths truths b))
