use Rattle.std.proofs.Common.{◌≡◌, ◌∙◌, sym, ⊎_elim, IfSome, subst}
use Rattle.post_apply.specs.Names.{numbered_name}
use Rattle.post_apply.proofs.NumberLemmas.{listed_lent}
use Rattle.post_apply.proofs.numbers.marked_numbers.Goals as goal

pub loop-kid-preserved : goal.loop-kid-preserved
loop-kid-preserved c = λ m marked. ⊎_elim (λ old. c.loop-kid.invariant m old)
    (λ new.
    let is : c.text.result.now ≡ numbered_name c.args.name.now m = subst (λ o. IfSome o (λ n. c.text.result.now ≡ numbered_name c.args.name.now n)) new c.number_in.ensures in
    listed_lent c.args.kids.now c.loop-kid.kid-index c.kid-item.result (numbered_name c.args.name.now m) c.loop-kid-test.true c.kid-item.is (sym c.text.ensures ∙ is)) (c.mark.ensures m marked)
