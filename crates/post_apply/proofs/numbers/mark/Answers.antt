use Rattle.post_apply.proofs.NumberLemmas.{marked}
use Rattle.post_apply.proofs.numbers.mark.Goals as goal

pub returns-then-n-len : goal.returns-then-n-len
returns-then-n-len c = λ m is. marked c.args.marks.now.items c.args.number c.in-Some.n m c.in-Some.is is
