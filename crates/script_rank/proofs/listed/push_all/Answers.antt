use Rattle.std.proofs.Common.{◌≡◌, ◌-◌, ◌∙◌, ap, arith, append-nil, take, vec_len}
use Rattle.script_rank.proofs.ListedLemmas.{all_put}
use Rattle.script_rank.proofs.listed.push_all.Goals as goal

pub returns : goal.returns
returns c = λ q.
    let left = c.loop-path.left.items in
    let none : vec_len c.loop-path.left - 1 ≡ 0 = omega (arith, c.in_default.ensures.cases.0) in
    all_put c.loop-path.paths.items left q _ (c.in_default.ensures.items ∙ append-nil c.pop.new.self.items ∙ c.in_default.ensures.rest ∙ ap (λ n. take n left) none) (c.loop-path.invariant.paths q)
