use Rattle.std.proofs.Common.{◌≡◌, IfOk, Option, List, ℕ, subst}
use Rattle.post_plan.proofs.PieceLemmas.{own_one, own_none}
use Rattle.post_plan.proofs.goals.below.Goals as goal

pub returns-in-Some : goal.returns-in-Some
returns-in-Some c = subst (λ (l : Option (List (List ℕ))). IfOk c.child_or_none.result (λ o. o ≡ l)) (own_one c.args.base c.args.target.now c.in-Some.name.now c.in-Some.ensures.value) c.child_or_none.ensures

pub returns-in-None : goal.returns-in-None
returns-in-None c = own_none c.args.base c.args.target.now c.in-None.ensures.value c.depth-depth.ensures.valid
