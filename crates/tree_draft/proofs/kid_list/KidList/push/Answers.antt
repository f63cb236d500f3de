use Rattle.std.proofs.Common.{◌≡◌, ◌∙◌, ◌++◌, ◌∷◌, ◌+◌, [], ap, arith, length, length-append, List, ℕ}
use Rattle.tree_draft.specs.Falls.{standing_names}
use Rattle.tree_draft.proofs.FallLemmas.{standing_names-more, within-more}
use Rattle.tree_draft.proofs.kid_list.KidList.push.Goals as goal

pub returns : goal.returns
returns c =
    ap (standing_names c.self.inside.falls 0) c.in_ok-push.ensures.ok
    ∙ standing_names-more c.self.inside.falls 0 c.self.inside.names c.args.name (omega (arith, c.self.invariant c.args.name))
    ∙ ap (λ (l : List (List ℕ)). l ++ c.args.name ∷ []) c.self.view_is

pub invariant_of-self-2 : goal.invariant_of-self-2
invariant_of-self-2 c =
    let longer : length c.push.new.self ≡ length c.self.inside.names + 1 = ap (λ (l : List (List ℕ)). length l) c.in_ok-push.ensures.ok ∙ length-append c.self.inside.names (c.args.name ∷ []) in
    within-more c.self.inside.falls (length c.self.inside.names) (length c.push.new.self) c.self.invariant (omega (arith, longer))
