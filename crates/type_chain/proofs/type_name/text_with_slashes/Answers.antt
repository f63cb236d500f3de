use Rattle.std.proofs.Common.{◌∙◌, ap, ◌∷◌, [], List, ℕ, Bor}
use Rattle.std.specs.List.{join_by}
use Rattle.type_chain.proofs.TypeLemmas.{joined_is}
use Rattle.type_chain.proofs.type_name.text_with_slashes.Goals as goal

pub returns : goal.returns
returns c =
    let pieces = c.in_ok-pieces_of.field-0.items in
    c.in_ok-join.ensures.ok ∙ ap (join_by (λ (p : Bor (List ℕ)). p.now) (47 ∷ [])) c.deref.ensures.value
    ∙ joined_is (λ p. p.now) pieces c.args.text.now c.in_ok-pieces_of.ensures
