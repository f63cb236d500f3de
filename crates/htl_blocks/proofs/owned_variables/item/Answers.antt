use Rattle.std.proofs.Common.{◌≡◌, ◌∙◌, List, ℕ, Option, Some, [], IfOk, ap, sym, subst}
use Rattle.std.specs.List.{slice_index_or}
use Rattle.htl_expr.specs.Bindings.{with_vars}
use Rattle.htl_expr.specs.Value.{list_in}
use Rattle.htl_expr.specs.Variables.{lent_pairs}
use Rattle.htl_expr.proofs.VariableLemmas.{pairs_are}
use Rattle.htl_blocks.specs.Pieces.{items_in}
use Rattle.htl_blocks.specs.Written.{statement_value}
use Rattle.htl_blocks.proofs.owned_variables.item.Goals as goal

pub returns-clause-item : goal.returns-clause-item
returns-clause-item c =
    let lent = pairs_are c.as_slice.result ∙ ap lent_pairs c.as_slice.ensures ∙ c.in_ok-lent.ensures in
    let some = subst (λ (v : List (List ℕ × List ℕ)). Some c.in-Some.items ≡ list_in (statement_value (with_vars c.args.of.now v) c.args.round.now.list.now)) lent (sym c.in-Some.is ∙ c.in_ok-items.ensures.items) in
    let there = ap (λ (l : Option (List (List ℕ))). slice_index_or (items_in l) c.args.round.now.index []) some in
    subst (λ (t : List ℕ). IfOk c.text_at.result (λ text. text ≡ t)) there c.text_at.ensures
