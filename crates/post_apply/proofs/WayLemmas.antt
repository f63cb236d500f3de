-- The nodes on the way to a path, one after the other.
use Rattle.std.proofs.Common.{◌≡◌, ◌∙◌, ◌<◌, ◌≤◌, ◌+◌, ap, sym, arith, ℕ, suc, List, [], ◌∷◌, take, drop, length, get_or}
use Rattle.std.specs.Prelude.{Ok, Err}
use Rattle.std.proofs.Math.Seq.{drop-cons, take-suc}
use Rattle.std.proofs.Math.ListN.{drop_of_length-le}
use Rattle.sp_base.specs.Outcomes.{◌>>=◌}
use Rattle.resource_tree.specs.Content.{Content, kid}
use Rattle.post_apply.specs.declared.fault.ApplyFault.{ApplyFault}
use Rattle.post_apply.specs.Steps.{ApplyOutcome, with_node, with_nodes_below}

next_path : (n : ℕ) (path : List (List ℕ)) → n < length path → kid (take n path) (get_or path n []) ≡ take (n + 1) path
next_path n path within = let one : suc n ≡ n + 1 = omega arith in sym (take-suc path n [] within) ∙ ap (λ m. take m path) one

-- the way from a place on it begins with the next node
way_from : (n : ℕ) (path : List (List ℕ)) (tree : Content) → n < length path
    → with_nodes_below (take n path) (drop n path) tree ≡ (with_node tree (take (n + 1) path) >>= with_nodes_below (take (n + 1) path) (drop (n + 1) path))
unfolding with_nodes_below
way_from n path tree within =
    let one : suc n ≡ n + 1 = omega arith in
    ap (λ names. with_nodes_below (take n path) names tree) (drop-cons path n [] within ∙ ap (λ m. get_or path n [] ∷ drop m path) one)
    ∙ ap (λ p. with_node tree p >>= with_nodes_below p (drop (n + 1) path)) (next_path n path within)

pub goes_on : (n : ℕ) (path : List (List ℕ)) (tree next : Content) (end : ApplyOutcome Content) → n < length path → with_nodes_below (take n path) (drop n path) tree ≡ end
    → with_node tree (take (n + 1) path) ≡ Ok next → with_nodes_below (take (n + 1) path) (drop (n + 1) path) next ≡ end
goes_on n path tree next end within was is =
    sym (ap (λ o. o >>= with_nodes_below (take (n + 1) path) (drop (n + 1) path)) is) ∙ sym (way_from n path tree within) ∙ was

pub stops : (n : ℕ) (path : List (List ℕ)) (tree : Content) (e : ApplyFault) (end : ApplyOutcome Content) → n < length path → with_nodes_below (take n path) (drop n path) tree ≡ end
    → with_node tree (take (n + 1) path) ≡ Err e → end ≡ Err e
stops n path tree e end within was is =
    sym was ∙ way_from n path tree within ∙ ap (λ o. o >>= with_nodes_below (take (n + 1) path) (drop (n + 1) path)) is

pub ends : (n : ℕ) (path : List (List ℕ)) (tree : Content) (end : ApplyOutcome Content) → length path ≤ n → with_nodes_below (take n path) (drop n path) tree ≡ end → end ≡ Ok tree
unfolding with_nodes_below
ends n path tree end all was = sym was ∙ ap (λ names. with_nodes_below (take n path) names tree) (drop_of_length-le path all)
