-- The content without the nodes at a path and under it, by look-ups.
use Rattle.std.proofs.Common.{◌+◌, ◌<◌, length, take, get_or, ◌≡◌, ℕ, Bool, not, true, false, cond, ◌||◌, ◌&&◌, List, [], ◌∷◌, ◌++◌, refl, sym, ◌∙◌, ap, subst, Option, Some, None}
use Rattle.std.specs.Prelude.{filter, is_some}
use Rattle.std.specs.List.{list_any}
use Rattle.std.specs.List.Sorted.{IsStrictlySortedBy}
use Rattle.std.specs.Map.{keys_of}
use Rattle.std.specs.Cmp.{eq_by_cmp_equiv}
use Rattle.std.proofs.lemmas.List.{take_more}
use Rattle.std.proofs.lemmas.List.Folds.{list_any-append}
use Rattle.std.proofs.lemmas.List.Kept.{IsStrictlySortedBy-filter}
use Rattle.std.proofs.lemmas.Map.Entries.{lookup-filter-keys}
use Rattle.sp_base.specs.PathExact.{exact_paths}
use Rattle.sp_base.specs.Paths.{is_under}
use Rattle.sp_base.proofs.OrderingLemmas.{by_path_total}
use Rattle.resource_tree.specs.declared.nodes.Node.{Node}
use Rattle.resource_tree.specs.Content.{Content, by_path, same_path, node_at}
use Rattle.resource_tree.specs.Changes.{without_under}
use Rattle.resource_tree.proofs.PathLemmas.{path_from_same}
use Rattle.resource_tree.proofs.EntriesInOrder.{same_in_order}

pub keys_of-filter : (p : List (List ℕ) → Bool) (tree : Content) → keys_of (filter (λ e. p e.0) tree) ≡ filter p (keys_of tree)
keys_of-filter p [] = refl
keys_of-filter p (e ∷ tree) =
    elim (p e.0) as (λ b. keys_of (cond b (e ∷ filter (λ e. p e.0) tree) (filter (λ e. p e.0) tree)) ≡ cond b (e.0 ∷ filter p (keys_of tree)) (filter p (keys_of tree))) [
      | true ↦ ap (λ ks. e.0 ∷ ks) (keys_of-filter p tree)
      | false ↦ keys_of-filter p tree
    ]

by_both : (a b : Bool) (o : Option Node) → cond a None (cond b None o) ≡ cond (b || (a || false)) None o
by_both true true o = refl
by_both true false o = refl
by_both false true o = refl
by_both false false o = refl

by_cases : (b : Bool) (o : Option Node) → cond (is_some o && b) None o ≡ cond (not b) o None
by_cases true None = refl
by_cases true (Some n) = refl
by_cases false None = refl
by_cases false (Some n) = refl

pub node_at-without_under : (tree : Content) (path q : List (List ℕ)) → node_at (without_under tree path) q ≡ cond (not (is_under q path)) (node_at tree q) None
node_at-without_under tree path q =
    lookup-filter-keys (same_path q) (λ p. not (is_under p path)) (not (is_under q path)) (λ k e. ap (λ s. not (is_under s path)) (sym (path_from_same q k e))) tree

-- what is left, by look-ups, where the nodes at a path and under it are taken away
pub left_at : (path : List (List ℕ)) (tree : Content) (q : List (List ℕ)) → cond (is_some (node_at tree q) && is_under q path) None (node_at tree q) ≡ node_at (without_under tree path) q
left_at path tree q = by_cases (is_under q path) (node_at tree q) ∙ sym (node_at-without_under tree path q)

-- a map with the same look-ups is the same
pub same_left : (path : List (List ℕ)) (tree new : Content) → IsStrictlySortedBy by_path (keys_of tree) → IsStrictlySortedBy by_path (keys_of new) → ((q : List (List ℕ)) → node_at new q ≡ node_at (without_under tree path) q) → new ≡ without_under tree path
same_left path tree new sorted ordered alike =
    same_in_order by_path by_path_total exact_paths new (without_under tree path) ordered
    (subst (λ (ks : List (List (List ℕ))). IsStrictlySortedBy by_path ks) (sym (keys_of-filter (λ p. not (is_under p path)) tree)) (IsStrictlySortedBy-filter by_path (λ p. not (is_under p path)) (keys_of tree) sorted))
    alike

-- one more of the paths is taken away
pub dropped_more : (old was new : Content) (paths : List (List (List ℕ))) (i : ℕ) (p q : List (List ℕ)) → i < length paths → p ≡ get_or paths i p → node_at was q ≡ cond (list_any (same_path q) (take i paths)) None (node_at old q)
    → node_at new q ≡ cond (same_path p q) None (node_at was q) → node_at new q ≡ cond (list_any (same_path q) (take (i + 1) paths)) None (node_at old q)
dropped_more old was new paths i p q within item before after =
    let turned : same_path q p ≡ same_path p q = (eq_by_cmp_equiv by_path_total).symm q p in
    let more : list_any (same_path q) (take (i + 1) paths) ≡ (list_any (same_path q) (take i paths) || (same_path p q || false)) =
    ap (list_any (same_path q)) (take_more paths i p within ∙ ap (λ (x : List (List ℕ)). take i paths ++ x ∷ []) (sym item)) ∙ list_any-append (same_path q) (take i paths) (p ∷ []) ∙ ap (λ b. list_any (same_path q) (take i paths) || (b || false)) turned in
    after ∙ ap (λ o. cond (same_path p q) None o) before ∙ by_both (same_path p q) (list_any (same_path q) (take i paths)) (node_at old q) ∙ sym (ap (λ b. cond b None (node_at old q)) more)
