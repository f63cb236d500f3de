-- Paths by their first segments.
use Rattle.std.proofs.Common.{◌≡◌, ◌+◌, ◌-◌, ◌<◌, ◌≤◌, ℕ, true, cond, List, [], ◌∷◌, drop, take, length, zero, suc, add-zero, refl, sym, ◌∙◌, ap, arith, ⊎_elim, Option, Some, None}
use Rattle.std.specs.Prelude.{is_some, slice_index_or}
use Rattle.std.specs.List.{list_all}
use Rattle.std.proofs.lemmas.Bool.{and_parts, and_from, false≢true, true≢false, leb-true, le-leb, cases_lt}
use Rattle.std.proofs.lemmas.List.{take_more, length-drop}
use Rattle.sp_base.specs.Paths.{is_path, path_or_none, seg_ok}
use Rattle.resource_tree.specs.Content.{Content, IsTree, kid, node_at}
use Rattle.resource_tree.specs.declared.nodes.Node.{Node}

-- ---- other first segments

pub path_from : (p : List (List ℕ)) → is_path p ≡ true → Some p ≡ path_or_none p
path_from p e = ap (λ t. cond t (Some p) None) (sym e)

all-drop : (n : ℕ) (path : List (List ℕ)) → list_all seg_ok path ≡ true → list_all seg_ok (drop n path) ≡ true
all-drop zero path all = all
all-drop (suc n) [] all = refl
all-drop (suc n) (seg ∷ path) all = all-drop n path (and_parts (seg_ok seg) (list_all seg_ok path) all).1

-- a path with one segment, or none, in place of its first two
pub is_path-below : (path : List (List ℕ)) (top : List ℕ) → seg_ok top ≡ true → is_path path ≡ true → is_path (top ∷ drop 2 path) ≡ true
is_path-below path top ok valid =
    let both = and_parts (list_all seg_ok path) _ valid in
    let deep = leb-true _ _ both.1 in
    let size = length-drop 2 path in
    let short : length (top ∷ drop 2 path) ≤ 64 = omega (arith, deep, size) in
    and_from _ _ (and_from _ _ ok (all-drop 2 path both.0)) (le-leb _ _ short)

-- ---- below a path without a node there is none

some_is : (o : Option Node) → (is_some o ≡ true → ⊥) → o ≡ None
some_is (Some node) never = absurd (never refl)
some_is None never = refl

all_of : (xs : List (List ℕ)) (k : ℕ) → length xs ≤ k → take k xs ≡ xs
all_of [] zero past = refl
all_of [] (suc k) past = refl
all_of (x ∷ xs) zero past = absurd (omega (arith, past))
all_of (x ∷ xs) (suc k) past = let less : length xs ≤ k = omega (arith, past) in ap (λ (r : List (List ℕ)). x ∷ r) (all_of xs k less)

none_next : (tree : Content) (path : List (List ℕ)) (n : ℕ) → IsTree (node_at tree) → node_at tree (take n path) ≡ None → node_at tree (take (n + 1) path) ≡ None
none_next tree path n good none =
    ⊎_elim (λ (within : n < length path).
    let longer : take (n + 1) path ≡ kid (take n path) (slice_index_or path n []) = take_more path n [] within in
    some_is (node_at tree (take (n + 1) path)) (λ there.
    true≢false (sym (good.parents (take n path) (slice_index_or path n []) (ap (λ p. is_some (node_at tree p)) (sym longer) ∙ there)) ∙ ap is_some none)))
    (λ (past : length path ≤ n).
    let more : length path ≤ n + 1 = omega (arith, past) in
    ap (node_at tree) (all_of path (n + 1) more ∙ sym (all_of path n past)) ∙ none) (cases_lt n (length path))

none_after : (tree : Content) (path : List (List ℕ)) (n d : ℕ) → IsTree (node_at tree) → node_at tree (take n path) ≡ None → node_at tree (take (n + d) path) ≡ None
none_after tree path n zero good none = ap (λ k. node_at tree (take k path)) (add-zero n) ∙ none
none_after tree path n (suc d) good none =
    let e : n + suc d ≡ (n + d) + 1 = omega arith in
    ap (λ k. node_at tree (take k path)) e ∙ none_next tree path (n + d) good (none_after tree path n d good none)

pub none_from : (tree : Content) (path : List (List ℕ)) (n : ℕ) → IsTree (node_at tree) → node_at tree (take n path) ≡ None
    → (m : ℕ) → n ≤ m → node_at tree (take m path) ≡ None
none_from tree path n good none m le =
    let e : m ≡ n + (m - n) = omega (arith, le) in
    ap (λ k. node_at tree (take k path)) e ∙ none_after tree path n (m - n) good none

pub no_path_at : (p : List (List ℕ)) → is_path p ≡ true → None ≡ path_or_none p → ⊥
no_path_at p valid none = false≢true (ap is_some (none ∙ sym (path_from p valid)))
