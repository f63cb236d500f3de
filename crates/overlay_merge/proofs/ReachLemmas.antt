-- How deep what is seen reaches along a path: a node's parent is there, so none is below the first ancestor that is missing.
use Rattle.std.proofs.Common.{◌≡◌, ◌≤◌, ◌<◌, ◌+◌, ◌-◌, ◌==◌, ◌||◌, ◌⊎◌, ℕ, zero, suc, Bool, true, false, not, cond, List, [], ◌∷◌, Some, None, drop, get_or, length, take, refl, sym, ◌∙◌, ap, arith, ⊎_elim}
use Rattle.std.specs.Prelude.{codes, is_some, nat_eq, slice_get, slice_index_or}
use Rattle.std.proofs.lemmas.Option.{get_or_from_slice_get}
use Rattle.std.specs.Cmp.Lexicographic.{pointwise, same_text}
use Rattle.std.proofs.lemmas.Bool.{true≢false, false≢true, and_parts, cases_lt, cases_Bool}
use Rattle.std.proofs.lemmas.List.{take_more, length-take-le}
use Rattle.sp_base.specs.Paths.{is_path, is_under, parent_of}
use Rattle.sp_base.proofs.BoolLemmas.{and_false}
use Rattle.resource_tree.specs.Content.{Content, IsTree, kid, name_of, node_at}
use Rattle.resource_tree.specs.Seen.{Resource}
use Rattle.resource_tree.proofs.SamePaths.{kid_of_parent}
use Rattle.overlay_merge.specs.Roots.{is_merged_path, is_overlay, is_override}
use Rattle.overlay_merge.specs.Layers.{has_node, layers_of, overlay_layers, override_layers}
use Rattle.overlay_merge.specs.Hiding.{merged_from, shown_resources}
use Rattle.overlay_merge.specs.Merged.{has_resource}
use Rattle.overlay_merge.specs.Walk.{has_kid_node}
use Rattle.overlay_merge.specs.declared.layers.Layer.{Layer}
use Rattle.overlay_merge.proofs.DescentLemmas.{kid_of_some, merged_at_node, parent_there}
use Rattle.overlay_merge.proofs.KidLemmas.{any_step}
use Rattle.overlay_merge.proofs.LayerLemmas.{no_rest}
use Rattle.overlay_merge.proofs.MergedLemmas.{has_merged, has_unmerged}

-- a path is under its own prefixes alone
record Prefix (path q : List (List ℕ)) : Type 0 where
  same : take (length q) path ≡ q
  within : length q ≤ length path

prefix_of : (path q : List (List ℕ)) → is_under path q ≡ true → Prefix path q
prefix_of path [] h = record { same = refl; within = omega arith }
prefix_of [] (s ∷ q) h = absurd (false≢true h)
prefix_of (a ∷ path) (s ∷ q) h =
    let parts = and_parts (pointwise nat_eq s a) (is_under path q) h in
    let rest = prefix_of path q parts.1 in
    record {
      same = ap (λ (p : List (List ℕ)). a ∷ p) rest.same ∙ ap (λ (t : List ℕ). t ∷ q) (sym (same_text s a (sym parts.0)));
      within = omega (arith, rest.within);
    }

-- no node is at the longer prefixes
abbrev pub NoneFrom : Content → List (List ℕ) → ℕ → Type 0
NoneFrom tree path n = (k : ℕ) → n < k → k ≤ length path → node_at tree (take k path) ≡ None

node_reach : (tree : Content) (path : List (List ℕ)) (n : ℕ) → IsTree (node_at tree) → NoneFrom tree path n
    → (other : List (List ℕ)) → is_some (node_at tree other) ≡ true → is_under path (parent_of other) ≡ true → length other ≤ n + 1
node_reach tree path n good none other there under =
    ⊎_elim (λ large.
    let q = parent_of other in
    let prefix = prefix_of path q under in
    let size : length q ≡ length other - 1 = length-take-le (length other - 1) other (omega arith) in
    let some : 0 < length other = omega (arith, large) in
    let above : is_some (node_at tree q) ≡ true = good.parents q (name_of other) (ap (λ p. is_some (node_at tree p)) (kid_of_parent other some) ∙ there) in
    let deep : n < length q = omega (arith, large, size) in
    absurd (true≢false (sym above ∙ ap (λ p. is_some (node_at tree p)) (sym prefix.same) ∙ ap is_some (none (length q) deep prefix.within)))) (λ small. small) (cases_lt (n + 1) (length other))

-- each path whose parent is the path or an ancestor of it has at most one segment more
pub reach_one : (path other : List (List ℕ)) → is_under path (parent_of other) ≡ true → length other ≤ length path + 1
reach_one path other under =
    let prefix = prefix_of path (parent_of other) under in
    let size : length (parent_of other) ≡ length other - 1 = length-take-le (length other - 1) other (omega arith) in
    omega (arith, size, prefix.within)

-- ---- merged paths

under_take : (path : List (List ℕ)) (n : ℕ) (a b : List ℕ) → 2 ≤ n → is_under (take n path) (a ∷ b ∷ []) ≡ is_under path (a ∷ b ∷ [])
under_take path zero a b some = absurd (omega (arith, some))
under_take path (suc zero) a b some = absurd (omega (arith, some))
under_take [] (suc (suc n)) a b some = refl
under_take (x ∷ []) (suc (suc n)) a b some = refl
under_take (x ∷ y ∷ path) (suc (suc n)) a b some = refl

pub merged_take : (path : List (List ℕ)) (n : ℕ) → 2 ≤ n → is_merged_path (take n path) ≡ is_merged_path path
merged_take path n some =
    ap (λ t. t || is_override (take n path)) (under_take path n (codes "mnt") (codes "overlay") some)
    ∙ ap (λ t. is_overlay path || t) (under_take path n (codes "mnt") (codes "override") some)

pub no_layers : (tree : Content) (path rest : List (List ℕ)) → rest ≡ [] → (a b : Bool) → cond a (overlay_layers rest) (cond b (override_layers tree rest) []) ≡ []
no_layers tree path rest none true b = ap overlay_layers none
no_layers tree path rest none false true = ap (override_layers tree) none
no_layers tree path rest none false false = refl

none_shown : (tree : Content) (valid : Bool) → cond valid (shown_resources tree []) [] ≡ []
unfolding shown_resources
none_shown tree true = refl
none_shown tree false = refl

root_none : (tree : Content) (path : List (List ℕ)) → length path ≤ 2 → merged_from tree path ≡ []
unfolding merged_from layers_of
root_none tree path small =
    ap (λ l. cond (is_path path) (shown_resources tree l) []) (no_layers tree path (drop 2 path) (no_rest path small) (is_overlay path) (is_override path)) ∙ none_shown tree (is_path path)

-- a merged resource is no root, and its parent's path is merged too
merged_parent : (tree : Content) (other : List (List ℕ)) → is_merged_path other ≡ true → has_resource tree other ≡ true → is_merged_path (parent_of other) ≡ true
merged_parent tree other is there =
    ⊎_elim (λ (large : 2 < length other). merged_take other (length other - 1) (omega (arith, large)) ∙ is)
    (λ (small : length other ≤ 2).
    absurd (false≢true (sym (ap (λ (l : List Resource). not (length l == 0)) (root_none tree other small)) ∙ sym (has_merged tree other is) ∙ there))) (cases_lt 2 (length other))

pub short_plain : (q : List (List ℕ)) → length q ≤ 1 → is_merged_path q ≡ false
short_plain [] small = refl
short_plain (x ∷ []) small = ap (λ t. t || is_override (x ∷ [])) (and_false (pointwise nat_eq (codes "mnt") x)) ∙ and_false (pointwise nat_eq (codes "mnt") x)
short_plain (x ∷ y ∷ q) small = absurd (omega (arith, small))

-- what is known along a path that isn't merged is a node
pub reach_from : (tree : Content) (path : List (List ℕ)) (n : ℕ) → IsTree (node_at tree) → is_merged_path path ≡ false → NoneFrom tree path n
    → (other : List (List ℕ)) → has_resource tree other ≡ true → is_under path (parent_of other) ≡ true → length other ≤ n + 1
reach_from tree path n good plain none other there under =
    ⊎_elim (λ (is : is_merged_path other ≡ true).
    let q = parent_of other in
    let prefix = prefix_of path q under in
    let merged : is_merged_path q ≡ true = merged_parent tree other is there in
    ⊎_elim (λ (deep : 1 < length q). absurd (true≢false (sym merged ∙ sym (ap is_merged_path prefix.same) ∙ merged_take path (length q) deep ∙ plain)))
    (λ (small : length q ≤ 1). absurd (true≢false (sym merged ∙ short_plain q small))) (cases_lt 1 (length q)))
    (λ (is : is_merged_path other ≡ false). node_reach tree path n good none other (sym (has_unmerged tree other is) ∙ there) under) (cases_Bool (is_merged_path other))

-- ---- along a merged path

-- no layer of the first n segments is a node
abbrev pub NoLayerAt : Content → List (List ℕ) → ℕ → Type 0
NoLayerAt tree path n = has_node tree (layers_of tree (take n path)) ≡ false

none_longer : (tree : Content) (path : List (List ℕ)) (n : ℕ) → IsTree (node_at tree) → 2 < n → n < length path → NoLayerAt tree path n → NoLayerAt tree path (n + 1)
none_longer tree path n good deep within none =
    let longer : take (n + 1) path ≡ kid (take n path) (slice_index_or path n []) = take_more path n [] within in
    let size : length (take n path) ≡ n = length-take-le n path (omega (arith, within)) in
    ⊎_elim (λ (some : has_node tree (layers_of tree (take (n + 1) path)) ≡ true).
    absurd (true≢false (sym (parent_there tree (take n path) (slice_index_or path n []) good (omega (arith, deep, size)) (ap (λ p. has_node tree (layers_of tree p)) (sym longer) ∙ some)) ∙ none)))
    (λ e. e) (cases_Bool (has_node tree (layers_of tree (take (n + 1) path))))

none_after : (tree : Content) (path : List (List ℕ)) (n d : ℕ) → IsTree (node_at tree) → 2 < n → n + d ≤ length path → NoLayerAt tree path n → NoLayerAt tree path (n + d)
none_after tree path n zero good deep within none = let e : n + zero ≡ n = omega arith in ap (λ k. has_node tree (layers_of tree (take k path))) e ∙ none
none_after tree path n (suc d) good deep within none =
    let e : n + suc d ≡ (n + d) + 1 = omega arith in
    ap (λ k. has_node tree (layers_of tree (take k path))) e
    ∙ none_longer tree path (n + d) good (omega (arith, deep)) (omega (arith, within)) (none_after tree path n d good deep (omega (arith, within)) none)

-- what is known along a merged path is at a layer that is a node
pub reach_merged : (tree : Content) (path : List (List ℕ)) (n : ℕ) → IsTree (node_at tree) → is_merged_path path ≡ true → 2 < n → NoLayerAt tree path n
    → (other : List (List ℕ)) → has_resource tree other ≡ true → is_under path (parent_of other) ≡ true → length other ≤ n
reach_merged tree path n good is deep none other there under =
    ⊎_elim (λ (large : n < length other).
    let q = parent_of other in
    let prefix = prefix_of path q under in
    let size : length q ≡ length other - 1 = length-take-le (length other - 1) other (omega arith) in
    let some : 0 < length other = omega (arith, large) in
    let whole : kid q (name_of other) ≡ other = kid_of_parent other some in
    let above : is_merged_path q ≡ true = ap is_merged_path (sym prefix.same) ∙ merged_take path (length q) (omega (arith, large, size, deep)) ∙ is in
    let merged : is_merged_path other ≡ true = sym (merged_take other (length other - 1) (omega (arith, large, deep))) ∙ above in
    let here : has_node tree (layers_of tree q) ≡ true =
    parent_there tree q (name_of other) good (omega (arith, large, size, deep)) (ap (λ p. has_node tree (layers_of tree p)) whole ∙ merged_at_node tree other merged there) in
    let e : n + (length q - n) ≡ length q = omega (arith, large, size) in
    let missing : NoLayerAt tree path (n + (length q - n)) = none_after tree path n (length q - n) good deep (omega (arith, e, prefix.within)) none in
    absurd (true≢false (sym here ∙ ap (λ p. has_node tree (layers_of tree p)) (sym prefix.same) ∙ sym (ap (λ k. has_node tree (layers_of tree (take k path))) e) ∙ missing)))
    (λ small. small) (cases_lt n (length other))

-- as far as nodes are at layers: the whole path, or where one more segment leads to no layer with a node
abbrev pub IsReach : Content → List (List ℕ) → ℕ → Type 0
IsReach tree path n = (length path ≤ n) ⊎ NoLayerAt tree path (n + 1)

pub reach_at : (tree : Content) (path : List (List ℕ)) (n : ℕ) → IsTree (node_at tree) → is_merged_path path ≡ true → 2 ≤ n → IsReach tree path n
    → (other : List (List ℕ)) → has_resource tree other ≡ true → is_under path (parent_of other) ≡ true → length other ≤ n + 1
reach_at tree path n good is deep reach other there under =
    ⊎_elim (λ (all : length path ≤ n). let one = reach_one path other under in omega (arith, all, one))
    (λ (none : NoLayerAt tree path (n + 1)). reach_merged tree path (n + 1) good is (omega (arith, deep)) none other there under) reach

-- ---- a kid of no layer

-- below a path of which no layer has such a kid nothing is known
pub unknown_kid : (tree : Content) (path deepest : List (List ℕ)) (name : List ℕ) → IsTree (node_at tree) → is_merged_path path ≡ true → 2 < length deepest
    → length path ≡ length deepest + 1 → is_under path deepest ≡ true → Some name ≡ slice_get path (length path - 1)
    → has_kid_node tree name (layers_of tree deepest) ≡ false → has_resource tree path ≡ false
unknown_kid tree path deepest name good is deep size under last none =
    let prefix = prefix_of path deepest under in
    let parent : parent_of path ≡ deepest = let e : length path - 1 ≡ length deepest = omega (arith, size) in ap (λ n. take n path) e ∙ prefix.same in
    let named : name_of path ≡ name = get_or_from_slice_get path (length path - 1) name [] (sym last) in
    let whole : path ≡ kid deepest name = sym (kid_of_parent path (omega (arith, size))) ∙ ap (λ p. kid p (name_of path)) parent ∙ ap (kid deepest) named in
    ⊎_elim (λ (there : has_resource tree path ≡ true).
    let some = kid_of_some tree deepest name good deep (ap (λ p. has_node tree (layers_of tree p)) (sym whole) ∙ merged_at_node tree path is there) in
    absurd (true≢false (sym some ∙ none)))
    (λ e. e) (cases_Bool (has_resource tree path))

-- a kid of the first layers or of those after them
pub kid_step : (tree : Content) (name : List ℕ) (layers : List Layer) (i : ℕ) (layer : Layer) (here : Bool) → i < length layers → layer ≡ get_or layers i layer
    → here ≡ is_some (node_at tree (kid layer.path name))
    → has_kid_node tree name (drop i layers) ≡ (here || has_kid_node tree name (drop (i + 1) layers))
kid_step tree name layers i layer here within is here_is =
    any_step (λ (l : Layer). is_some (node_at tree (kid l.path name))) layers i layer within
    ∙ ap (λ t. t || has_kid_node tree name (drop (i + 1) layers)) (ap (λ (l : Layer). is_some (node_at tree (kid l.path name))) (sym is) ∙ sym here_is)
