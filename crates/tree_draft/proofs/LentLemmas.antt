-- Names that are lent, and walks over them.
use Rattle.std.proofs.Common.{◌≡◌, ◌<◌, ◌+◌, ◌++◌, ◌∷◌, [], ℕ, Bool, true, false, not, cond, List, Bor, Some, None, Option, map, take, drop, get_or, length, sym, ◌∙◌, ap, subst, arith}
use Rattle.std.specs.Prelude.{IsTrue, nat_lt}
use Rattle.std.specs.List.{position, position_or_len}
use Rattle.std.specs.Option.{option_map_or}
use Rattle.std.proofs.Math.ListN.{get_or-map}
use Rattle.std.proofs.Math.Seq.{take-length, drop-length}
use Rattle.std.proofs.lemmas.Bool.Decides.{nat_tests}
use Rattle.std.proofs.lemmas.List.{drop_more, take-map, length-map}
use Rattle.sp_base.specs.Paths.{seg_ok}
use Rattle.resource_tree.specs.declared.nodes.Node.{Node}
use Rattle.resource_tree.specs.Content.{Content, IsTree, kid, node_at}
use Rattle.resource_tree.specs.Changes.{kids_at}
use Rattle.resource_tree.proofs.PartLemmas.{pushed}

-- the name at a place
pub lent_at : (lent : List (Bor (List ℕ))) (i : ℕ) (item : Bor (List ℕ)) → item ≡ get_or lent i item → item.now ≡ get_or (map (λ (w : Bor (List ℕ)). w.now) lent) i item.now
lent_at lent i item is = ap (λ (w : Bor (List ℕ)). w.now) is ∙ sym (get_or-map (λ (w : Bor (List ℕ)). w.now) lent i item)

-- ---- a loop that looks for the first name that passes

left_of : (lent : List (Bor (List ℕ))) (i : ℕ) (item : Bor (List ℕ)) → i < length lent → item ≡ get_or lent i item
    → drop i (map (λ (w : Bor (List ℕ)). w.now) lent) ≡ item.now ∷ drop (i + 1) (map (λ (w : Bor (List ℕ)). w.now) lent)
left_of lent i item within is =
    let names = map (λ (w : Bor (List ℕ)). w.now) lent in
    let below : i < length names = subst (λ n. i < n) (sym (length-map lent (λ (w : Bor (List ℕ)). w.now))) within in
    drop_more names i item.now below ∙ ap (λ n. n ∷ drop (i + 1) names) (sym (lent_at lent i item is))

-- after one that doesn't
pub not_here : (p : List ℕ → Bool) (lent : List (Bor (List ℕ))) (i : ℕ) (item : Bor (List ℕ)) → i < length lent → item ≡ get_or lent i item → p item.now ≡ false
    → i + position_or_len p (drop i (map (λ (w : Bor (List ℕ)). w.now) lent)) ≡ position_or_len p (map (λ (w : Bor (List ℕ)). w.now) lent)
    → (i + 1) + position_or_len p (drop (i + 1) (map (λ (w : Bor (List ℕ)). w.now) lent)) ≡ position_or_len p (map (λ (w : Bor (List ℕ)). w.now) lent)
not_here p lent i item within is differs so_far =
    let names = map (λ (w : Bor (List ℕ)). w.now) lent in
    let one : position_or_len p (drop i names) ≡ 1 + position_or_len p (drop (i + 1) names) =
    ap (position_or_len p) (left_of lent i item within is) ∙ ap (λ b. cond (not b) (1 + position_or_len p (drop (i + 1) names)) 0) differs in
    omega (arith, one, so_far)

-- at one that does
pub here : (p : List ℕ → Bool) (lent : List (Bor (List ℕ))) (i : ℕ) (item : Bor (List ℕ)) → i < length lent → item ≡ get_or lent i item → p item.now ≡ true
    → i + position_or_len p (drop i (map (λ (w : Bor (List ℕ)). w.now) lent)) ≡ position_or_len p (map (λ (w : Bor (List ℕ)). w.now) lent)
    → Some i ≡ position p (map (λ (w : Bor (List ℕ)). w.now) lent)
here p lent i item within is same so_far =
    let names = map (λ (w : Bor (List ℕ)). w.now) lent in
    let none : position_or_len p (drop i names) ≡ 0 =
    ap (position_or_len p) (left_of lent i item within is) ∙ ap (λ b. cond (not b) (1 + position_or_len p (drop (i + 1) names)) 0) same in
    let place : position_or_len p names ≡ i = omega (arith, none, so_far) in
    let size = length-map lent (λ (w : Bor (List ℕ)). w.now) in
    let below : nat_lt i (length names) ≡ true = grind (arith, nat_tests, size, within) in
    sym (ap (λ n. cond (nat_lt n (length names)) (Some n) None) place ∙ ap (λ b. cond b (Some i) None) below)

-- at the end
pub nowhere : (p : List ℕ → Bool) (lent : List (Bor (List ℕ))) (i : ℕ) → i ≡ length lent
    → i + position_or_len p (drop i (map (λ (w : Bor (List ℕ)). w.now) lent)) ≡ position_or_len p (map (λ (w : Bor (List ℕ)). w.now) lent)
    → None ≡ position p (map (λ (w : Bor (List ℕ)). w.now) lent)
nowhere p lent i at_end so_far =
    let names = map (λ (w : Bor (List ℕ)). w.now) lent in
    let size = length-map lent (λ (w : Bor (List ℕ)). w.now) in
    let none : position_or_len p (drop i names) ≡ 0 = ap (position_or_len p) (ap (λ n. drop n names) (at_end ∙ sym size) ∙ drop-length names) in
    let place : position_or_len p names ≡ length names = omega (arith, none, so_far, at_end, size) in
    let past : nat_lt (position_or_len p names) (length names) ≡ false = grind (arith, nat_tests, place) in
    sym (ap (λ b. cond b (Some (position_or_len p names)) None) past)

-- a node's kids by their lent names
pub kids_lent : (tree : Content) (path : List (List ℕ)) (node : Node) (names : List (List ℕ)) → node_at tree path ≡ Some node → names ≡ node.kids → names ≡ kids_at tree path
kids_lent tree path node names was are = are ∙ sym (ap (λ (o : Option Node). option_map_or (λ n. n.kids) o []) was)

-- a loop that adds the paths of kids by their lent names, after one more
pub pushed_lent : (tree : Content) → IsTree (node_at tree) → (path : List (List ℕ)) (lent : List (Bor (List ℕ))) (i : ℕ) (item : Bor (List ℕ)) (below : List (List ℕ)) (old now new : List (List (List ℕ)))
    → map (λ (w : Bor (List ℕ)). w.now) lent ≡ kids_at tree path → i < length lent → item ≡ get_or lent i item → (IsTrue (seg_ok item.now) → below ≡ kid path item.now)
    → now ≡ old ++ map (kid path) (map (λ (w : Bor (List ℕ)). w.now) (take i lent)) → new ≡ now ++ below ∷ [] → new ≡ old ++ map (kid path) (map (λ (w : Bor (List ℕ)). w.now) (take (i + 1) lent))
pushed_lent tree is_tree path lent i item below old now new are within item_is whole so_far is =
    let names = map (λ (w : Bor (List ℕ)). w.now) lent in
    let below_all : i < length names = subst (λ n. i < n) (sym (length-map lent (λ (w : Bor (List ℕ)). w.now))) within in
    pushed tree is_tree path names i item.now below old now new are below_all (lent_at lent i item item_is) whole (so_far ∙ ap (λ l. old ++ map (kid path) l) (sym (take-map (λ (w : Bor (List ℕ)). w.now) i lent))) is
    ∙ ap (λ l. old ++ map (kid path) l) (take-map (λ (w : Bor (List ℕ)). w.now) (i + 1) lent)

-- and at the end
pub all_pushed : (tree : Content) (path : List (List ℕ)) (lent : List (Bor (List ℕ))) (i : ℕ) (old now : List (List (List ℕ))) → map (λ (w : Bor (List ℕ)). w.now) lent ≡ kids_at tree path → i ≡ length lent
    → now ≡ old ++ map (kid path) (map (λ (w : Bor (List ℕ)). w.now) (take i lent)) → now ≡ old ++ map (kid path) (kids_at tree path)
all_pushed tree path lent i old now are at_end so_far =
    so_far ∙ ap (λ n. old ++ map (kid path) (map (λ (w : Bor (List ℕ)). w.now) (take n lent))) at_end ∙ ap (λ l. old ++ map (kid path) (map (λ (w : Bor (List ℕ)). w.now) l)) (take-length lent)
    ∙ ap (λ l. old ++ map (kid path) l) are
