-- What lies below a path in a good tree.
use Rattle.std.proofs.Common.{◌≡◌, ℕ, Bool, true, false, ⊎_elim, ◌||◌, List, [], ◌∷◌, ◌++◌, Some, is_some, length, take, get_or, ◌<◌, ◌+◌, refl, sym, ap, ◌∙◌, subst, append_assoc, append-nil}
use Rattle.std.specs.List.{list_any}
use Rattle.std.specs.Str.{bytes_eq}
use Rattle.std.specs.Cmp.Lexicographic.{same_text}
use Rattle.std.proofs.lemmas.Bool.{and_parts, cases_Bool, false≢true}
use Rattle.std.proofs.lemmas.List.{take_more}
use Rattle.std.proofs.lemmas.List.Folds.{list_any-append}
use Rattle.resource_tree.specs.declared.nodes.Node.{Node}
use Rattle.resource_tree.specs.Content.{Content, IsGood, node_at, same_path, kid}
use Rattle.resource_tree.proofs.PathLemmas.{path_from_same, same_path_self}
use Rattle.content_json.specs.Steps.{is_at_or_below, AreProps, AreBelow, AreBelowKids}
use Rattle.content_json.proofs.Under.{bytes_eq_itself}
use Rattle.content_json.proofs.KidLemmas.{or_split}

pub is_at_or_below_append : (path rest : List (List ℕ)) → is_at_or_below path (path ++ rest) ≡ true
is_at_or_below_append [] rest = refl
is_at_or_below_append (s ∷ path) rest = rw (bytes_eq_itself s, is_at_or_below_append path rest) refl

pub is_at_or_below_split : (path q : List (List ℕ)) → is_at_or_below path q ≡ true → (rest : List (List ℕ)) × (q ≡ path ++ rest)
is_at_or_below_split [] q h = (q, refl)
is_at_or_below_split (s ∷ path) [] h = absurd (false≢true h)
is_at_or_below_split (s ∷ path) (t ∷ q) h =
    let parts = and_parts (bytes_eq s t) (is_at_or_below path q) h in
    let more = is_at_or_below_split path q parts.1 in
    (more.0, ap (λ x. x ∷ q) (sym (same_text s t (sym parts.0))) ∙ ap (λ p. s ∷ p) more.1)

-- where a node is, one is at each path on its way
closed : (tree : Content) (rest path : List (List ℕ)) → IsGood tree → is_some (node_at tree (path ++ rest)) ≡ true → is_some (node_at tree path) ≡ true
closed tree [] path good h = subst (λ p. is_some (node_at tree p) ≡ true) (append-nil path) h
closed tree (s ∷ rest) path good h =
    good.shape.parents path s (closed tree rest (kid path s) good (subst (λ p. is_some (node_at tree p) ≡ true) (sym (append_assoc path (s ∷ []) rest)) h))

-- a node below another is at or below one of its kids
pub below_kid : (tree : Content) (path q : List (List ℕ)) (node : Node) → IsGood tree → node_at tree path ≡ Some node → is_at_or_below path q ≡ true → same_path path q ≡ false
    → is_some (node_at tree q) ≡ true → (name : List ℕ) × (list_any (bytes_eq name) node.kids ≡ true) × (is_at_or_below (kid path name) q ≡ true)
below_kid tree path q node good there under apart h = by (is_at_or_below_split path q under).0 (is_at_or_below_split path q under).1
  where
    by : (rest : List (List ℕ)) → q ≡ path ++ rest → (name : List ℕ) × (list_any (bytes_eq name) node.kids ≡ true) × (is_at_or_below (kid path name) q ≡ true)
    by [] e = absurd (false≢true (sym apart ∙ ap (same_path path) (e ∙ append-nil path) ∙ same_path_self path))
    by (s ∷ rest) e =
        let at : q ≡ kid path s ++ rest = e ∙ sym (append_assoc path (s ∷ []) rest) in
        let kid_at = closed tree rest (kid path s) good (subst (λ p. is_some (node_at tree p) ≡ true) at h) in
        (s, (good.shape.nodes path node there).kids s ∙ kid_at, ap (is_at_or_below (kid path s)) at ∙ is_at_or_below_append (kid path s) rest)

-- ---- what the writer learns

-- the properties of a node, and of all below its kids
pub all_below : (tree : Content) (path : List (List ℕ)) (node : Node) → IsGood tree → node_at tree path ≡ Some node → AreProps node.props → AreBelowKids tree path node.kids → AreBelow tree path
all_below tree path node good there here kids q n under at =
    ⊎_elim
    (λ e. subst (λ (m : Node). AreProps m.props) (same_node (sym there ∙ ap (node_at tree) (path_from_same path q e) ∙ at)) here)
    (λ e. let found = below_kid tree path q node good there under e (ap is_some at) in kids found.0 found.1 q n found.2 at)
    (cases_Bool (same_path path q))
  where
    same_node : Some node ≡ Some n → node ≡ n
    same_node e = cc

-- one more kid
pub kid_below : (tree : Content) (path items names : List (List ℕ)) (i : ℕ) (name : List ℕ) → items ≡ names → i < length items → name ≡ get_or items i name
    → AreBelowKids tree path (take i names) → AreBelow tree (kid path name) → AreBelowKids tree path (take (i + 1) names)
kid_below tree path items names i name same lt is done last k h =
    let more = ap (take (i + 1)) (sym same) ∙ take_more items i name lt ∙ ap (λ ns. take i ns ++ get_or items i name ∷ []) same ∙ ap (λ n. take i names ++ n ∷ []) (sym is) in
    let either = sym (list_any-append (bytes_eq k) (take i names) (name ∷ [])) ∙ ap (list_any (bytes_eq k)) (sym more) ∙ h in
    ⊎_elim
    (λ e. done k e)
    (λ e. subst (λ (n : List ℕ). AreBelow tree (kid path n)) (sym (same_text k name (sym (only (bytes_eq k name) (or_split (list_any (bytes_eq k) (take i names)) (bytes_eq k name || false) either e))))) last)
    (cases_Bool (list_any (bytes_eq k) (take i names)))
  where
    only : (a : Bool) → (a || false) ≡ true → a ≡ true
    only true e = refl
    only false e = e
