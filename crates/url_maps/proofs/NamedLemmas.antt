-- The kids with an alias: what they claim is what all kids claim, and two lists that have them alike name the same first ones.
use Rattle.std.proofs.Common.{◌≡◌, ◌<◌, ◌+◌, ◌-◌, ℕ, Bool, true, false, cond, List, [], ◌∷◌, ◌++◌, Option, Some, None, drop, take, length, get_or, refl, sym, ◌∙◌, ap, ⊎_elim, arith}
use Rattle.std.specs.Prelude.{◌||◌, ◌&&◌, ◌==◌, filter, find, not}
use Rattle.std.specs.List.{list_any}
use Rattle.std.specs.Option.{option_map_or}
use Rattle.std.proofs.lemmas.Bool.{and_parts, cases_Bool, false_from_ne_true, true≢false, false≢true}
use Rattle.std.proofs.lemmas.List.{drop_more, length-drop, take-append-drop, take_all, take_more}
use Rattle.std.proofs.lemmas.List.Elements.{filter-append}
use Rattle.sp_base.specs.Paths.{is_path, path_or_none}
use Rattle.sp_base.proofs.BoolLemmas.{and_false}
use Rattle.resource_tree.specs.declared.nodes.Node.{Node}
use Rattle.resource_tree.specs.Content.{Content, kid, node_at}
use Rattle.url_maps.specs.Claims.{claims_by, node_claims_alias, spells_alias}
use Rattle.url_maps.specs.Siblings.{AreSameFirst, AreSameLast, alias_words, is_aliased, is_aliased_kid, aliased_kids}
use Rattle.url_maps.proofs.AliasLemmas.{not_root}
use Rattle.url_maps.proofs.SiblingLemmas.{a_path, not_a_path}

pub words_claim : (q : List (List ℕ)) (t : List ℕ) (o : Option Node) → option_map_or (λ (node : Node). node_claims_alias q node t) o false ≡ (not (length q == 0) && list_any (spells_alias q t) (alias_words o))
unfolding node_claims_alias
words_claim q t None = sym (and_false (not (length q == 0)))
words_claim q t (Some node) = refl

some_word : (test : List ℕ → Bool) (words : List (List ℕ)) → list_any test words ≡ true → not (length words == 0) ≡ true
some_word test [] any = absurd (false≢true any)
some_word test (w ∷ words) any = ap not (not_root (w ∷ words) (omega arith))

-- a kid that claims a text has an alias
pub claimant_named : (tree : Content) (p : List (List ℕ)) (name t : List ℕ) → claims_by (node_at tree) (kid p name) t ≡ true → is_aliased_kid tree p name ≡ true
claimant_named tree p name t claims =
    let q = kid p name in
    let parts = and_parts (is_path q) (option_map_or (λ (node : Node). node_claims_alias q node t) (node_at tree q) false) claims in
    let words = and_parts (not (length q == 0)) (list_any (spells_alias q t) (alias_words (node_at tree q))) (sym (words_claim q t (node_at tree q)) ∙ parts.1) in
    ap (λ b. b && is_aliased (node_at tree q)) parts.0 ∙ some_word (spells_alias q t) (alias_words (node_at tree q)) words.1

-- ---- what is found among those that pass

find_passing : {X : Type 0} (test pass : X → Bool) → ((x : X) → test x ≡ true → pass x ≡ true) → (xs : List X) → find test xs ≡ find test (filter pass xs)
find_passing test pass all [] = refl
find_passing test pass all (x ∷ xs) =
    ⊎_elim
    (λ (is : pass x ≡ true).
    ap (λ o. cond (test x) (Some x) o) (find_passing test pass all xs) ∙ sym (ap (λ b. find test (cond b (x ∷ filter pass xs) (filter pass xs))) is))
    (λ (isnt : pass x ≡ false).
    let fails : test x ≡ false = false_from_ne_true (test x) (λ has. true≢false (sym (all x has) ∙ isnt)) in
    ap (λ b. cond b (Some x) (find test xs)) fails ∙ find_passing test pass all xs ∙ sym (ap (λ b. find test (cond b (x ∷ filter pass xs) (filter pass xs))) isnt))
    (cases_Bool (pass x))

-- the first kid that claims a text is the same in lists with the same named kids
pub first_in_named : (tree : Content) (p : List (List ℕ)) (t : List ℕ) (names others : List (List ℕ)) → aliased_kids tree p names ≡ aliased_kids tree p others
    → find (λ name. claims_by (node_at tree) (kid p name) t) names ≡ find (λ name. claims_by (node_at tree) (kid p name) t) others
first_in_named tree p t names others same =
    let test : List ℕ → Bool = λ name. claims_by (node_at tree) (kid p name) t in
    let all : (name : List ℕ) → test name ≡ true → is_aliased_kid tree p name ≡ true = λ name claims. claimant_named tree p name t claims in
    find_passing test (is_aliased_kid tree p) all names ∙ ap (find test) same ∙ sym (find_passing test (is_aliased_kid tree p) all others)

-- ---- what two lists have in common

none_passes : {X : Type 0} (pass : X → Bool) (xs : List X) → list_any pass xs ≡ false → filter pass xs ≡ []
none_passes pass [] none = refl
none_passes pass (x ∷ xs) none =
    elim (pass x) as (λ b. (b || list_any pass xs) ≡ false → cond b (x ∷ filter pass xs) (filter pass xs) ≡ []) [
      | true ↦ λ e. absurd (true≢false e)
      | false ↦ λ e. none_passes pass xs e
    ] none

cut_at : {X : Type 0} (pass : X → Bool) (n : ℕ) (xs : List X) → filter pass xs ≡ filter pass (take n xs) ++ filter pass (drop n xs)
cut_at pass n xs = ap (filter pass) (sym (take-append-drop n xs)) ∙ filter-append pass (take n xs) (drop n xs)

pub alike_after : (tree : Content) (p : List (List ℕ)) (n : ℕ) (names others : List (List ℕ)) → AreSameFirst n names others → aliased_kids tree p (drop n names) ≡ aliased_kids tree p (drop n others) → aliased_kids tree p names ≡ aliased_kids tree p others
alike_after tree p n names others first rest =
    let pass = is_aliased_kid tree p in
    cut_at pass n names ∙ ap (λ l. filter pass l ++ filter pass (drop n names)) first.same ∙ ap (λ l. filter pass (take n others) ++ l) rest ∙ sym (cut_at pass n others)

-- the named ones of a list of whose beginning none is named
last_alone : {X : Type 0} (pass : X → Bool) (n : ℕ) (xs : List X) → list_any pass (take n xs) ≡ false → filter pass xs ≡ filter pass (drop n xs)
last_alone pass n xs none = cut_at pass n xs ∙ ap (λ l. l ++ filter pass (drop n xs)) (none_passes pass (take n xs) none)

pub alike_before : (tree : Content) (p : List (List ℕ)) (n : ℕ) (names others : List (List ℕ)) → AreSameLast n names others → list_any (is_aliased_kid tree p) (take (length names - n) names) ≡ false
    → list_any (is_aliased_kid tree p) (take (length others - n) others) ≡ false → aliased_kids tree p names ≡ aliased_kids tree p others
alike_before tree p n names others last none no_other =
    let pass = is_aliased_kid tree p in
    last_alone pass (length names - n) names none ∙ ap (filter pass) last.same ∙ sym (last_alone pass (length others - n) others no_other)

-- ---- what the looks at two lists have passed

pub same_more : (xs ys : List (List ℕ)) (i : ℕ) (x y : List ℕ) → i < length xs → i < length ys → x ≡ get_or xs i x → y ≡ get_or ys i y → x ≡ y → take i xs ≡ take i ys → take (i + 1) xs ≡ take (i + 1) ys
same_more xs ys i x y within in_other here there same so_far =
    take_more xs i x within ∙ ap (λ l. l ++ get_or xs i x ∷ []) so_far ∙ ap (λ z. take i ys ++ z ∷ []) (sym here ∙ same ∙ there) ∙ sym (take_more ys i y in_other)

one_before : (xs : List (List ℕ)) (i : ℕ) (x : List ℕ) → i < length xs → x ≡ get_or xs (length xs - 1 - i) x → drop (length xs - (i + 1)) xs ≡ x ∷ drop (length xs - i) xs
one_before xs i x within here =
    let a : length xs - (i + 1) ≡ length xs - 1 - i = omega arith in
    let b : length xs - 1 - i + 1 ≡ length xs - i = omega (arith, within) in
    ap (λ n. drop n xs) a ∙ drop_more xs (length xs - 1 - i) x (omega (arith, within)) ∙ ap (λ z. z ∷ drop (length xs - 1 - i + 1) xs) (sym here) ∙ ap (λ n. x ∷ drop n xs) b

pub last_more : (xs ys : List (List ℕ)) (i : ℕ) (x y : List ℕ) → i < length xs → i < length ys → x ≡ get_or xs (length xs - 1 - i) x → y ≡ get_or ys (length ys - 1 - i) y → x ≡ y → drop (length xs - i) xs ≡ drop (length ys - i) ys
    → drop (length xs - (i + 1)) xs ≡ drop (length ys - (i + 1)) ys
last_more xs ys i x y within in_other here there same so_far =
    one_before xs i x within here ∙ ap (λ z. z ∷ drop (length xs - i) xs) same ∙ ap (λ l. y ∷ l) so_far ∙ sym (one_before ys i y in_other there)

pub named_is : (tree : Content) (p : List (List ℕ)) (name : List ℕ) (k : List (List ℕ)) → path_or_none (kid p name) ≡ Some k → is_aliased (node_at tree k) ≡ is_aliased_kid tree p name
named_is tree p name k some =
    let is = a_path (kid p name) k some in
    ap (λ r. is_aliased (node_at tree r)) (sym is.0) ∙ sym (ap (λ b. b && is_aliased (node_at tree (kid p name))) is.1)

pub unnamed : (tree : Content) (p : List (List ℕ)) (name : List ℕ) → path_or_none (kid p name) ≡ None → is_aliased_kid tree p name ≡ false
unnamed tree p name none = ap (λ b. b && is_aliased (node_at tree (kid p name))) (not_a_path (kid p name) none)

-- the rest of a list, cut where the list ends
pub rest_is : {X : Type 0} (n : ℕ) (xs : List X) → take (length xs - n) (drop n xs) ≡ drop n xs
rest_is n xs = take_all (length xs - n) (drop n xs) (omega (arith, length-drop n xs))
