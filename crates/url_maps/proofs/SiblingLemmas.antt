-- The first siblings with an alias: how they are put into rows, and the alias that a text is by them.
use Rattle.std.proofs.Common.{◌≡◌, ◌<◌, ◌+◌, ℕ, Bool, true, false, cond, List, [], ◌∷◌, ◌++◌, Option, Some, None, Ok, Err, take, length, get_or, refl, sym, ◌∙◌, ap, subst, ⊎_elim, arith}
use Rattle.std.specs.Prelude.{◌||◌, ◌&&◌, ◌==◌, codes, find, is_none, is_some, nat_eq, not, option_map, option_to_list, slice_get}
use Rattle.std.specs.Cmp.Lexicographic.{pointwise, same_text}
use Rattle.std.specs.List.{list_any}
use Rattle.std.specs.Map.{lookup}
use Rattle.std.specs.Option.{option_map_or, option_or}
use Rattle.std.specs.Str.{bytes_eq}
use Rattle.std.proofs.lemmas.Bool.{cases_Bool, true≢false, false≢true, false_from_ne_true, and_parts}
use Rattle.std.proofs.lemmas.List.{take_more}
use Rattle.std.proofs.lemmas.List.Folds.{list_any_more}
use Rattle.std.specs.Result.{result_ok}
use Rattle.sp_base.specs.Paths.{is_path, parent_of, path_of, path_or_none, seg_ok, text_of}
use Rattle.resource_tree.specs.declared.nodes.Node.{Node}
use Rattle.resource_tree.specs.Content.{Content, IsTree, kid, name_of, node_at, prop_at, same_path}
use Rattle.resource_tree.specs.Changes.{kids_at}
use Rattle.resource_tree.proofs.PathLemmas.{parent_of-kid, path_from_same, same_path_self}
use Rattle.resource_tree.proofs.SamePaths.{kid_of_parent}
use Rattle.url_maps.specs.Aliases.{has_alias}
use Rattle.url_maps.specs.Answers.{alias_at, alias_with, pair_inside, sibling_with_alias}
use Rattle.url_maps.specs.Changes.{LeadsOn}
use Rattle.url_maps.specs.Claims.{NamesFirst, ClaimRows, claimants, claims_alias, claims_by, first_claimant, kids_by, node_claims_alias, spells_alias}
use Rattle.url_maps.specs.Noting.{has_row}
use Rattle.url_maps.specs.Search.{IsOf, is_free, is_free_at}
use Rattle.url_maps.specs.Siblings.{PutsFamilies, PutsKids, PutsRows, or_else, path_if}
use Rattle.sp_base.specs.Properties.{value_texts}
use Rattle.sp_base.proofs.BoolLemmas.{and_false, or_assoc, or_false, or_first, or_second, or_true}
use Rattle.sp_base.proofs.TextLemmas.{bytes_eq_swapped}
use Rattle.url_maps.specs.declared.pairs.PairKind.TheVariants.{Alias}
use Rattle.url_maps.proofs.AliasLemmas.{claims_is, find_alike, find_any}
use Rattle.url_maps.proofs.AnswerLemmas.{alias_is}
use Rattle.url_maps.proofs.MappingLemmas.{IsSpelled}
use Rattle.url_maps.proofs.PathLemmas.{IsReadBack, path_from_text, valid_name, valid_sibling}

-- ---- lists

pub find_nothing : {X : Type 0} (xs : List X) → find (λ x. false) xs ≡ None
find_nothing [] = refl
find_nothing (x ∷ xs) = find_nothing xs

find_append : {X : Type 0} (test : X → Bool) (xs : List X) (y : X) → find test (xs ++ y ∷ []) ≡ option_or (find test xs) (cond (test y) (Some y) None)
find_append test [] y = refl
find_append test (x ∷ xs) y =
    elim (test x) as (λ b. cond b (Some x) (find test (xs ++ y ∷ [])) ≡ option_or (cond b (Some x) (find test xs)) (cond (test y) (Some y) None)) [
      | true ↦ refl
      | false ↦ find_append test xs y
    ]

-- what is found among the first, and one more
pub find_more : {X : Type 0} (test : X → Bool) (xs : List X) (i : ℕ) (x : X) → i < length xs → x ≡ get_or xs i x → find test (take (i + 1) xs) ≡ option_or (find test (take i xs)) (cond (test x) (Some x) None)
find_more test xs i x within item =
    ap (find test) (take_more xs i x within) ∙ find_append test (take i xs) (get_or xs i x)
    ∙ ap (λ y. option_or (find test (take i xs)) (cond (test y) (Some y) None)) (sym item)

pub or_else_none : (paths : List (List (List ℕ))) → or_else paths [] ≡ paths
or_else_none [] = refl
or_else_none (p ∷ paths) = refl

or_else_same : (paths : List (List (List ℕ))) → or_else paths paths ≡ paths
or_else_same [] = refl
or_else_same (p ∷ paths) = refl

or_else_twice : (old paths : List (List (List ℕ))) (a b : Bool) → or_else (or_else old (cond a paths [])) (cond b paths []) ≡ or_else old (cond (a || b) paths [])
or_else_twice (p ∷ old) paths a b = refl
or_else_twice [] paths true true = or_else_same paths
or_else_twice [] paths true false = or_else_none paths
or_else_twice [] paths false b = refl

-- a text that is given a row
pub had_row : {X : Type 0} (b : Bool) (row : X) (o : Option X) → is_some (cond b (Some row) (cond b None o)) ≡ (is_some o || b)
had_row true row o = sym (or_true (is_some o))
had_row false row o = sym (or_false (is_some o))

-- ---- rows that are put

-- one text
pub rows_one : (path : Option (List (List ℕ))) (text : List ℕ) (old new : ClaimRows)
    → ((t : List ℕ) → lookup (bytes_eq t) new ≡ cond (bytes_eq text t) (Some (or_else (claimants old text) (option_to_list path))) (lookup (bytes_eq t) old)) → PutsRows path (λ t. bytes_eq t text) old new
rows_one path text old new is = record {
  paths = λ t.
      let row = or_else (claimants old text) (option_to_list path) in
      ap (λ o. option_map_or (λ (paths : List (List (List ℕ))). paths) o []) (is t)
      ∙ ⊎_elim
      (λ (same : bytes_eq text t ≡ true).
      ap (λ b. option_map_or (λ (paths : List (List (List ℕ))). paths) (cond b (Some row) (lookup (bytes_eq t) old)) []) same
      ∙ ap (λ s. or_else (claimants old s) (option_to_list path)) (same_text text t (sym same))
      ∙ ap (λ b. or_else (claimants old t) (cond b (option_to_list path) [])) (sym (bytes_eq_swapped t text ∙ same)))
      (λ (other : bytes_eq text t ≡ false).
      ap (λ b. option_map_or (λ (paths : List (List (List ℕ))). paths) (cond b (Some row) (lookup (bytes_eq t) old)) []) other
      ∙ sym (or_else_none (claimants old t)) ∙ ap (λ b. or_else (claimants old t) (cond b (option_to_list path) [])) (sym (bytes_eq_swapped t text ∙ other)))
      (cases_Bool (bytes_eq text t));
  has = λ t.
      let row = or_else (claimants old text) (option_to_list path) in
      ap is_some (is t)
      ∙ ⊎_elim
      (λ (same : bytes_eq text t ≡ true). ap (λ b. is_some (cond b (Some row) (lookup (bytes_eq t) old))) same ∙ sym (ap (λ b. has_row old t || b) (bytes_eq_swapped t text ∙ same) ∙ or_true (has_row old t)))
      (λ (other : bytes_eq text t ≡ false). ap (λ b. is_some (cond b (Some row) (lookup (bytes_eq t) old))) other ∙ sym (ap (λ b. has_row old t || b) (bytes_eq_swapped t text ∙ other) ∙ or_false (has_row old t)))
      (cases_Bool (bytes_eq text t));
}

pub rows_none : (path : Option (List (List ℕ))) (texts : List ℕ → Bool) (rows : ClaimRows) → ((t : List ℕ) → texts t ≡ false) → PutsRows path texts rows rows
rows_none path texts rows none = record {
  paths = λ t. sym (ap (λ b. or_else (claimants rows t) (cond b (option_to_list path) [])) (none t) ∙ or_else_none (claimants rows t));
  has = λ t. sym (ap (λ b. has_row rows t || b) (none t) ∙ or_false (has_row rows t));
}

-- the first texts, and one more
pub rows_more : (path : Option (List (List ℕ))) (first old new : ClaimRows) (texts : List (List ℕ)) (i : ℕ) (text : List ℕ) → i < length texts → text ≡ get_or texts i text
    → PutsRows path (λ t. list_any (bytes_eq t) (take i texts)) first old → PutsRows path (λ t. bytes_eq t text) old new → PutsRows path (λ t. list_any (bytes_eq t) (take (i + 1) texts)) first new
rows_more path first old new texts i text within item so_far one = record {
  paths = λ t.
      let more : (list_any (bytes_eq t) (take i texts) || bytes_eq t text) ≡ list_any (bytes_eq t) (take (i + 1) texts) = ap (λ x. list_any (bytes_eq t) (take i texts) || bytes_eq t x) item ∙ sym (list_any_more (bytes_eq t) texts i text within) in
      one.paths t ∙ ap (λ x. or_else x (cond (bytes_eq t text) (option_to_list path) [])) (so_far.paths t)
      ∙ or_else_twice (claimants first t) (option_to_list path) (list_any (bytes_eq t) (take i texts)) (bytes_eq t text)
      ∙ ap (λ b. or_else (claimants first t) (cond b (option_to_list path) [])) more;
  has = λ t.
      let more : (list_any (bytes_eq t) (take i texts) || bytes_eq t text) ≡ list_any (bytes_eq t) (take (i + 1) texts) = ap (λ x. list_any (bytes_eq t) (take i texts) || bytes_eq t x) item ∙ sym (list_any_more (bytes_eq t) texts i text within) in
      one.has t ∙ ap (λ x. x || bytes_eq t text) (so_far.has t) ∙ or_assoc (has_row first t) (list_any (bytes_eq t) (take i texts)) (bytes_eq t text) ∙ ap (λ b. has_row first t || b) more;
}

pub rows_alike : (path other : Option (List (List ℕ))) (texts others : List ℕ → Bool) (old new : ClaimRows) → path ≡ other → ((t : List ℕ) → texts t ≡ others t) → PutsRows path texts old new → PutsRows other others old new
rows_alike path other texts others old new same alike is = record {
  paths = λ t. is.paths t ∙ ap (λ b. or_else (claimants old t) (cond b (option_to_list path) [])) (alike t) ∙ ap (λ p. or_else (claimants old t) (cond (others t) (option_to_list p) [])) same;
  has = λ t. is.has t ∙ ap (λ b. has_row old t || b) (alike t);
}

-- ---- the kids of a node

-- what isn't a path is no node's
pub not_a_path : (q : List (List ℕ)) → path_or_none q ≡ None → is_path q ≡ false
not_a_path q none =
    false_from_ne_true (is_path q) (λ valid. let e : Some q ≡ None = sym (ap (λ b. cond b (Some q) None) valid) ∙ none in cc)

pub a_path : (q path : List (List ℕ)) → path_or_none q ≡ Some path → (q ≡ path) × (is_path q ≡ true)
a_path q path some =
    ⊎_elim
    (λ (valid : is_path q ≡ true). let e : Some q ≡ Some path = sym (ap (λ b. cond b (Some q) None) valid) ∙ some in let same : q ≡ path = cc in (same, valid))
    (λ (fails : is_path q ≡ false). let e : None ≡ Some path = sym (ap (λ b. cond b (Some q) None) fails) ∙ some in cc)
    (cases_Bool (is_path q))

pub unclaimed : (at : List (List ℕ) → Option Node) (q : List (List ℕ)) (t : List ℕ) → path_or_none q ≡ None → claims_by at q t ≡ false
unclaimed at q t none = ap (λ b. b && option_map_or (λ (node : Node). node_claims_alias q node t) (at q) false) (not_a_path q none)

-- what the node of a path claims
pub claims_here : (at : List (List ℕ) → Option Node) (q path : List (List ℕ)) (found : Option Node) (texts : List (List ℕ)) → path_or_none q ≡ Some path → found ≡ at path
    → ((t : List ℕ) → list_any (bytes_eq t) texts ≡ option_map_or (λ (node : Node). node_claims_alias path node t) found false) → (t : List ℕ) → list_any (bytes_eq t) texts ≡ claims_by at q t
claims_here at q path found texts some is claims t =
    let same = a_path q path some in
    claims t ∙ ap (λ o. option_map_or (λ (node : Node). node_claims_alias path node t) o false) is
    ∙ ap (λ p. option_map_or (λ (node : Node). node_claims_alias p node t) (at p) false) (sym same.0)
    ∙ sym (ap (λ b. b && option_map_or (λ (node : Node). node_claims_alias q node t) (at q) false) same.1)

-- the first of some kids that claims a text
abbrev pub first_among : (List (List ℕ) → Option Node) → List (List ℕ) → List (List ℕ) → List ℕ → Option (List (List ℕ))
first_among at parent names text = option_map (kid parent) (find (λ name. claims_by at (kid parent name) text) names)

-- so far as these kids
pub record PutsSome (at : List (List ℕ) → Option Node) (names : Bool) (parent : List (List ℕ)) (done : List (List ℕ)) (old new : ClaimRows) : Type 0 where
  pub paths : (t : List ℕ) → claimants new t ≡ or_else (claimants old t) (cond names (option_to_list (first_among at parent done t)) [])
  pub has : (t : List ℕ) → has_row new t ≡ (has_row old t || is_some (first_among at parent done t))

either_none : (names : Bool) (old : List (List (List ℕ))) → old ≡ or_else old (cond names [] [])
either_none true old = sym (or_else_none old)
either_none false old = sym (or_else_none old)

pub puts_none : (at : List (List ℕ) → Option Node) (names : Bool) (parent : List (List ℕ)) (rows : ClaimRows) → PutsSome at names parent [] rows rows
puts_none at names parent rows = record { paths = λ t. either_none names (claimants rows t); has = λ t. sym (or_false (has_row rows t)) }

put_next : (old : List (List (List ℕ))) (names b : Bool) (found : Option (List ℕ)) (parent : List (List ℕ)) (name : List ℕ)
    → or_else (or_else old (cond names (option_to_list (option_map (kid parent) found)) [])) (cond b (option_to_list (path_if names (kid parent name))) [])
    ≡ or_else old (cond names (option_to_list (option_map (kid parent) (option_or found (cond b (Some name) None)))) [])
put_next (p ∷ old) names b found parent name = refl
put_next [] true b (Some x) parent name = refl
put_next [] true true None parent name = refl
put_next [] true false None parent name = refl
put_next [] false true found parent name = refl
put_next [] false false found parent name = refl

has_next : (had b : Bool) (found : Option (List ℕ)) (parent : List (List ℕ)) (name : List ℕ)
    → ((had || is_some (option_map (kid parent) found)) || b) ≡ (had || is_some (option_map (kid parent) (option_or found (cond b (Some name) None))))
has_next true b found parent name = refl
has_next false b (Some x) parent name = refl
has_next false true None parent name = refl
has_next false false None parent name = refl

pub puts_more : (at : List (List ℕ) → Option Node) (names : Bool) (parent : List (List ℕ)) (kids : List (List ℕ)) (i : ℕ) (name : List ℕ) (first old new : ClaimRows) → i < length kids → name ≡ get_or kids i name
    → PutsSome at names parent (take i kids) first old → PutsRows (path_if names (kid parent name)) (claims_by at (kid parent name)) old new → PutsSome at names parent (take (i + 1) kids) first new
puts_more at names parent kids i name first old new within item so_far one = record {
  paths = λ t.
      let test : List ℕ → Bool = λ n. claims_by at (kid parent n) t in
      one.paths t ∙ ap (λ x. or_else x (cond (test name) (option_to_list (path_if names (kid parent name))) [])) (so_far.paths t)
      ∙ put_next (claimants first t) names (test name) (find test (take i kids)) parent name
      ∙ ap (λ o. or_else (claimants first t) (cond names (option_to_list (option_map (kid parent) o)) [])) (sym (find_more test kids i name within item));
  has = λ t.
      let test : List ℕ → Bool = λ n. claims_by at (kid parent n) t in
      one.has t ∙ ap (λ x. x || test name) (so_far.has t) ∙ has_next (has_row first t) (test name) (find test (take i kids)) parent name
      ∙ ap (λ o. has_row first t || is_some (option_map (kid parent) o)) (sym (find_more test kids i name within item));
}

pub puts_all : (at : List (List ℕ) → Option Node) (names : Bool) (parent : List (List ℕ)) (done : List (List ℕ)) (old new : ClaimRows) → done ≡ kids_by at parent → PutsSome at names parent done old new → PutsKids at names parent old new
puts_all at names parent done old new are is =
    let whole = subst (λ (ks : List (List ℕ)). PutsSome at names parent ks old new) are is in
    record { paths = whole.paths; has = whole.has }

-- ---- the kids of some nodes

-- what a text spells that a node claims as its alias
record Spelled (q : List (List ℕ)) (text : List ℕ) : Type 0 where
  pub alias : List ℕ
  pub segment : seg_ok alias ≡ true
  pub text_is : text ≡ text_of (kid (parent_of q) alias)

spelled_by : (q : List (List ℕ)) (node : Node) (text : List ℕ) → node_claims_alias q node text ≡ true → Spelled q text
unfolding node_claims_alias
spelled_by q node text claims =
    let words = value_texts (prop_at node (codes "sling:alias")) in
    let parts = and_parts (not (length q == 0)) (list_any (spells_alias q text) words) claims in
    let found = find_any (spells_alias q text) words parts.1 in
    let both = and_parts (seg_ok found.item) (pointwise nat_eq text (text_of (kid (parent_of q) found.item))) found.passes in
    record { alias = found.item; segment = both.0; text_is = same_text text (text_of (kid (parent_of q) found.item)) (sym both.1) }

claims_spelled : (o : Option Node) (q : List (List ℕ)) (text : List ℕ) → option_map_or (λ (node : Node). node_claims_alias q node text) o false ≡ true → Spelled q text
claims_spelled None q text claims = absurd (false≢true claims)
claims_spelled (Some node) q text claims = spelled_by q node text claims

-- a text is claimed by siblings of the path that it spells alone
no_other_claims : IsReadBack → (at : List (List ℕ) → Option Node) (p q : List (List ℕ)) (name : List ℕ) → is_path q ≡ true → same_path (parent_of q) p ≡ false → claims_by at (kid p name) (text_of q) ≡ false
no_other_claims read at p q name valid other =
    false_from_ne_true (claims_by at (kid p name) (text_of q)) (λ claims.
    let parts = and_parts (is_path (kid p name)) (option_map_or (λ (node : Node). node_claims_alias (kid p name) node (text_of q)) (at (kid p name)) false) claims in
    let s = claims_spelled (at (kid p name)) (kid p name) (text_of q) parts.1 in
    let spelled : text_of q ≡ text_of (kid p s.alias) = s.text_is ∙ ap (λ r. text_of (kid r s.alias)) (parent_of-kid p name) in
    let one : q ≡ kid p s.alias = path_from_text read q (kid p s.alias) valid (valid_sibling p name s.alias parts.0 s.segment) spelled in
    let parents : parent_of q ≡ p = ap parent_of one ∙ parent_of-kid p s.alias in
    true≢false (sym (same_path_self p) ∙ ap (λ r. same_path r p) (sym parents) ∙ other))

no_other_first : IsReadBack → (at : List (List ℕ) → Option Node) (p q : List (List ℕ)) → is_path q ≡ true → same_path (parent_of q) p ≡ false → first_claimant at p (text_of q) ≡ None
no_other_first read at p q valid other =
    ap (option_map (kid p)) (find_alike (λ name. claims_by at (kid p name) (text_of q)) (λ name. false) (λ name. no_other_claims read at p q name valid other) (kids_by at p) ∙ find_nothing (kids_by at p))

-- one family's part in the text of a path
one_part : (names same : Bool) (here there : Option (List (List ℕ))) → (same ≡ true → there ≡ here) → (same ≡ false → there ≡ None) → cond names (option_to_list there) [] ≡ cond (names && same) (option_to_list here) []
one_part true true here there is none = ap option_to_list (is refl)
one_part true false here there is none = ap option_to_list (none refl)
one_part false same here there is none = refl

one_has : (same : Bool) (here there : Option (List (List ℕ))) → (same ≡ true → there ≡ here) → (same ≡ false → there ≡ None) → is_some there ≡ (same && is_some here)
one_has true here there is none = ap is_some (is refl)
one_has false here there is none = ap is_some (none refl)

both_parts : (names a b : Bool) → ((names && a) || (names && b)) ≡ (names && (a || b))
both_parts true a b = refl
both_parts false a b = refl

both_has : (had a b s : Bool) → ((had || (a && s)) || (b && s)) ≡ (had || ((a || b) && s))
both_has true a b s = refl
both_has false true true true = refl
both_has false true true false = refl
both_has false true false true = refl
both_has false true false false = refl
both_has false false b s = refl

pub families_none : (at : List (List ℕ) → Option Node) (names : Bool) (rows : ClaimRows) → PutsFamilies at names [] rows rows
families_none at names rows = record {
  paths = λ q valid some. sym (ap (λ b. or_else (claimants rows (text_of q)) (cond b (option_to_list (first_claimant at (parent_of q) (text_of q))) [])) (and_false names) ∙ or_else_none (claimants rows (text_of q)));
  has = λ q valid some. sym (or_false (has_row rows (text_of q)));
}

pub families_more : IsReadBack → (at : List (List ℕ) → Option Node) (names : Bool) (parents : List (List (List ℕ))) (i : ℕ) (p : List (List ℕ)) (first old new : ClaimRows) → i < length parents → p ≡ get_or parents i p
    → PutsFamilies at names (take i parents) first old → PutsKids at names p old new → PutsFamilies at names (take (i + 1) parents) first new
families_more read at names parents i p first old new within item so_far one = record {
  paths = λ q valid some.
      let t = text_of q in
      let here = first_claimant at (parent_of q) t in
      let among = list_any (same_path (parent_of q)) (take i parents) in
      let same = same_path (parent_of q) p in
      let more : (among || same) ≡ list_any (same_path (parent_of q)) (take (i + 1) parents) = ap (λ x. among || same_path (parent_of q) x) item ∙ sym (list_any_more (same_path (parent_of q)) parents i p within) in
      one.paths t
      ∙ ap (or_else (claimants old t)) (one_part names same here (first_claimant at p t) (λ is. ap (λ r. first_claimant at r t) (sym (path_from_same (parent_of q) p is))) (λ other. no_other_first read at p q valid other))
      ∙ ap (λ x. or_else x (cond (names && same) (option_to_list here) [])) (so_far.paths q valid some)
      ∙ or_else_twice (claimants first t) (option_to_list here) (names && among) (names && same)
      ∙ ap (λ b. or_else (claimants first t) (cond b (option_to_list here) [])) (both_parts names among same ∙ ap (λ b. names && b) more);
  has = λ q valid some.
      let t = text_of q in
      let here = first_claimant at (parent_of q) t in
      let among = list_any (same_path (parent_of q)) (take i parents) in
      let same = same_path (parent_of q) p in
      let more : (among || same) ≡ list_any (same_path (parent_of q)) (take (i + 1) parents) = ap (λ x. among || same_path (parent_of q) x) item ∙ sym (list_any_more (same_path (parent_of q)) parents i p within) in
      one.has t
      ∙ ap (λ b. has_row old t || b) (one_has same here (first_claimant at p t) (λ is. ap (λ r. first_claimant at r t) (sym (path_from_same (parent_of q) p is))) (λ other. no_other_first read at p q valid other))
      ∙ ap (λ x. x || (same && is_some here)) (so_far.has q valid some)
      ∙ both_has (has_row first t) among same (is_some here)
      ∙ ap (λ b. has_row first t || (b && is_some here)) more;
}

-- ---- a change of the first siblings

no_first : (o : Option (List (List ℕ))) → is_some o ≡ false → option_to_list o ≡ []
no_first None e = refl
no_first (Some p) e = absurd (true≢false e)

settle : (among : Bool) (row : Option (List (List (List ℕ)))) (before after : Option (List (List ℕ))) → (among ≡ false → before ≡ after)
    → option_map_or (λ paths. paths) row [] ≡ cond among (option_to_list after) [] → is_some row ≡ ((among && is_some before) || (among && is_some after))
    → option_map_or (λ paths. paths) row (option_to_list before) ≡ option_to_list after
settle true None before after same paths has = no_first before (or_first (is_some before) (is_some after) (sym has)) ∙ sym (no_first after (or_second (is_some before) (is_some after) (sym has)))
settle true (Some row) before after same paths has = paths
settle false None before after same paths has = ap option_to_list (same refl)
settle false (Some row) before after same paths has = absurd (true≢false has)

-- rows for the families before a patch, and then for those after it
pub leads_on : (before after : List (List ℕ) → Option Node) (parents : List (List (List ℕ))) (mid new : ClaimRows) → ((parent : List (List ℕ)) (t : List ℕ) → list_any (same_path parent) parents ≡ false → first_claimant before parent t ≡ first_claimant after parent t)
    → PutsFamilies before false parents [] mid → PutsFamilies after true parents mid new → LeadsOn before after new
leads_on before after parents mid new others first last q valid some =
    let t = text_of q in
    let among = list_any (same_path (parent_of q)) parents in
    settle among (lookup (bytes_eq t) new) (first_claimant before (parent_of q) t) (first_claimant after (parent_of q) t) (others (parent_of q) t)
    (last.paths q valid some ∙ ap (λ x. or_else x (cond among (option_to_list (first_claimant after (parent_of q) t)) [])) (first.paths q valid some))
    (last.has q valid some ∙ ap (λ b. b || (among && is_some (first_claimant after (parent_of q) t))) (first.has q valid some))

-- the rows of an index with a change over them
pub names_over : (before after : List (List ℕ) → Option Node) (changed old new : ClaimRows) → NamesFirst before old → LeadsOn before after changed
    → ((t : List ℕ) → claimants new t ≡ option_map_or (λ paths. paths) (lookup (bytes_eq t) changed) (claimants old t)) → NamesFirst after new
names_over before after changed old new is change over q valid some =
    over (text_of q) ∙ ap (option_map_or (λ paths. paths) (lookup (bytes_eq (text_of q)) changed)) (is q valid some) ∙ change q valid some

pub names_by : (at other : List (List ℕ) → Option Node) (rows : ClaimRows) → ((q : List (List ℕ)) → at q ≡ other q) → NamesFirst at rows → NamesFirst other rows
names_by at other rows same is q valid some = is q valid some ∙ (λ i. option_to_list (first_claimant (λ p. same p i) (parent_of q) (text_of q)))

-- ---- the alias that a text is

module _ (read : IsReadBack) (tree : Content) (good : IsTree (node_at tree)) where
  pub claims_by_is : (q : List (List ℕ)) (t : List ℕ) → claims_by (node_at tree) q t ≡ claims_alias tree q t
  unfolding claims_alias
  claims_by_is q t =
      elim (node_at tree q) as (λ o. node_at tree q ≡ o → (is_path q && option_map_or (λ (node : Node). node_claims_alias q node t) o false) ≡ option_map_or (λ (node : Node). node_claims_alias q node t) o false) [
        | None ↦ λ is. and_false (is_path q)
        | Some node ↦ λ is. ap (λ b. b && node_claims_alias q node t) (good.nodes q node is).is_a_path
      ] refl

  pub first_sibling_is : (q : List (List ℕ)) → is_path q ≡ true → 0 < length q → first_claimant (node_at tree) (parent_of q) (text_of q) ≡ sibling_with_alias tree q
  first_sibling_is q valid some =
      let p = parent_of q in
      let whole = kid_of_parent q some in
      let segment = valid_name p (name_of q) (ap is_path whole ∙ valid) in
      ap (option_map (kid p))
      (find_alike (λ name. claims_by (node_at tree) (kid p name) (text_of q)) (λ sibling. has_alias tree (kid p sibling) (name_of q))
      (λ name. claims_by_is (kid p name) (text_of q) ∙ ap (λ r. claims_alias tree (kid p name) (text_of r)) (sym whole) ∙ claims_is read tree good p name (name_of q) segment)
      (kids_at tree p))

  none_here : (o : Option Node) → is_none o ≡ true → o ≡ None
  none_here None e = refl
  none_here (Some node) e = absurd (false≢true e)

  not_the_root : (q : List (List ℕ)) → is_none (node_at tree q) ≡ true → 0 < length q
  not_the_root [] none = absurd (true≢false (sym good.root ∙ ap is_some (none_here (node_at tree []) none)))
  not_the_root (s ∷ q) none = omega arith

  head_is : (o : Option (List (List ℕ))) → slice_get (option_to_list o) 0 ≡ o
  head_is None = refl
  head_is (Some p) = refl

  -- the alias of a text, by the rows of an index
  pub alias_with_is : ((text : List ℕ) (path : List (List ℕ)) → path_of text ≡ Ok path → text_of path ≡ text) → ((text : List ℕ) (path : List (List ℕ)) → path_of text ≡ Ok path → is_path path ≡ true)
      → (rows : ClaimRows) (text : List ℕ) → NamesFirst (node_at tree) rows → alias_with tree text ≡ cond (is_free tree text) (option_map (pair_inside Alias) (slice_get (claimants rows text) 0)) None
  alias_with_is spelled valid rows text names =
      elim (path_of text) as (λ r. path_of text ≡ r → alias_at tree r ≡ cond (is_free_at tree (result_ok r)) (option_map (pair_inside Alias) (slice_get (claimants rows text) 0)) None) [
        | Err e ↦ λ is. refl
        | Ok path ↦ λ is.
            ⊎_elim
            (λ (free : is_none (node_at tree path) ≡ true).
            let some = not_the_root path free in
            let a_path = valid text path is in
            let first : sibling_with_alias tree path ≡ slice_get (claimants rows text) 0 =
            sym (first_sibling_is path a_path some) ∙ sym (ap (λ l. slice_get l 0) (ap (claimants rows) (sym (spelled text path is)) ∙ names path a_path some) ∙ head_is (first_claimant (node_at tree) (parent_of path) (text_of path))) in
            ap (λ o. cond (is_none (node_at tree path)) (option_map (pair_inside Alias) o) None) first)
            (λ (taken : is_none (node_at tree path) ≡ false).
            ap (λ b. cond b (option_map (pair_inside Alias) (sibling_with_alias tree path)) None) taken
            ∙ sym (ap (λ b. cond b (option_map (pair_inside Alias) (slice_get (claimants rows text) 0)) None) taken))
            (cases_Bool (is_none (node_at tree path)))
      ] refl

  nowhere : (b : Bool) → cond b (option_map (pair_inside Alias) None) None ≡ None
  nowhere true = refl
  nowhere false = refl

  module _ (spelled : IsSpelled) (valid : (text : List ℕ) (path : List (List ℕ)) → path_of text ≡ Ok path → is_path path ≡ true) (rows : ClaimRows) (text : List ℕ) (names : NamesFirst (node_at tree) rows) where
    by_rows : IsOf Alias tree None text (cond (is_free tree text) (option_map (pair_inside Alias) (slice_get (claimants rows text) 0)) None)
    by_rows = subst (IsOf Alias tree None text) (alias_with_is spelled valid rows text names) (alias_is read spelled valid tree good text)

    -- no path in the text's row, ..
    pub no_alias_in_row : slice_get (claimants rows text) 0 ≡ None → IsOf Alias tree None text None
    no_alias_in_row none = subst (IsOf Alias tree None text) (ap (λ o. cond (is_free tree text) (option_map (pair_inside Alias) o) None) none ∙ nowhere (is_free tree text)) by_rows

    -- .. or a node at the path that the text spells
    pub no_alias_at_node : is_free tree text ≡ false → IsOf Alias tree None text None
    no_alias_at_node taken = subst (IsOf Alias tree None text) (ap (λ b. cond b (option_map (pair_inside Alias) (slice_get (claimants rows text) 0)) None) taken) by_rows

    pub alias_in_row : (path : List (List ℕ)) → is_free tree text ≡ true → slice_get (claimants rows text) 0 ≡ Some path → IsOf Alias tree None text (Some (pair_inside Alias path))
    alias_in_row path free first =
        subst (IsOf Alias tree None text)
        (ap (λ b. cond b (option_map (pair_inside Alias) (slice_get (claimants rows text) 0)) None) free ∙ ap (option_map (pair_inside Alias)) first) by_rows
