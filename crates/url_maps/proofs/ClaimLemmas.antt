-- Who claims a text after one more claim, and after a node's.
use Rattle.std.proofs.Common.{◌≡◌, ◌<◌, ◌≤◌, ◌+◌, ℕ, Bool, true, false, cond, List, [], ◌∷◌, ◌++◌, Option, Some, None, map, take, length, get_or, refl, sym, ◌∙◌, ap, subst, arith, ⊎_elim}
use Rattle.std.specs.Prelude.{◌||◌, ◌&&◌, ◌==◌, not, codes, is_some}
use Rattle.std.specs.List.{list_any}
use Rattle.std.specs.Map.{keys_of, lookup}
use Rattle.std.specs.Option.{option_map_or}
use Rattle.std.proofs.lemmas.Bool.{and_parts, cases_Bool}
use Rattle.std.specs.Cmp.Lexicographic.{same_text}
use Rattle.std.proofs.lemmas.Bool.Decides.{nat_tests}
use Rattle.std.proofs.lemmas.List.{get_or-map, length-map, take_all}
use Rattle.std.proofs.lemmas.List.Folds.{list_any-append, list_any_more}
use Rattle.resource_tree.specs.declared.nodes.Node.{Node}
use Rattle.std.specs.Str.{bytes_eq}
use Rattle.resource_tree.specs.Content.{Content, node_at, same_path}
use Rattle.resource_tree.specs.Content.{prop_at}
use Rattle.resource_tree.specs.Rows.{AreRowsOf}
use Rattle.resource_tree.proofs.PathLemmas.{path_from_same}
use Rattle.url_maps.specs.Claims.{AddsClaims, AreClaims, ClaimsAreWithin, ClaimRows, claimants, claims_alias, claims_vanity_path, node_claims_alias, node_claims_vanity_path, spells_alias, spells_vanity_path}
use Rattle.sp_base.specs.Properties.{value_texts}
use Rattle.sp_base.proofs.BoolLemmas.{and_false, and_true, or_false}
use Rattle.sp_base.proofs.TextLemmas.{bytes_eq_swapped}

-- a look-up through other names of the keys
pub lookup_shown : {K B X : Type 0} (f : K → B) (test : B → Bool) (es : List (K × X)) → lookup test (map (λ (e : K × X). (f e.0, e.1)) es) ≡ lookup (λ k. test (f k)) es
lookup_shown f test [] = refl
lookup_shown f test ((k, v) ∷ es) = ap (λ r. cond (test (f k)) (Some v) r) (lookup_shown f test es)

-- one more claimant, of the texts of a test
pub one_more : (q path : List (List ℕ)) (old new : List (List (List ℕ))) (b : Bool) → new ≡ cond b (old ++ path ∷ []) old → list_any (same_path q) new ≡ (list_any (same_path q) old || (same_path q path && b))
one_more q path old new true is =
    ap (list_any (same_path q)) is ∙ list_any-append (same_path q) old (path ∷ [])
    ∙ ap (λ x. list_any (same_path q) old || x) (or_false (same_path q path) ∙ sym (and_true (same_path q path)))
one_more q path old new false is =
    ap (list_any (same_path q)) is ∙ sym (ap (λ x. list_any (same_path q) old || x) (and_false (same_path q path)) ∙ or_false (list_any (same_path q) old))

law_more : (a s u v : Bool) → ((a || (s && u)) || (s && v)) ≡ (a || (s && (u || v)))
law_more true s u v = refl
law_more false false u v = refl
law_more false true u v = refl

-- the claims of a node's first words, and of one word more
pub more_words : {W : Type 0} (a s x y : Bool) (test : W → Bool) (words : List W) (i : ℕ) (d : W) → i < length words → x ≡ (a || (s && list_any test (take i words))) → y ≡ (x || (s && test (get_or words i d)))
    → y ≡ (a || (s && list_any test (take (i + 1) words)))
more_words a s x y test words i d within so_far is =
    is ∙ ap (λ z. z || (s && test (get_or words i d))) so_far ∙ law_more a s (list_any test (take i words)) (test (get_or words i d))
    ∙ ap (λ z. a || (s && z)) (sym (list_any_more test words i d within))

pub no_words : (a s : Bool) → a ≡ (a || (s && false))
no_words true s = refl
no_words false true = refl
no_words false false = refl

law_gather : (A s c d : Bool) → (s ≡ true → d ≡ c) → ((A && c) || (s && d)) ≡ ((A || s) && c)
law_gather true true true d h = refl
law_gather true true false d h = h refl
law_gather true false c d h = or_false c
law_gather false true c d h = h refl
law_gather false false c d h = refl

there_and : (test : Node → Bool) (o : Option Node) → (is_some o && option_map_or test o false) ≡ option_map_or test o false
there_and test None = refl
there_and test (Some node) = refl

-- ---- the claims after a call

-- the claimants of a table, by its look-ups
pub claimants_shown : {K : Type 0} (f : K → List ℕ) (entries : List (K × List (List (List ℕ)))) (text : List ℕ) → claimants (map (λ (e : K × List (List (List ℕ))). (f e.0, e.1)) entries) text ≡ option_map_or (λ paths. paths) (lookup (λ k. bytes_eq text (f k)) entries) []
claimants_shown f entries text = ap (λ o. option_map_or (λ paths. paths) o []) (lookup_shown f (bytes_eq text) entries)

or_none : (b : Bool) (paths : List (List (List ℕ))) (o : Option (List (List (List ℕ)))) → option_map_or (λ paths. paths) (cond b (Some paths) o) [] ≡ cond b paths (option_map_or (λ paths. paths) o [])
or_none true paths o = refl
or_none false paths o = refl

or_gone : (b : Bool) (o : Option (List (List (List ℕ)))) → option_map_or (λ paths. paths) (cond b None o) [] ≡ cond b [] (option_map_or (λ paths. paths) o [])
or_gone true o = refl
or_gone false o = refl

-- after a text's claimants are set
pub set_claims : {K : Type 0} (f : K → List ℕ) (old new : List (K × List (List (List ℕ)))) (text : List ℕ) (paths : List (List (List ℕ)))
    → ((t : List ℕ) → lookup (λ k. bytes_eq t (f k)) new ≡ cond (bytes_eq text t) (Some paths) (lookup (λ k. bytes_eq t (f k)) old))
    → (t : List ℕ) → claimants (map (λ (e : K × List (List (List ℕ))). (f e.0, e.1)) new) t ≡ cond (bytes_eq text t) paths (claimants (map (λ (e : K × List (List (List ℕ))). (f e.0, e.1)) old) t)
set_claims f old new text paths is t =
    claimants_shown f new t ∙ ap (λ o. option_map_or (λ paths. paths) o []) (is t) ∙ or_none (bytes_eq text t) paths (lookup (λ k. bytes_eq t (f k)) old) ∙ ap (cond (bytes_eq text t) paths) (sym (claimants_shown f old t))

-- after they are taken away
pub took_claims : {K : Type 0} (f : K → List ℕ) (old new : List (K × List (List (List ℕ)))) (text : List ℕ)
    → ((t : List ℕ) → lookup (λ k. bytes_eq t (f k)) new ≡ cond (bytes_eq text t) None (lookup (λ k. bytes_eq t (f k)) old))
    → (t : List ℕ) → claimants (map (λ (e : K × List (List (List ℕ))). (f e.0, e.1)) new) t ≡ cond (bytes_eq text t) [] (claimants (map (λ (e : K × List (List (List ℕ))). (f e.0, e.1)) old) t)
took_claims f old new text is t =
    claimants_shown f new t ∙ ap (λ o. option_map_or (λ paths. paths) o []) (is t) ∙ or_gone (bytes_eq text t) (lookup (λ k. bytes_eq t (f k)) old) ∙ ap (cond (bytes_eq text t) []) (sym (claimants_shown f old t))

-- one more claimant, by way of the list without it
pub added_to : (old mid new : ClaimRows) (text : List ℕ) (path : List (List ℕ)) (paths more : List (List (List ℕ))) → paths ≡ claimants old text → more ≡ paths ++ path ∷ []
    → ((t : List ℕ) → claimants mid t ≡ cond (bytes_eq text t) [] (claimants old t)) → ((t : List ℕ) → claimants new t ≡ cond (bytes_eq text t) more (claimants mid t))
    → (t : List ℕ) → claimants new t ≡ cond (bytes_eq text t) (claimants old t ++ path ∷ []) (claimants old t)
added_to old mid new text path paths more were are without with t =
    ⊎_elim
    (λ (same : bytes_eq text t ≡ true).
    with t ∙ ap (λ b. cond b more (claimants mid t)) same ∙ are ∙ ap (λ l. l ++ path ∷ []) (were ∙ ap (claimants old) (same_text text t (sym same)))
    ∙ sym (ap (λ b. cond b (claimants old t ++ path ∷ []) (claimants old t)) same))
    (λ (other : bytes_eq text t ≡ false).
    with t ∙ ap (λ b. cond b more (claimants mid t)) other ∙ without t ∙ ap (λ b. cond b [] (claimants old t)) other
    ∙ sym (ap (λ b. cond b (claimants old t ++ path ∷ []) (claimants old t)) other))
    (cases_Bool (bytes_eq text t))

-- no claimant of a text that has the path among its claimants
pub not_added : (rows : ClaimRows) (path : List (List ℕ)) (text : List ℕ) → list_any (same_path path) (claimants rows text) ≡ true → AddsClaims path (λ t. bytes_eq t text) rows rows
not_added rows path text there t q =
    ⊎_elim
    (λ (is : (same_path q path && bytes_eq t text) ≡ true).
    let parts = and_parts (same_path q path) (bytes_eq t text) is in
    let same : q ≡ path = path_from_same q path parts.0 in
    let named : t ≡ text = same_text t text (sym parts.1) in
    let has : list_any (same_path q) (claimants rows t) ≡ true = rw (same, named) there in
    has ∙ sym (ap (λ b. b || (same_path q path && bytes_eq t text)) has))
    (λ (is_not : (same_path q path && bytes_eq t text) ≡ false). sym (ap (λ b. list_any (same_path q) (claimants rows t) || b) is_not ∙ or_false (list_any (same_path q) (claimants rows t))))
    (cases_Bool (same_path q path && bytes_eq t text))

-- one more claimant of one text
pub added : (rows more : ClaimRows) (path : List (List ℕ)) (text : List ℕ) → ((t : List ℕ) → claimants more t ≡ cond (bytes_eq text t) (claimants rows t ++ path ∷ []) (claimants rows t)) → (test : List ℕ → Bool)
    → ((t : List ℕ) → test t ≡ bytes_eq t text) → AddsClaims path test rows more
added rows more path text is test same t q = one_more q path (claimants rows t) (claimants more t) (bytes_eq text t) (is t) ∙ ap (λ b. list_any (same_path q) (claimants rows t) || (same_path q path && b)) (bytes_eq_swapped text t ∙ sym (same t))

-- the claims of the first words
pub words_more : {W : Type 0} (first rows more : ClaimRows) (path : List (List ℕ)) (test : List ℕ → W → Bool) (words : List W) (i : ℕ) (word : W) → i < length words → word ≡ get_or words i word
    → AddsClaims path (λ t. list_any (test t) (take i words)) first rows → AddsClaims path (λ t. test t word) rows more → AddsClaims path (λ t. list_any (test t) (take (i + 1) words)) first more
words_more first rows more path test words i word within item so_far is t q =
    more_words (list_any (same_path q) (claimants first t)) (same_path q path) (list_any (same_path q) (claimants rows t)) (list_any (same_path q) (claimants more t)) (test t) words i word within (so_far t q)
    (is t q ∙ ap (λ w. list_any (same_path q) (claimants rows t) || (same_path q path && test t w)) item)

-- the claims of a tree's first rows
abbrev pub AreOfRows : {R : Type 0} → (R → List (List ℕ)) → (List (List ℕ) → List ℕ → Bool) → List R → ClaimRows → Type 0
AreOfRows key claims done rows = (t : List ℕ) (q : List (List ℕ)) → list_any (same_path q) (claimants rows t) ≡ (list_any (λ r. same_path q (key r)) done && claims q t)

-- and of one row more
pub rows_more : {R : Type 0} (key : R → List (List ℕ)) (claims : List (List ℕ) → List ℕ → Bool) (here : List ℕ → Bool) (all : List R) (i : ℕ) (row : R) (old new : ClaimRows) → i < length all → row ≡ get_or all i row
    → ((t : List ℕ) → claims (key row) t ≡ here t) → AreOfRows key claims (take i all) old → AddsClaims (key row) here old new → AreOfRows key claims (take (i + 1) all) new
rows_more key claims here all i row old new within item same so_far is t q =
    is t q ∙ ap (λ z. z || (same_path q (key row) && here t)) (so_far t q)
    ∙ law_gather (list_any (λ r. same_path q (key r)) (take i all)) (same_path q (key row)) (claims q t) (here t) (λ one. sym (same t) ∙ ap (λ p. claims p t) (sym (path_from_same q (key row) one)))
    ∙ ap (λ z. z && claims q t)
    (ap (λ r. list_any (λ o. same_path q (key o)) (take i all) || same_path q (key r)) item ∙ sym (list_any_more (λ r. same_path q (key r)) all i row within))

-- a row's path has its node
pub row_there : {R : Type 0} (f : R → List (List ℕ) × Node) (tree : Content) (all : List R) (i : ℕ) (row : R) → AreRowsOf tree (map f all) → i < length all → row ≡ get_or all i row → node_at tree (f row).0 ≡ Some (f row).1
row_there f tree all i row are within item =
    subst (λ (e : List (List ℕ) × Node). node_at tree e.0 ≡ Some e.1) (get_or-map f all i row (f row) within ∙ ap f (sym item))
    (are.nodes i (f row) (omega (arith, within, length-map all f)))

pub any_of_keys : {R : Type 0} (f : R → List (List ℕ) × Node) (q : List (List ℕ)) (all : List R) → list_any (same_path q) (keys_of (map f all)) ≡ list_any (λ r. same_path q (f r).0) all
any_of_keys f q [] = refl
any_of_keys f q (r ∷ all) = ap (λ b. same_path q (f r).0 || b) (any_of_keys f q all)

-- the claims of all rows
all_rows : {R : Type 0} (f : R → List (List ℕ) × Node) (tree : Content) (q : List (List ℕ)) (test : Node → Bool) (all : List R) (i : ℕ) (x : Bool) → AreRowsOf tree (map f all) → length all ≤ i
    → x ≡ (list_any (λ r. same_path q (f r).0) (take i all) && option_map_or test (node_at tree q) false) → x ≡ option_map_or test (node_at tree q) false
all_rows f tree q test all i x are end is =
    is ∙ ap (λ rs. list_any (λ r. same_path q (f r).0) rs && option_map_or test (node_at tree q) false) (take_all i all end)
    ∙ ap (λ z. z && option_map_or test (node_at tree q) false) (sym (any_of_keys f q all) ∙ are.paths q) ∙ there_and test (node_at tree q)

not_zero : (n : ℕ) → (n ≡ 0 → ⊥) → (n == 0) ≡ false
not_zero n some = grind (arith, nat_tests)

-- the root has no alias
pub root_claims_none : (path : List (List ℕ)) (node : Node) → length path ≡ 0 → (text : List ℕ) → node_claims_alias path node text ≡ false
unfolding node_claims_alias
root_claims_none path node root text = ap (λ n. not (n == 0) && list_any (spells_alias path text) (value_texts (prop_at node (codes "sling:alias")))) root

-- below the root a node claims what its words spell
pub below_claims : (path : List (List ℕ)) (node : Node) (words : List (List ℕ)) → (length path ≡ 0 → ⊥) → words ≡ value_texts (prop_at node (codes "sling:alias")) → (text : List ℕ) → node_claims_alias path node text ≡ list_any (spells_alias path text) words
unfolding node_claims_alias
below_claims path node words below are text =
    ap (λ b. not b && list_any (spells_alias path text) (value_texts (prop_at node (codes "sling:alias")))) (not_zero (length path) below) ∙ ap (list_any (spells_alias path text)) (sym are)

pub vanity_words : (node : Node) (words : List (List ℕ)) → words ≡ value_texts (prop_at node (codes "sling:vanityPath")) → (text : List ℕ) → node_claims_vanity_path node text ≡ list_any (spells_vanity_path text) words
unfolding node_claims_vanity_path
vanity_words node words are text = ap (list_any (spells_vanity_path text)) (sym are)

-- the claims of all nodes of a tree
pub whole_aliases : {R : Type 0} (f : R → List (List ℕ) × Node) (tree : Content) (rows : ClaimRows) (all : List R) (i : ℕ) → AreRowsOf tree (map f all) → length all ≤ i → AreOfRows (λ r. (f r).0) (claims_alias tree) (take i all) rows
    → AreClaims (claims_alias tree) rows
unfolding claims_alias
whole_aliases f tree rows all i are end is t q = all_rows f tree q (λ node. node_claims_alias q node t) all i (list_any (same_path q) (claimants rows t)) are end (is t q)

pub whole_vanity_paths : {R : Type 0} (f : R → List (List ℕ) × Node) (tree : Content) (rows : ClaimRows) (all : List R) (i : ℕ) → AreRowsOf tree (map f all) → length all ≤ i → AreOfRows (λ r. (f r).0) (claims_vanity_path tree) (take i all) rows
    → AreClaims (claims_vanity_path tree) rows
unfolding claims_vanity_path
whole_vanity_paths f tree rows all i are end is t q = all_rows f tree q (λ node. node_claims_vanity_path node t) all i (list_any (same_path q) (claimants rows t)) are end (is t q)

-- what the node of a path claims
pub alias_there : (tree : Content) (path : List (List ℕ)) (node : Node) → node_at tree path ≡ Some node → (t : List ℕ) → claims_alias tree path t ≡ node_claims_alias path node t
unfolding claims_alias
alias_there tree path node is t = ap (λ o. option_map_or (λ (n : Node). node_claims_alias path n t) o false) is

pub vanity_path_there : (tree : Content) (path : List (List ℕ)) (node : Node) → node_at tree path ≡ Some node → (t : List ℕ) → claims_vanity_path tree path t ≡ node_claims_vanity_path node t
unfolding claims_vanity_path
vanity_path_there tree path node is t = ap (λ o. option_map_or (λ (n : Node). node_claims_vanity_path n t) o false) is

-- ---- the longest claimed text

no_either : (b : Bool) (none : List (List (List ℕ))) → none ≡ [] → cond b [] none ≡ []
no_either true none is = refl
no_either false none is = is

-- after claimants are taken away
pub took_within : (longest : ℕ) (old new : ClaimRows) (text : List ℕ) → ClaimsAreWithin longest old → ((t : List ℕ) → claimants new t ≡ cond (bytes_eq text t) [] (claimants old t)) → ClaimsAreWithin longest new
took_within longest old new text within is t long = is t ∙ no_either (bytes_eq text t) (claimants old t) (within t long)

-- after claimants are set
pub set_within : (longest more : ℕ) (old new : ClaimRows) (text : List ℕ) (paths : List (List (List ℕ))) → ClaimsAreWithin longest old → longest ≤ more → length text ≤ more
    → ((t : List ℕ) → claimants new t ≡ cond (bytes_eq text t) paths (claimants old t)) → ClaimsAreWithin more new
set_within longest more old new text paths within grown fits is t long = ⊎_elim
    (λ (same : bytes_eq text t ≡ true). let one : text ≡ t = same_text text t (sym same) in absurd (omega (arith, long, fits, ap length one)))
    (λ (other : bytes_eq text t ≡ false). is t ∙ ap (λ b. cond b paths (claimants old t)) other ∙ within t (omega (arith, long, grown)))
    (cases_Bool (bytes_eq text t))

-- ---- the texts that a node claims

-- one more text
pub pushed_any : (t : List ℕ) (texts : List (List ℕ)) (text : List ℕ) → list_any (bytes_eq t) (texts ++ text ∷ []) ≡ (list_any (bytes_eq t) texts || bytes_eq t text)
pushed_any t texts text = list_any-append (bytes_eq t) texts (text ∷ []) ∙ ap (λ b. list_any (bytes_eq t) texts || b) (or_false (bytes_eq t text))

-- what the first words claim, and one word more
pub any_word : {W : Type 0} (test : W → Bool) (words : List W) (i : ℕ) (word : W) (old new : Bool) → i < length words → word ≡ get_or words i word → old ≡ list_any test (take i words) → new ≡ (old || test word) → new ≡ list_any test (take (i + 1) words)
any_word test words i word old new within item so_far is =
    is ∙ ap (λ b. b || test word) so_far ∙ ap (λ w. list_any test (take i words) || test w) item ∙ sym (list_any_more test words i word within)

-- what the node of a look-up claims
pub claims_vanity_path_is : (tree : Content) (path : List (List ℕ)) (found : Option Node) → found ≡ node_at tree path → (t : List ℕ) → claims_vanity_path tree path t ≡ option_map_or (λ n. node_claims_vanity_path n t) found false
unfolding claims_vanity_path
claims_vanity_path_is tree path found is t = ap (λ o. option_map_or (λ (n : Node). node_claims_vanity_path n t) o false) (sym is)
