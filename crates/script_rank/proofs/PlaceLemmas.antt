-- A text of a place, a slash and a name is read as the place with the name below it. No script is below a place that has no kids, or at or below which none
-- is listed.
use Rattle.std.proofs.Common.{◌≡◌, ◌≢◌, ◌++◌, ◌==◌, ℕ, true, false, cond, ◌||◌, List, [], ◌∷◌, Option, Some, None, Result, Ok, Err, length, refl, sym, ◌∙◌, ap, subst, ⊎_elim, arith, append_assoc, append-nil, length-append, codes}
use Rattle.std.specs.Prelude.{flat_map, is_some, IsSome, nat_eq, slice_index, if◌then◌else◌}
use Rattle.std.specs.Cmp.Lexicographic.{pointwise}
use Rattle.std.specs.Option.{IfNone, MatchOption}
use Rattle.std.specs.List.{AllByRecursion, list_all, list_any, onto_first}
use Rattle.std.proofs.lemmas.Bool.{and_parts, cases_Bool, eqb-true, not-false, or_right, true≢false}
use Rattle.std.proofs.lemmas.Bool.Decides.{nat_tests}
use Rattle.sp_base.specs.Texts.{Segments}
use Rattle.sp_base.specs.Paths.{path_or_fault, child_of, fault_of, has_slash, is_empty, is_path, is_under, path_of, pieces, seg_ok, text_of, unless_fault}
use Rattle.sp_base.specs.declared.path.PathFault.{PathFault}
use Rattle.sp_base.specs.declared.path.PathFault.TheVariants.{EmptySegment}
use Rattle.sp_base.proofs.NatLemmas.{not_zero}
use Rattle.sp_base.proofs.PathTests.{segment_has_no_slash}
use Rattle.sp_base.proofs.PathText.{prefix_piece}
use Rattle.url_split.specs.Split.{known_one}
use Rattle.resource_tree.specs.Content.{Content, IsTree, kid, name_of, node_at, same_path}
use Rattle.resource_tree.specs.declared.nodes.Node.{Node}
use Rattle.resource_tree.proofs.PartThere.{under_append}
use Rattle.resource_tree.proofs.PathLemmas.{path_from_same}
use Rattle.type_chain.specs.ScriptPlaces.{has_kids}
use Rattle.script_rank.specs.Index.{has_path}
use Rattle.script_rank.specs.Ranking.{is_script, is_script_name}
use Rattle.script_rank.specs.Search.{script_at, script_in}
use Rattle.script_rank.specs.ScriptPlaceSearch.{has_under, script_below}

-- ---- segments without slashes

abbrev pub LackSlashes : List (List ℕ) → Type 0
LackSlashes segs = AllByRecursion (λ seg. has_slash seg ≡ false) segs

all_lack : (segs : List (List ℕ)) → list_all seg_ok segs ≡ true → LackSlashes segs
all_lack [] ok = tt
all_lack (seg ∷ segs) ok =
    let both = and_parts (seg_ok seg) (list_all seg_ok segs) ok in
    (segment_has_no_slash seg both.0, all_lack segs both.1)

pub path_lacks : (segs : List (List ℕ)) → is_path segs ≡ true → LackSlashes segs
path_lacks segs path = all_lack segs (and_parts (list_all seg_ok segs) _ path).0

-- ---- a place's text with a name below it

abbrev spelled : List (List ℕ) → List ℕ
spelled segs = flat_map (λ s. 47 ∷ s) segs

pieces-below : (segs : List (List ℕ)) (name : List ℕ) → LackSlashes segs → pieces (spelled segs ++ 47 ∷ name) ≡ [] ∷ (segs ++ pieces name)
pieces-below [] name lack = refl
pieces-below (seg ∷ segs) name lack =
    ap (λ parts. [] ∷ parts)
    (ap pieces (append_assoc seg (spelled segs) (47 ∷ name)) ∙ prefix_piece seg (spelled segs ++ 47 ∷ name) (segs ++ pieces name) lack.0 (pieces-below segs name lack.1))

full : (text name : List ℕ) → is_empty (text ++ 47 ∷ name) ≡ false
full text name = not_zero (length (text ++ 47 ∷ name)) (omega (arith, length-append text (47 ∷ name)))

first_drop : (x y : List (List ℕ)) → [] ∷ x ≡ [] ∷ y → x ≡ y
first_drop x y e = cc

reads_below : (seg : List ℕ) (segs : List (List ℕ)) (name : List ℕ) → LackSlashes (seg ∷ segs) → path_of (text_of (seg ∷ segs) ++ 47 ∷ name) ≡ child_of (seg ∷ segs) name
reads_below seg segs name lack =
    let text = (seg ++ spelled segs) ++ 47 ∷ name in
    let same : pieces text ≡ (seg ∷ segs) ++ pieces name = first_drop _ _ (pieces-below (seg ∷ segs) name lack) in
    ap (λ t. if t then Ok [] else path_or_fault (pieces text)) (full (seg ++ spelled segs) name) ∙ ap path_or_fault same

root_none : (tree : Content) (name : List ℕ) → script_in tree (path_of (text_of [] ++ 47 ∷ name)) ≡ None
root_none tree name = ap (λ t. script_in tree (if t then Ok [] else Err EmptySegment)) (full [] name)

-- ---- the script at a place by a spelling that begins with a slash

in_tree : (tree : Content) (r : Result (List (List ℕ)) PathFault) → known_one (is_script tree) r ≡ script_in tree r
in_tree tree (Ok path) = refl
in_tree tree (Err e) = refl

pub script_same : (tree : Content) (place : List (List ℕ)) (name : List ℕ) → LackSlashes place → script_below (is_script tree) place ((47 ∷ name) ++ codes ".html") ≡ script_at tree place (47 ∷ name)
unfolding script_below script_at
script_same tree [] name lack = sym (root_none tree (name ++ codes ".html"))
script_same tree (seg ∷ segs) name lack =
    ap (λ t. if t then None else known_one (is_script tree) (child_of (seg ∷ segs) (name ++ codes ".html"))) (not_zero (length (seg ∷ segs)) (omega arith))
    ∙ in_tree tree (child_of (seg ∷ segs) (name ++ codes ".html")) ∙ ap (script_in tree) (sym (reads_below seg segs (name ++ codes ".html") lack))

-- ---- no script is below a place

abbrev pub HasNoneBelow : Content → Segments → Type 0
HasNoneBelow tree place = (name : List ℕ) (rest : Segments) → is_script tree (place ++ name ∷ rest) ≡ true → ⊥

above : {at : List (List ℕ) → Option Node} → IsTree at → (path rest : List (List ℕ)) → IsSome (at (path ++ rest)) → IsSome (at path)
above {at} good path [] there = subst (λ p. IsSome (at p)) (append-nil path) there
above {at} good path (name ∷ rest) there =
    good.parents path name (above good (kid path name) rest (subst (λ p. IsSome (at p)) (sym (append_assoc path (name ∷ []) rest)) there))

none_in : (xs : List (List ℕ)) (name : List ℕ) → (length xs == 0) ≡ true → list_any (pointwise nat_eq name) xs ≡ false
none_in [] name e = refl
none_in (x ∷ xs) name e = let none : length (x ∷ xs) ≡ 0 = grind (arith, nat_tests) in absurd (omega (arith, none))

no_kid : {at : List (List ℕ) → Option Node} → IsTree at → (place : List (List ℕ)) (name : List ℕ) (o : Option Node) → at place ≡ o → has_kids o ≡ false → IsSome (at (kid place name)) → ⊥
no_kid {at} good place name None is none there = true≢false (sym (good.parents place name there) ∙ ap is_some is)
no_kid {at} good place name (Some node) is none there =
    true≢false (sym there ∙ sym ((good.nodes place node is).kids name) ∙ none_in node.kids name (not-false (length node.kids == 0) none))

none_below : {at : List (List ℕ) → Option Node} → IsTree at → (place : List (List ℕ)) (name : List ℕ) (rest : List (List ℕ)) → has_kids (at place) ≡ false → IsSome (at (place ++ name ∷ rest)) → ⊥
none_below {at} good place name rest none there =
    no_kid good place name (at place) refl none (above good (kid place name) rest (subst (λ p. IsSome (at p)) (sym (append_assoc place (name ∷ []) rest)) there))

no_script : (tree : Content) (path : List (List ℕ)) → (IsSome (node_at tree path) → ⊥) → is_script tree path ≡ true → ⊥
no_script tree path none script = none (and_parts (is_some (node_at tree path)) _ (and_parts (is_script_name (name_of path)) _ script).1).0

-- that has no kids
pub none_without_kids : (tree : Content) (place : Segments) → IsTree (node_at tree) → has_kids (node_at tree place) ≡ false → HasNoneBelow tree place
none_without_kids tree place good none name rest script = no_script tree (place ++ name ∷ rest) (none_below good place name rest none) script

listed_under : (scripts : List Segments) (place more : Segments) → has_path scripts (place ++ more) ≡ true → has_under scripts place ≡ true
listed_under [] place more e = e
listed_under (path ∷ scripts) place more e = ⊎_elim
    (λ (same : same_path (place ++ more) path ≡ true).
    ap (λ b. b || has_under scripts place) (sym (ap (λ p. is_under p place) (path_from_same (place ++ more) path same)) ∙ under_append place more))
    (λ (other : same_path (place ++ more) path ≡ false).
    or_right (is_under path place) (has_under scripts place) (listed_under scripts place more (sym (ap (λ b. b || has_path scripts (place ++ more)) other) ∙ e)))
    (cases_Bool (same_path (place ++ more) path))

-- at or below which none is listed
pub none_unlisted : (tree : Content) (scripts : List Segments) (place : Segments) → ((path : Segments) → has_path scripts path ≡ is_script tree path) → has_under scripts place ≡ false → HasNoneBelow tree place
none_unlisted tree scripts place lists none name rest script =
    true≢false (sym (listed_under scripts place (name ∷ rest) (lists (place ++ name ∷ rest) ∙ script)) ∙ none)

none_at : (tree : Content) (fault : Option PathFault) (path : List (List ℕ)) → (is_script tree path ≡ true → ⊥) → script_in tree (unless_fault fault path) ≡ None
none_at tree (Some fault) path none = refl
none_at tree None path none =
    elim (is_script tree path) as (λ t. is_script tree path ≡ t → cond t (Some path) None ≡ None) [
      | true ↦ λ e. absurd (none e)
      | false ↦ λ e. refl
    ] refl

-- a text has a piece
abbrev HasPieces : List (List ℕ) → Type 0
HasPieces [] = ⊥
HasPieces (piece ∷ more) = Unit {0}

onto-pieces : (b : ℕ) (parts : List (List ℕ)) → HasPieces (onto_first b parts)
onto-pieces b [] = tt
onto-pieces b (part ∷ parts) = tt

has_pieces : (text : List ℕ) → HasPieces (pieces text)
has_pieces [] = tt
has_pieces (b ∷ text) =
    elim (b == 47) as (λ t. HasPieces (cond t ([] ∷ pieces text) (onto_first b (pieces text)))) [
      | true ↦ tt
      | false ↦ onto-pieces b (pieces text)
    ]

none_at_pieces : (tree : Content) (place more : List (List ℕ)) → HasNoneBelow tree place → HasPieces more → script_in tree (path_or_fault (place ++ more)) ≡ None
none_at_pieces tree place [] none has = absurd has
none_at_pieces tree place (name ∷ rest) none has = none_at tree (fault_of (place ++ name ∷ rest)) (place ++ name ∷ rest) (none name rest)

pub script_none : (tree : Content) (place : List (List ℕ)) (name : List ℕ) → HasNoneBelow tree place → LackSlashes place → script_at tree place (47 ∷ name) ≡ None
unfolding script_at
script_none tree [] name none lack = root_none tree (name ++ codes ".html")
script_none tree (seg ∷ segs) name none lack =
    ap (script_in tree) (reads_below seg segs (name ++ codes ".html") lack)
    ∙ none_at_pieces tree (seg ∷ segs) (pieces (name ++ codes ".html")) none (has_pieces (name ++ codes ".html"))

-- ---- a text without a slash at its beginning

begins_otherwise : (text : List ℕ) → ((rest : List ℕ) → text ≢ 47 ∷ rest) → (slice_index text 0 == 47) ≡ false
begins_otherwise [] none = refl
begins_otherwise (b ∷ text) none =
    elim (b == 47) as (λ t. (b == 47) ≡ t → t ≡ false) [
      | true ↦ λ e. absurd (none text (ap (λ n. n ∷ text) (eqb-true b 47 e)))
      | false ↦ λ e. refl
    ] refl

pub no_slash : {A : Type 0} (r : Option A) (text : List ℕ) (Q : A → Type 0) → MatchOption r ((rest : List ℕ) → text ≢ 47 ∷ rest) Q → IfNone r ((slice_index text 0 == 47) ≡ false)
no_slash None text Q h = begins_otherwise text h
no_slash (Some x) text Q h = tt
