-- The search at the script places alone gives what the search at each place gives.
use Rattle.std.proofs.Common.{◌≡◌, ◌≤◌, ◌++◌, ◌==◌, ℕ, zero, suc, Bool, true, false, cond, List, [], ◌∷◌, Option, Some, None, Result, length, refl, sym, ◌∙◌, ap, subst, arith, codes, take}
use Rattle.std.specs.Prelude.{flat_map, slice_get, IfOk}
use Rattle.std.specs.List.{AllByRecursion, list_all}
use Rattle.std.specs.Option.{option_or}
use Rattle.std.proofs.lemmas.Bool.{and_parts}
use Rattle.sp_base.specs.Texts.{Segments}
use Rattle.sp_base.specs.Paths.{path_or_fault, fault_of, is_path, unless_fault}
use Rattle.sp_base.specs.declared.path.PathFault.{PathFault}
use Rattle.sp_base.proofs.NatLemmas.{zero_from_test}
use Rattle.resource_tree.specs.Content.{Content, IsGood, name_of, node_at}
use Rattle.type_chain.specs.Chain.{first_of}
use Rattle.type_chain.specs.ScriptPlaces.{AreScriptPlacesOf, has_kids, script_places_of}
use Rattle.type_chain.specs.Types.{path_with, places}
use Rattle.type_chain.specs.declared.script_places.ScriptPlace.{ScriptPlace}
use Rattle.type_chain.specs.declared.type_name.TypeName.{TypeName}
use Rattle.url_split.specs.declared.decompose.Parts.{Parts}
use Rattle.script_rank.specs.declared.naming.Naming.{Naming}
use Rattle.script_rank.specs.declared.naming.Naming.TheVariants.{SelectorsAndExtension, Selectors, LabelAndExtension, Extension, Label, Method}
use Rattle.script_rank.specs.Index.{has_path}
use Rattle.script_rank.specs.Ranking.{IsOffered, after_slashes, is_script, spellings}
use Rattle.script_rank.specs.Search.{at_naming, at_place, at_type, namings, script_at, search_result}
use Rattle.script_rank.specs.ScriptPlaceSearch.{AreKeptPlacesOf, at_script_place, at_script_places, has_under, kept_places_of, place_if, script_named, script_place_search}
use Rattle.script_rank.proofs.NamingLemmas.{sound}
use Rattle.script_rank.proofs.PlaceLemmas.{HasNoneBelow, LackSlashes, none_unlisted, none_without_kids, path_lacks, script_none, script_same}

-- ---- the first that there is

append_or : {B : Type 0} (o p q r : Option B) → r ≡ option_or p q → option_or o r ≡ option_or (option_or o p) q
append_or None p q r e = e
append_or (Some x) p q r e = refl

first_append : {A B : Type 0} (f : A → Option B) (xs ys : List A) → first_of f (xs ++ ys) ≡ option_or (first_of f xs) (first_of f ys)
first_append f [] ys = refl
first_append f (x ∷ xs) ys = append_or (f x) (first_of f xs) (first_of f ys) (first_of f (xs ++ ys)) (first_append f xs ys)

first_same : {A B : Type 0} (f g : A → Option B) (xs : List A) → ((j : ℕ) (x : A) → slice_get xs j ≡ Some x → f x ≡ g x) → first_of f xs ≡ first_of g xs
first_same f g [] same = refl
first_same f g (x ∷ xs) same = ap (λ o. option_or o (first_of f xs)) (same 0 x refl) ∙ ap (option_or (g x)) (first_same f g xs (λ j y e. same (suc j) y e))

first_none : {A B : Type 0} (f : A → Option B) (xs : List A) → ((j : ℕ) (x : A) → slice_get xs j ≡ Some x → f x ≡ None) → first_of f xs ≡ None
first_none f [] none = refl
first_none f (x ∷ xs) none = ap (λ o. option_or o (first_of f xs)) (none 0 x refl) ∙ first_none f xs (λ j y e. none (suc j) y e)

-- ---- each spelling begins with a slash

abbrev BeginsWithSlash : List ℕ → Type 0
BeginsWithSlash text = (name : List ℕ) × (text ≡ 47 ∷ name)

selectors_begin : (xs : List (List ℕ)) (k : ℕ) (rest : List ℕ) → 1 ≤ k → k ≤ length xs → BeginsWithSlash (flat_map (λ s. 47 ∷ s) (take k xs) ++ rest)
selectors_begin xs zero rest some few = absurd (omega (arith, some))
selectors_begin [] (suc k) rest some few = absurd (omega (arith, few))
selectors_begin (x ∷ xs) (suc k) rest some few = (_, refl)

selectors_alone : (xs : List (List ℕ)) (k : ℕ) → 1 ≤ k → k ≤ length xs → BeginsWithSlash (flat_map (λ s. 47 ∷ s) (take k xs))
selectors_alone xs zero some few = absurd (omega (arith, some))
selectors_alone [] (suc k) some few = absurd (omega (arith, few))
selectors_alone (x ∷ xs) (suc k) some few = (_, refl)

only : (x y : List ℕ) (j : ℕ) → slice_get (x ∷ []) j ≡ Some y → x ≡ y
only x y zero e = cc
only x y (suc j) e = absurd (cc)

spelling_begins : (parts : Parts) (label : List ℕ) (naming : Naming) (j : ℕ) (s : List ℕ) → IsOffered parts naming → slice_get (spellings parts label naming) j ≡ Some s → BeginsWithSlash s
spelling_begins parts label (SelectorsAndExtension k) zero s h e =
    let same : after_slashes parts k ++ 46 ∷ parts.extension ≡ s = cc (e) in
    subst BeginsWithSlash same (selectors_begin parts.selectors k (46 ∷ parts.extension) h.0 h.1)
spelling_begins parts label (SelectorsAndExtension k) (suc j) s h e =
    subst BeginsWithSlash (only (after_slashes parts k ++ 47 ∷ parts.extension) s j e) (selectors_begin parts.selectors k (47 ∷ parts.extension) h.0 h.1)
spelling_begins parts label (Selectors k) j s h e = subst BeginsWithSlash (only (after_slashes parts k) s j e) (selectors_alone parts.selectors k h.0.0 h.0.1)
spelling_begins parts label LabelAndExtension j s h e = subst BeginsWithSlash (only _ s j e) (_, refl)
spelling_begins parts label Extension j s h e = subst BeginsWithSlash (only _ s j e) (_, refl)
spelling_begins parts label Label j s h e = subst BeginsWithSlash (only _ s j e) (_, refl)
spelling_begins parts label Method j s h e = subst BeginsWithSlash (only _ s j e) (_, refl)

-- ---- at a place

named_same : (tree : Content) (place : List (List ℕ)) (s : List ℕ) → LackSlashes place → BeginsWithSlash s → script_named (is_script tree) place s ≡ script_at tree place s
named_same tree place s lack begins =
    ap (script_named (is_script tree) place) begins.1 ∙ script_same tree place begins.0 lack ∙ ap (script_at tree place) (sym begins.1)

named_none : (tree : Content) (place : List (List ℕ)) (s : List ℕ) → HasNoneBelow tree place → LackSlashes place → BeginsWithSlash s → script_at tree place s ≡ None
named_none tree place s none lack begins = ap (script_at tree place) begins.1 ∙ script_none tree place begins.0 none lack

-- a test keeps each place below which there is a script
abbrev pub KeepsScripts : Content → (Segments → Bool) → Type 0
KeepsScripts tree keeps = (place : Segments) → keeps place ≡ false → HasNoneBelow tree place

module _ (tree : Content) (keeps : Segments → Bool) (passes : KeepsScripts tree keeps) (parts : Parts) (naming : Naming) (offered : IsOffered parts naming) where
  script_place_same : (label : List ℕ) (place : List (List ℕ)) → LackSlashes place
      → at_script_place (is_script tree) parts naming (record { label = label; place = place }) ≡ at_place tree (spellings parts label naming) place
  unfolding at_script_place at_place
  script_place_same label place lack =
      first_same (script_named (is_script tree) place) (script_at tree place) (spellings parts label naming) (λ j s e. named_same tree place s lack (spelling_begins parts label naming j s offered e))

  place_none : (label : List ℕ) (place : List (List ℕ)) → LackSlashes place → keeps place ≡ false → at_place tree (spellings parts label naming) place ≡ None
  unfolding at_place
  place_none label place lack none =
      first_none (script_at tree place) (spellings parts label naming) (λ j s e. named_none tree place s (passes place none) lack (spelling_begins parts label naming j s offered e))

  or_none : (o : Option (List (List ℕ))) → option_or o None ≡ o
  or_none None = refl
  or_none (Some x) = refl

  place_same : (label : List ℕ) (place : List (List ℕ)) → LackSlashes place → first_of (at_script_place (is_script tree) parts naming) (place_if keeps label place) ≡ at_place tree (spellings parts label naming) place
  place_same label place lack =
      elim (keeps place) as (λ t. keeps place ≡ t
      → first_of (at_script_place (is_script tree) parts naming) (cond t (record { label = label; place = place } ∷ []) []) ≡ at_place tree (spellings parts label naming) place) [
        | true ↦ λ e. or_none _ ∙ script_place_same label place lack
        | false ↦ λ e. sym (place_none label place lack e)
      ] refl

  places_same : (label : List ℕ) (list : List (List (List ℕ))) → AllByRecursion LackSlashes list
      → first_of (at_script_place (is_script tree) parts naming) (flat_map (place_if keeps label) list) ≡ first_of (at_place tree (spellings parts label naming)) list
  places_same label [] lack = refl
  places_same label (place ∷ list) lack =
      first_append (at_script_place (is_script tree) parts naming) (place_if keeps label place) (flat_map (place_if keeps label) list)
      ∙ ap (λ o. option_or o (first_of (at_script_place (is_script tree) parts naming) (flat_map (place_if keeps label) list))) (place_same label place lack.0)
      ∙ ap (option_or (at_place tree (spellings parts label naming) place)) (places_same label list lack.1)

  -- ---- at a type

  unless_lacks : (fault : Option PathFault) (path : List (List ℕ)) → LackSlashes path → AllByRecursion LackSlashes (path_with (unless_fault fault path))
  unless_lacks None path lack = (lack, tt)
  unless_lacks (Some fault) path lack = tt

  both_lack : (xs ys : List (List (List ℕ))) → AllByRecursion LackSlashes xs → AllByRecursion LackSlashes ys → AllByRecursion LackSlashes (xs ++ ys)
  both_lack [] ys h k = k
  both_lack (x ∷ xs) ys h k = (h.0, both_lack xs ys h.1 k)

  places_lack : (type : TypeName) → is_path type.segs ≡ true → AllByRecursion LackSlashes (places type)
  unfolding places
  places_lack type path =
      let lack = path_lacks type.segs path in
      let apps = codes "apps" ∷ type.segs in
      let libs = codes "libs" ∷ type.segs in
      elim type.rooted as (λ t. AllByRecursion LackSlashes (cond t (type.segs ∷ []) (path_with (path_or_fault apps) ++ path_with (path_or_fault libs)))) [
        | true ↦ (lack, tt)
        | false ↦ both_lack (path_with (path_or_fault apps)) (path_with (path_or_fault libs)) (unless_lacks (fault_of apps) apps (refl, lack)) (unless_lacks (fault_of libs) libs (refl, lack))
      ]

  type_same : (type : TypeName) → is_path type.segs ≡ true → first_of (at_script_place (is_script tree) parts naming) (kept_places_of keeps type) ≡ at_type tree parts naming type
  unfolding kept_places_of at_type
  type_same type path = places_same (name_of type.segs) (places type) (places_lack type path)

  types_same : (types : List TypeName) → list_all (λ type. is_path type.segs) types ≡ true
      → first_of (at_script_place (is_script tree) parts naming) (flat_map (kept_places_of keeps) types) ≡ first_of (at_type tree parts naming) types
  types_same [] paths = refl
  types_same (type ∷ types) paths =
      let both = and_parts (is_path type.segs) (list_all (λ t. is_path t.segs) types) paths in
      first_append (at_script_place (is_script tree) parts naming) (kept_places_of keeps type) (flat_map (kept_places_of keeps) types)
      ∙ ap (λ o. option_or o (first_of (at_script_place (is_script tree) parts naming) (flat_map (kept_places_of keeps) types))) (type_same type both.0)
      ∙ ap (option_or (at_type tree parts naming type)) (types_same types both.1)

  script_places_same : (types : List TypeName) (script_places : List ScriptPlace) → AreKeptPlacesOf keeps types script_places → at_script_places (is_script tree) parts script_places naming ≡ at_naming tree types parts naming
  unfolding at_script_places at_naming
  script_places_same types script_places h = ap (first_of (at_script_place (is_script tree) parts naming)) h.0 ∙ types_same types h.1

search_same : (tree : Content) (keeps : Segments → Bool) (types : List TypeName) (script_places : List ScriptPlace) (parts : Parts) → KeepsScripts tree keeps → AreKeptPlacesOf keeps types script_places
    → script_place_search (is_script tree) script_places parts ≡ search_result tree types parts
unfolding search_result
search_same tree keeps types script_places parts passes h =
    first_same (at_script_places (is_script tree) parts script_places) (at_naming tree types parts) (namings parts)
    (λ j naming e. script_places_same tree keeps passes parts naming (sound parts j naming e).1 types script_places h)

same_answer : {E : Type 0} {P Q : Option (List (List ℕ))} (r : Result (Option (List (List ℕ))) E) → P ≡ Q → IfOk r (λ o. o ≡ P) → IfOk r (λ o. o ≡ Q)
same_answer r e h = subst (λ answer. IfOk r (λ o. o ≡ answer)) e h

-- ---- an answer of the search at script places is one of the search at each place

with_kids : (tree : Content) (types : List TypeName) → flat_map (script_places_of tree) types ≡ flat_map (kept_places_of (λ place. has_kids (node_at tree place))) types
unfolding script_places_of kept_places_of
with_kids tree types = refl

-- in a tree
pub answers_same : {E : Type 0} (tree : Content) (types : List TypeName) (script_places script_places' : List ScriptPlace) (parts : Parts) (r : Result (Option (List (List ℕ))) E) → IsGood tree → AreScriptPlacesOf tree types script_places
    → script_places' ≡ script_places → IfOk r (λ o. o ≡ script_place_search (is_script tree) script_places' parts) → IfOk r (λ o. o ≡ search_result tree types parts)
answers_same tree types script_places script_places' parts r good h same value =
    let kept : AreKeptPlacesOf (λ place. has_kids (node_at tree place)) types script_places = (h.0 ∙ with_kids tree types, h.1) in
    same_answer r
    (ap (λ s. script_place_search (is_script tree) s parts) same
    ∙ search_same tree (λ place. has_kids (node_at tree place)) types script_places parts (λ place none. none_without_kids tree place good.shape none) kept)
    value

-- with an index
pub answers_listed : {E : Type 0} (tree : Content) (scripts : List Segments) (types : List TypeName) (script_places script_places' : List ScriptPlace) (parts : Parts) (r : Result (Option (List (List ℕ))) E)
    → ((path : Segments) → has_path scripts path ≡ is_script tree path) → AreKeptPlacesOf (has_under scripts) types script_places
    → script_places' ≡ script_places → IfOk r (λ o. o ≡ script_place_search (has_path scripts) script_places' parts) → IfOk r (λ o. o ≡ search_result tree types parts)
answers_listed tree scripts types script_places script_places' parts r lists h same value =
    let tells : has_path scripts ≡ is_script tree = λ i path. lists path i in
    same_answer r
    (ap (λ s. script_place_search (has_path scripts) s parts) same ∙ ap (λ t. script_place_search t script_places parts) tells
    ∙ search_same tree (has_under scripts) types script_places parts (λ place none. none_unlisted tree scripts place lists none) h)
    value

-- without a script place there is no script
pub no_script_place : (tells : Segments → Bool) (script_places : List ScriptPlace) (parts : Parts) → (length script_places == 0) ≡ true → script_place_search tells script_places parts ≡ None
unfolding at_script_places
no_script_place tells [] parts e = first_none (at_script_places tells parts []) (namings parts) (λ j naming is. refl)
no_script_place tells (script_place ∷ script_places) parts e = absurd (omega (arith, zero_from_test (length (script_place ∷ script_places)) e))
