-- The scripts that are remembered are those that the search finds, and stay so under a patch that changes no script and no super type.
use Rattle.std.proofs.Common.{◌≡◌, ◌⊎◌, inl, inr, ◌+◌, ◌∷◌, [], ℕ, zero, suc, Bool, true, false, cond, List, Option, Some, None, Result, Ok, Err, IfOk, OnOk, OnErr, length, refl, sym, ◌∙◌, ap, arith, subst}
use Rattle.std.specs.Prelude.{◌++◌, ◌==◌, ◌&&◌, ◌||◌, not, is_some, codes, flat_map, if◌then◌else◌, min, nat_eq, option_and_then, slice_get, take}
use Rattle.std.specs.Cmp.Lexicographic.{pointwise}
use Rattle.std.specs.List.{list_any}
use Rattle.std.specs.Option.{option_or}
use Rattle.std.proofs.lemmas.Bool.{and_parts, or_from, or_parts}
use Rattle.std.proofs.lemmas.Bool.Decides.{nat_tests}
use Rattle.std.proofs.lemmas.Option.{same_Some}
use Rattle.sp_base.specs.Paths.{is_empty, most_segments, path_of, text_of}
use Rattle.sp_base.specs.Texts.{Properties, Segments, Text}
use Rattle.sp_base.specs.declared.path.PathFault.{PathFault}
use Rattle.sp_base.proofs.ListLemmas.{any_next}
use Rattle.sp_base.proofs.OptionLemmas.{none_from_test}
use Rattle.resource_tree.specs.Content.{Content, IsGood, name_of, node_at, same_path}
use Rattle.resource_tree.specs.Patches.{PatchEntries, entry_at, left_by, patching_at}
use Rattle.resource_tree.specs.declared.patch.PatchNode.{PatchNode}
use Rattle.resource_tree.proofs.PathLemmas.{path_from_same}
use Rattle.url_maps.proofs.ParentLemmas.{left_of}
use Rattle.url_split.specs.declared.decompose.Parts.{Parts}
use Rattle.type_chain.specs.Types.{places, type_of}
use Rattle.type_chain.specs.Chain.{chain_of, first_of, line, line_from, most_types, own_super, super_at, super_of, super_text, super_type, type_text, until_repeat, with_default}
use Rattle.type_chain.specs.declared.type_name.TypeName.{TypeName}
use Rattle.script_rank.specs.Index.{ScriptPathsChange, IsScriptChangeOf, has_path, is_script_after}
use Rattle.script_rank.specs.Ranking.{is_script, spellings}
use Rattle.script_rank.specs.Search.{at_naming, at_place, at_type, namings, script_at, script_in, search_result, with_selectors, without_selectors}
use Rattle.script_rank.specs.declared.naming.Naming.{Naming}
use Rattle.script_rank.specs.declared.naming.Naming.TheVariants.{SelectorsAndExtension, Selectors, LabelAndExtension, Extension, Label, Method}
use Rattle.publisher.specs.FirstScripts.{AreAmongFirsts, AreFirst, ChangesNoScript, IsFirst, IsKeptFor, KeepsSupers, KeptFirsts, first_at, names_super, super_in}
use Rattle.publisher.specs.declared.first_scripts.FirstScript.{FirstScript}

-- ---- what a search asks beside the tree

-- the chain by the texts of a type and of the resource's own super type
abbrev chain_by : Content → List ℕ → Option (List ℕ) → List TypeName
chain_by tree type super =
    with_default (until_repeat (line_from tree (type_of type) (option_and_then type_of (option_or super (option_and_then (super_text tree) (type_of type))))))

chain-by : (tree : Content) (props : Properties) → chain_of tree props ≡ chain_by tree (type_text props) (own_super props)
unfolding chain_of super_of
chain-by tree props = refl

same_chain : (tree : Content) (a b : Properties) → type_text a ≡ type_text b → own_super a ≡ own_super b → chain_of tree a ≡ chain_of tree b
same_chain tree a b type super =
    let by : chain_by tree (type_text a) (own_super a) ≡ chain_by tree (type_text b) (own_super b) = λ i. chain_by tree (type i) (super i) in
    chain-by tree a ∙ by ∙ sym (chain-by tree b)

abbrev namings_by : List ℕ → List Text → List Naming
namings_by extension selectors =
    let html = pointwise nat_eq extension (codes "html") in
    if is_empty extension then [] else with_selectors html (min (length selectors) most_segments) ++ without_selectors html

same_namings : (a b : Parts) → a.extension ≡ b.extension → a.selectors ≡ b.selectors → namings a ≡ namings b
same_namings a b extension selectors = λ i. namings_by (extension i) (selectors i)

same_spellings : (a b : Parts) → a.extension ≡ b.extension → a.selectors ≡ b.selectors → (label : List ℕ) (naming : Naming) → spellings a label naming ≡ spellings b label naming
same_spellings a b extension selectors label (SelectorsAndExtension k) =
    λ i. (flat_map (λ s. 47 ∷ s) (take k (selectors i)) ++ 46 ∷ extension i) ∷ (flat_map (λ s. 47 ∷ s) (take k (selectors i)) ++ 47 ∷ extension i) ∷ []
same_spellings a b extension selectors label (Selectors k) = λ i. flat_map (λ s. 47 ∷ s) (take k (selectors i)) ∷ []
same_spellings a b extension selectors label LabelAndExtension = λ i. (47 ∷ label ++ 46 ∷ extension i) ∷ []
same_spellings a b extension selectors label Extension = λ i. (47 ∷ extension i) ∷ []
same_spellings a b extension selectors label Label = refl
same_spellings a b extension selectors label Method = refl

same_type : (tree : Content) (a b : Parts) → a.extension ≡ b.extension → a.selectors ≡ b.selectors → (naming : Naming) (type : TypeName) → at_type tree a naming type ≡ at_type tree b naming type
unfolding at_type
same_type tree a b extension selectors naming type = ap (λ names. first_of (at_place tree names) (places type)) (same_spellings a b extension selectors (name_of type.segs) naming)

same_naming : (tree : Content) (chain : List TypeName) (a b : Parts) → a.extension ≡ b.extension → a.selectors ≡ b.selectors → (naming : Naming) → at_naming tree chain a naming ≡ at_naming tree chain b naming
unfolding at_naming
same_naming tree chain a b extension selectors naming = λ i. first_of (λ type. same_type tree a b extension selectors naming type i) chain

same_search : (tree : Content) (chain : List TypeName) (a b : Parts) → a.extension ≡ b.extension → a.selectors ≡ b.selectors → search_result tree chain a ≡ search_result tree chain b
unfolding search_result
same_search tree chain a b extension selectors = λ i. first_of (λ naming. same_naming tree chain a b extension selectors naming i) (same_namings a b extension selectors i)

-- ---- what is remembered

-- what was found for a resource and a request is found for all of which this is
found_is_first : (tree : Content) (first : FirstScript) (props : Properties) (parts : Parts) → IsKeptFor first props parts
    → first.script ≡ search_result tree (chain_of tree props) parts → IsFirst tree first
found_is_first tree first props parts is found other others is_other =
    ap (λ chain. search_result tree chain others) (same_chain tree other props (sym is_other.type ∙ is.type) (sym is_other.super ∙ is.super))
    ∙ same_search tree (chain_of tree props) others parts (sym is_other.extension ∙ is.extension) (sym is_other.selectors ∙ is.selectors)
    ∙ sym found

none_at : (number : ℕ) (first : FirstScript) → first_at [] number ≡ Some first → ⊥
none_at number first e = cc

pub none_remembered : (tree : Content) (firsts : KeptFirsts) → firsts ≡ [] → AreFirst tree firsts
none_remembered tree firsts none number first is = absurd (none_at number first (ap (λ f. first_at f number) (sym none) ∙ is))

pub among_none : (old new : KeptFirsts) → new ≡ [] → AreAmongFirsts old new
among_none old new none number first is = absurd (none_at number first (ap (λ f. first_at f number) (sym none) ∙ is))

-- one that is remembered was before, or is the new one
abbrev pub IsOldOrNew : KeptFirsts → FirstScript → ℕ → FirstScript → Type 0
IsOldOrNew old first number other = (first_at old number ≡ Some other) ⊎ (other ≡ first)

put_cases : (b : Bool) (old : KeptFirsts) (first : FirstScript) (number : ℕ) (other : FirstScript) → cond b (Some first) (first_at old number) ≡ Some other → IsOldOrNew old first number other
put_cases true old first number other is = inr (sym (same_Some first other is))
put_cases false old first number other is = inl is

pub put_either : {A E : Type 0} (r : Result A E) (Put : Type 0) (old new : KeptFirsts) (number : ℕ) (first : FirstScript) → OnOk r Put
    → (Put → (q : ℕ) → first_at new q ≡ cond (nat_eq number q) (Some first) (first_at old q)) → OnErr r (new ≡ old)
    → (n : ℕ) (other : FirstScript) → first_at new n ≡ Some other → IsOldOrNew old first n other
put_either (Ok x) Put old new number first put look_ups same n other is = put_cases (nat_eq number n) old first n other (sym (look_ups put n) ∙ is)
put_either (Err e) Put old new number first put look_ups same n other is = inl (ap (λ f. first_at f n) (sym same) ∙ is)

-- one more is remembered, where some may have been forgotten before
pub one_more : (tree : Content) (old some new : KeptFirsts) (first : FirstScript) (props : Properties) (parts : Parts) → AreFirst tree old → AreAmongFirsts old some → IsKeptFor first props parts
    → first.script ≡ search_result tree (chain_of tree props) parts
    → ((n : ℕ) (other : FirstScript) → first_at new n ≡ Some other → IsOldOrNew some first n other) → AreFirst tree new
one_more tree old some new first props parts are among is found either number other there = by (either number other there)
  where
    by : IsOldOrNew some first number other → IsFirst tree other
    by (inl before) = are number other (among number other before)
    by (inr same) = subst (IsFirst tree) (sym same) (found_is_first tree first props parts is found)

pub as_found : {E : Type 0} (r : Result (Option Segments) E) (a b : Option Segments) → a ≡ b → IfOk r (λ o. o ≡ a) → IfOk r (λ o. o ≡ b)
as_found r a b same is = subst (λ o. IfOk r (λ x. x ≡ o)) same is

-- ---- what a search asks of the tree: where there are scripts, and which super types are named

abbrev HaveSameSupers : Content → Content → Type 0
HaveSameSupers after tree = (path : Segments) → super_at after path ≡ super_at tree path

super_text_stays : (after tree : Content) → HaveSameSupers after tree → (type : TypeName) → super_text after type ≡ super_text tree type
unfolding super_text
super_text_stays after tree same type = λ i. first_of (λ type_place. same type_place i) (places type)

super_type_stays : (after tree : Content) → HaveSameSupers after tree → (type : TypeName) → super_type after type ≡ super_type tree type
unfolding super_type
super_type_stays after tree same type = ap (option_and_then type_of) (super_text_stays after tree same type)

line_stays : (after tree : Content) → HaveSameSupers after tree → (n : ℕ) (next : Option TypeName) → line after n next ≡ line tree n next
unfolding line
line_stays after tree same zero next = refl
line_stays after tree same (suc n) None = refl
line_stays after tree same (suc n) (Some type) =
    ap (λ types. type ∷ types) (line_stays after tree same n (super_type after type) ∙ ap (line tree n) (super_type_stays after tree same type))

line_from_stays : (after tree : Content) → HaveSameSupers after tree → (own above : Option TypeName) → line_from after own above ≡ line_from tree own above
line_from_stays after tree same None above = line_stays after tree same most_types above
line_from_stays after tree same (Some own) above = ap (λ types. own ∷ types) (line_stays after tree same 31 above)

super_of_stays : (after tree : Content) → HaveSameSupers after tree → (props : Properties) (own : Option TypeName) → super_of after props own ≡ super_of tree props own
unfolding super_of
super_of_stays after tree same props own = λ i. option_and_then type_of (option_or (own_super props) (option_and_then (λ type. super_text_stays after tree same type i) own))

chain_stays : (after tree : Content) → HaveSameSupers after tree → (props : Properties) → chain_of after props ≡ chain_of tree props
unfolding chain_of
chain_stays after tree same props =
    let own = type_of (type_text props) in
    ap (λ types. with_default (until_repeat types)) (line_from_stays after tree same own (super_of after props own) ∙ ap (line_from tree own) (super_of_stays after tree same props own))

abbrev HaveSameScripts : Content → Content → Type 0
HaveSameScripts after tree = (path : Segments) → is_script after path ≡ is_script tree path

script_in_stays : (after tree : Content) → HaveSameScripts after tree → (read : Result Segments PathFault) → script_in after read ≡ script_in tree read
script_in_stays after tree same (Ok path) = ap (λ b. if b then Some path else None) (same path)
script_in_stays after tree same (Err e) = refl

script_at_stays : (after tree : Content) → HaveSameScripts after tree → (type_place : Segments) (spelling : List ℕ) → script_at after type_place spelling ≡ script_at tree type_place spelling
unfolding script_at
script_at_stays after tree same type_place spelling = script_in_stays after tree same (path_of (text_of type_place ++ (spelling ++ codes ".html")))

at_place_stays : (after tree : Content) → HaveSameScripts after tree → (names : List Text) (type_place : Segments) → at_place after names type_place ≡ at_place tree names type_place
unfolding at_place
at_place_stays after tree same names type_place = λ i. first_of (λ name. script_at_stays after tree same type_place name i) names

at_type_stays : (after tree : Content) → HaveSameScripts after tree → (parts : Parts) (naming : Naming) (type : TypeName) → at_type after parts naming type ≡ at_type tree parts naming type
unfolding at_type
at_type_stays after tree same parts naming type = λ i. first_of (λ type_place. at_place_stays after tree same (spellings parts (name_of type.segs) naming) type_place i) (places type)

at_naming_stays : (after tree : Content) → HaveSameScripts after tree → (chain : List TypeName) (parts : Parts) (naming : Naming) → at_naming after chain parts naming ≡ at_naming tree chain parts naming
unfolding at_naming
at_naming_stays after tree same chain parts naming = λ i. first_of (λ type. at_type_stays after tree same parts naming type i) chain

search_stays : (after tree : Content) → HaveSameScripts after tree → (chain : List TypeName) (parts : Parts) → search_result after chain parts ≡ search_result tree chain parts
unfolding search_result
search_stays after tree same chain parts = λ i. first_of (λ naming. at_naming_stays after tree same chain parts naming i) (namings parts)

firsts_stay : (after tree : Content) → HaveSameScripts after tree → HaveSameSupers after tree → (firsts : KeptFirsts) → AreFirst tree firsts → AreFirst after firsts
firsts_stay after tree scripts supers firsts are number first there props parts is =
    search_stays after tree scripts (chain_of after props) parts ∙ ap (λ chain. search_result tree chain parts) (chain_stays after tree supers props) ∙ are number first there props parts is

-- ---- a patch that changes neither

none_listed : (paths : List Segments) (path : Segments) → (length paths == 0) ≡ true → has_path paths path ≡ false
none_listed [] path none = refl
none_listed (p ∷ paths) path none = absurd (grind (arith, nat_tests))

as_before : (b : Bool) → (false || (b && not false)) ≡ b
as_before true = refl
as_before false = refl

none_changed : (change : ScriptPathsChange) (path : Segments) (before : Bool) → ChangesNoScript change → is_script_after change path before ≡ before
none_changed change path before none =
    let parts = and_parts (length change.added == 0) (length change.gone == 0) none in
    (λ i. none_listed change.added path parts.0 i || (before && not (none_listed change.gone path parts.1 i))) ∙ as_before before

by_entry : (tree : Content) (path : Segments) (entry : Segments × PatchNode) (rest : Option PatchNode) (b : Bool) → same_path path entry.0 ≡ b → names_super tree entry ≡ false
    → super_in (left_by rest (node_at tree path)) ≡ super_in (node_at tree path) → super_in (left_by (cond b (Some entry.1) rest) (node_at tree path)) ≡ super_in (node_at tree path)
by_entry tree path entry rest false same names is = is
by_entry tree path entry rest true same names is =
    let parts = or_parts (is_some (super_in (node_at tree entry.0))) (is_some (super_in (left_by (Some entry.1) None))) names in
    let before : super_in (node_at tree path) ≡ None = ap (λ p. super_in (node_at tree p)) (path_from_same path entry.0 same) ∙ none_from_test (super_in (node_at tree entry.0)) parts.0 in
    ap super_in (left_of entry.1 (node_at tree path)) ∙ none_from_test (super_in (left_by (Some entry.1) None)) parts.1 ∙ sym before

keeps : (tree : Content) (path : Segments) (entries : PatchEntries) → list_any (names_super tree) entries ≡ false → super_in (left_by (entry_at entries path) (node_at tree path)) ≡ super_in (node_at tree path)
keeps tree path [] none = refl
keeps tree path (entry ∷ entries) none =
    let parts = or_parts (names_super tree entry) (list_any (names_super tree) entries) none in
    by_entry tree path entry (entry_at entries path) (same_path path entry.0) refl parts.0 (keeps tree path entries parts.1)

pub keeps_supers : (tree : Content) (patch : PatchEntries) → list_any (names_super tree) patch ≡ false → KeepsSupers tree patch
keeps_supers tree patch none path = keeps tree path patch none

pub names_none_next : (tree : Content) (patch : PatchEntries) (i : ℕ) (entry : Segments × PatchNode) → slice_get patch i ≡ Some entry → list_any (names_super tree) (take i patch) ≡ false
    → names_super tree entry ≡ false → list_any (names_super tree) (take (i + 1) patch) ≡ false
names_none_next tree patch i entry is so_far none = any_next (names_super tree) patch i entry is ∙ or_from (list_any (names_super tree) (take i patch)) (names_super tree entry) so_far none

pub still_first : (tree after : Content) (patch : PatchEntries) (change : ScriptPathsChange) (firsts : KeptFirsts) → AreFirst tree firsts → IsScriptChangeOf tree patch change → KeepsSupers tree patch
    → ChangesNoScript change → IsGood after → ((path : Segments) → node_at after path ≡ patching_at tree patch path) → AreFirst after firsts
unfolding super_at
still_first tree after patch change firsts are is keep none good look_ups =
    firsts_stay after tree (λ path. is.scripts after good look_ups path ∙ none_changed change path (is_script tree path) none) (λ path. ap super_in (look_ups path) ∙ keep path) firsts are
