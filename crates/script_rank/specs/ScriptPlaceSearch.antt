-- What the code does at the script places alone, by a test that tells the paths of scripts, which gives the same as the search at each place. Only the
-- code and its proofs cite this.
use Rattle.std.specs.Prelude.{◌≡◌, ◌==◌, ◌++◌, ◌∷◌, [], ℕ, Bool, true, if◌then◌else◌, List, Option, None, codes, drop, flat_map, length, slice_index}
use Rattle.std.specs.List.{list_all, list_any}
use Rattle.sp_base.specs.Texts.{Segments}
use Rattle.sp_base.specs.Paths.{child_of, is_path, is_under}
use Rattle.resource_tree.specs.Content.{name_of}
use Rattle.type_chain.specs.Chain.{first_of}
use Rattle.type_chain.specs.Types.{places}
use Rattle.type_chain.specs.declared.script_places.ScriptPlace.{ScriptPlace}
use Rattle.type_chain.specs.declared.type_name.TypeName.{TypeName}
use Rattle.url_split.specs.declared.decompose.Parts.{Parts}
use Rattle.url_split.specs.Split.{known_one}
use Rattle.script_rank.specs.declared.naming.Naming.{Naming}
use Rattle.script_rank.specs.declared.naming.Naming.TheVariants.{SelectorsAndExtension, Selectors, LabelAndExtension, Extension, Label, Method}
use Rattle.script_rank.specs.Ranking.{after_slashes, spellings}
use Rattle.script_rank.specs.Search.{namings}

-- the spelling of a naming with this mark before the extension
abbrev pub spelling_with : Parts → List ℕ → Naming → List ℕ → List ℕ
spelling_with parts label (SelectorsAndExtension k) mark = after_slashes parts k ++ (mark ++ parts.extension)
spelling_with parts label (Selectors k) mark = after_slashes parts k
spelling_with parts label LabelAndExtension mark = 47 ∷ label ++ 46 ∷ parts.extension
spelling_with parts label Extension mark = 47 ∷ parts.extension
spelling_with parts label Label mark = 47 ∷ label
spelling_with parts label Method mark = codes "/GET"

-- the script below a place, which is not the root, by a slash and a name
unfoldable pub script_below : (Segments → Bool) → Segments → List ℕ → Option Segments
script_below tells place text = if length place == 0 then None
    else (if slice_index text 0 == 47 then known_one tells (child_of place (drop 1 text)) else None)

-- the script at a script place that a spelling names
abbrev pub script_named : (Segments → Bool) → Segments → List ℕ → Option Segments
script_named tells place spelling = script_below tells place (spelling ++ codes ".html")

-- the script by a naming at a script place: that of its first spelling that has one
unfoldable pub at_script_place : (Segments → Bool) → Parts → Naming → ScriptPlace → Option Segments
at_script_place tells parts naming script_place = first_of (script_named tells script_place.place) (spellings parts script_place.label naming)

-- the script by a naming at the first of the script places that has one
unfoldable pub at_script_places : (Segments → Bool) → Parts → List ScriptPlace → Naming → Option Segments
at_script_places tells parts script_places naming = first_of (at_script_place tells parts naming) script_places

-- the script by the first naming by which a script place has one
abbrev pub script_place_search : (Segments → Bool) → List ScriptPlace → Parts → Option Segments
script_place_search tells script_places parts = first_of (at_script_places tells parts script_places) (namings parts)

-- ---- the script places by another test, which may keep a place

-- the script place at a place, where the test keeps it
abbrev pub place_if : (Segments → Bool) → List ℕ → Segments → List ScriptPlace
place_if keeps label place = if keeps place then record { label = label; place = place } ∷ [] else []

-- those of a type
unfoldable pub kept_places_of : (Segments → Bool) → TypeName → List ScriptPlace
kept_places_of keeps type = flat_map (place_if keeps (name_of type.segs)) (places type)

-- those of types, which are paths
abbrev pub AreKeptPlacesOf : (Segments → Bool) → List TypeName → List ScriptPlace → Type 0
AreKeptPlacesOf keeps types script_places = (script_places ≡ flat_map (kept_places_of keeps) types) × (list_all (λ type. is_path type.segs) types ≡ true)

-- whether one of some paths is a place, or is below it
abbrev pub has_under : List Segments → Segments → Bool
has_under paths place = list_any (λ path. is_under path place) paths
