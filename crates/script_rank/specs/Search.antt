-- The search as a function: it tries the namings in the order of their ranks, at each type, each place and each spelling. It names the result
-- in the contracts of callers, and is no part of what the ranking is: that is Ranking, and the law `search_finds_the_first` ties the two.
use Rattle.std.specs.Prelude.{◌++◌, ◌∷◌, [], ℕ, zero, suc, Bool, if◌then◌else◌, List, Option, Some, None, Result, Ok, Err, codes, length, min}
use Rattle.sp_base.specs.Texts.{Segments}
use Rattle.sp_base.specs.Paths.{is_empty, most_segments, path_of, text_of}
use Rattle.sp_base.specs.declared.path.PathFault.{PathFault}
use Rattle.resource_tree.specs.Content.{Content, name_of}
use Rattle.type_chain.specs.Types.{places}
use Rattle.type_chain.specs.Chain.{first_of}
use Rattle.type_chain.specs.declared.type_name.TypeName.{TypeName}
use Rattle.url_split.specs.declared.decompose.Parts.{Parts}
use Rattle.script_rank.specs.declared.naming.Naming.{Naming}
use Rattle.script_rank.specs.declared.naming.Naming.TheVariants.{SelectorsAndExtension, Selectors, LabelAndExtension, Extension, Label, Method}
use Rattle.script_rank.specs.Ranking.{is_script, spellings}
pub use Rattle.script_rank.specs.Ranking.{is_html}

-- the namings after n selectors and fewer, down to one
unfoldable pub with_selectors : Bool → ℕ → List Naming
with_selectors html zero = []
with_selectors html (suc k) = SelectorsAndExtension (suc k) ∷ (if html then Selectors (suc k) ∷ with_selectors html k else with_selectors html k)

-- the namings without selectors
abbrev pub without_selectors : Bool → List Naming
without_selectors html = LabelAndExtension ∷ Extension ∷ (if html then Label ∷ Method ∷ [] else [])

-- a path has at most 64 segments, so no script is named after more selectors
abbrev pub most_selectors : Parts → ℕ
most_selectors parts = min (length parts.selectors) most_segments

-- the namings that a request allows, the closest first
abbrev pub namings : Parts → List Naming
namings parts = if is_empty parts.extension then [] else with_selectors (is_html parts) (most_selectors parts) ++ without_selectors (is_html parts)

-- the path, where a script is there
abbrev pub script_in : Content → Result Segments PathFault → Option Segments
script_in tree (Ok path) = if is_script tree path then Some path else None
script_in tree (Err e) = None

-- the script at a place by a spelling
unfoldable pub script_at : Content → Segments → List ℕ → Option Segments
script_at tree place spelling = script_in tree (path_of (text_of place ++ (spelling ++ codes ".html")))

-- the script at a place by the first of some spellings that has one
unfoldable pub at_place : Content → Segments → Segments → Option Segments
at_place tree names place = first_of (script_at tree place) names

-- the script by a naming at the first place of a type that has one
unfoldable pub at_type : Content → Parts → Naming → TypeName → Option Segments
at_type tree parts naming type = first_of (at_place tree (spellings parts (name_of type.segs) naming)) (places type)

-- the script by a naming of the first type of a chain that has one
unfoldable pub at_naming : Content → List TypeName → Parts → Naming → Option Segments
at_naming tree chain parts naming = first_of (at_type tree parts naming) chain

-- the script by the first naming by which the chain has one
unfoldable pub search_result : Content → List TypeName → Parts → Option Segments
search_result tree chain parts = first_of (at_naming tree chain parts) (namings parts)
