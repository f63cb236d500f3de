-- The scripts that may answer a request, and which of them ranks first (Apache Sling, "Servlets and Scripts", "Script Naming Conventions").
use Rattle.std.specs.Prelude.{◌≡◌, ◌<◌, ◌≤◌, ◌&&◌, ◌⊎◌, ◌++◌, ◌∷◌, [], ℕ, Bool, true, false, IsTrue, is_some, nat_eq, List, Option, Some, None, option_and_then, Result, Ok, Err, codes, flat_map, length, slice_get, take}
use Rattle.std.specs.Cmp.Lexicographic.{pointwise}
use Rattle.std.specs.List.{ends_with}
use Rattle.sp_base.specs.Texts.{Segments, Text}
use Rattle.sp_base.specs.Paths.{child_of, path_of, text_of}
use Rattle.sp_base.specs.Properties.{text_in}
use Rattle.sp_base.specs.declared.path.PathFault.{PathFault}
use Rattle.resource_tree.specs.Content.{Content, node_at, name_of}
use Rattle.resource_tree.specs.declared.nodes.Node.{Node}
use Rattle.type_chain.specs.Types.{places}
use Rattle.type_chain.specs.declared.type_name.TypeName.{TypeName}
use Rattle.url_split.specs.declared.decompose.Parts.{Parts}
use Rattle.script_rank.specs.declared.naming.Naming.{Naming}
use Rattle.script_rank.specs.declared.naming.Naming.TheVariants.{SelectorsAndExtension, Selectors, LabelAndExtension, Extension, Label, Method}

-- ---- names

-- a request for html, which a script need not name
abbrev pub is_html : Parts → Bool
is_html parts = pointwise nat_eq parts.extension (codes "html")

-- how many selectors a name has
abbrev pub selectors_in : Naming → ℕ
selectors_in (SelectorsAndExtension k) = k
selectors_in (Selectors k) = k
selectors_in _ = 0

-- whether a name has the extension
abbrev pub has_extension : Naming → Bool
has_extension (Selectors k) = false
has_extension Label = false
has_extension Method = false
has_extension _ = true

-- whether a name has the type's label
abbrev pub has_label : Naming → Bool
has_label LabelAndExtension = true
has_label Label = true
has_label _ = false

-- from one selector to all of them
abbrev pub IsCount : Parts → ℕ → Type 0
IsCount parts k = (1 ≤ k) × (k ≤ length parts.selectors)

-- the namings of a request: those without the extension serve html alone
abbrev pub IsOffered : Parts → Naming → Type 0
IsOffered parts (SelectorsAndExtension k) = IsCount parts k
IsOffered parts (Selectors k) = IsCount parts k × IsTrue (is_html parts)
IsOffered parts LabelAndExtension = Unit {0}
IsOffered parts Extension = Unit {0}
IsOffered parts Label = IsTrue (is_html parts)
IsOffered parts Method = IsTrue (is_html parts)

-- the first selectors, each after a slash
abbrev pub after_slashes : Parts → ℕ → List ℕ
after_slashes parts k = flat_map (λ s. 47 ∷ s) (take k parts.selectors)

-- how such a name is spelled after a place: of two spellings the one with the dot is the first
abbrev pub spellings : Parts → List ℕ → Naming → List Text
spellings parts label (SelectorsAndExtension k) = (after_slashes parts k ++ 46 ∷ parts.extension) ∷ (after_slashes parts k ++ 47 ∷ parts.extension) ∷ []
spellings parts label (Selectors k) = after_slashes parts k ∷ []
spellings parts label LabelAndExtension = (47 ∷ label ++ 46 ∷ parts.extension) ∷ []
spellings parts label Extension = (47 ∷ parts.extension) ∷ []
spellings parts label Label = (47 ∷ label) ∷ []
spellings parts label Method = codes "/GET" ∷ []

-- ---- scripts

-- the node at a path, if it is one
abbrev pub node_of : Content → Result Segments PathFault → Option Node
node_of tree (Ok path) = node_at tree path
node_of tree (Err e) = None

-- the text of a script: the text `jcr:data` of the kid `jcr:content`
unfoldable pub script_text : Content → Segments → Option (List ℕ)
script_text tree path = option_and_then (λ node. text_in node.props (codes "jcr:data")) (node_of tree (child_of path (codes "jcr:content")))

-- whether a name may be a script's
abbrev pub is_script_name : Text → Bool
is_script_name name = ends_with nat_eq name (codes ".html")

-- whether a node is at the path that has a script's name and text
abbrev pub is_script : Content → Segments → Bool
is_script tree path = is_script_name (name_of path) && (is_some (node_at tree path) && is_some (script_text tree path))

-- by what a candidate is ranked: its naming, and the positions of its type in the chain, of its place among the type's, and of its
-- spelling among the naming's
pub record Key : Type 0 where
  pub naming : Naming
  pub type : ℕ
  pub place : ℕ
  pub spelling : ℕ

-- A candidate for a request with an extension: a script whose path is spelled by a place of a type of the chain, a spelling, which begins with
-- a slash, and `.html`.
pub record Candidate (tree : Content) (chain : List TypeName) (parts : Parts) (path : Segments) (key : Key) : Type 0 where
  pub type : TypeName
  pub place : Segments
  pub spelling : List ℕ
  pub asked : 0 < length parts.extension
  pub offered : IsOffered parts key.naming
  pub in_chain : slice_get chain key.type ≡ Some type
  pub of_type : slice_get (places type) key.place ≡ Some place
  pub spelled : slice_get (spellings parts (name_of type.segs) key.naming) key.spelling ≡ Some spelling
  pub reads : path_of (text_of place ++ (spelling ++ codes ".html")) ≡ Ok path
  pub script : is_script tree path ≡ true

-- ---- ranks

-- the first in which they differ decides
abbrev pub IsLessInTurn : Type 0 → Type 0 → Type 0 → Type 0
IsLessInTurn less same rest = less ⊎ (same × rest)

-- the first has it, and the second has not
abbrev pub IsAbove : Bool → Bool → Type 0
IsAbove a b = (a ≡ true) × (b ≡ false)

-- the first key is better: more selectors, then the extension, then the label, then the nearer type, then the earlier place, then the
-- dot
abbrev pub IsBetter : Key → Key → Type 0
IsBetter k l =
    IsLessInTurn (selectors_in l.naming < selectors_in k.naming) (selectors_in k.naming ≡ selectors_in l.naming)
    (IsLessInTurn (IsAbove (has_extension k.naming) (has_extension l.naming)) (has_extension k.naming ≡ has_extension l.naming)
    (IsLessInTurn (IsAbove (has_label k.naming) (has_label l.naming)) (has_label k.naming ≡ has_label l.naming)
    (IsLessInTurn (k.type < l.type) (k.type ≡ l.type)
    (IsLessInTurn (k.place < l.place) (k.place ≡ l.place)
    (k.spelling < l.spelling)))))

-- the script is a candidate, and none is better
pub record IsFirstScript (tree : Content) (chain : List TypeName) (parts : Parts) (path : Segments) : Type 0 where
  pub key : Key
  pub candidate : Candidate tree chain parts path key
  pub best : (other : Segments) (k : Key) → Candidate tree chain parts other k → IsBetter k key → ⊥

-- no script is a candidate
abbrev pub HasNoCandidate : Content → List TypeName → Parts → Type 0
HasNoCandidate tree chain parts = (path : Segments) (key : Key) → Candidate tree chain parts path key → ⊥

-- two candidates of which neither is better than the other are one script
abbrev pub CandidatesAreOneUnlessBetter : Content → List TypeName → Parts → Segments → Segments → Key → Key → Type 0
CandidatesAreOneUnlessBetter tree chain parts p q k l = Candidate tree chain parts p k → Candidate tree chain parts q l → (IsBetter k l → ⊥) → (IsBetter l k → ⊥) → p ≡ q

-- two candidates with one key are one script
abbrev pub AreOneIfOfOneKey : Content → List TypeName → Parts → Segments → Segments → Key → Type 0
AreOneIfOfOneKey tree chain parts p q k = Candidate tree chain parts p k → Candidate tree chain parts q k → p ≡ q

-- two scripts that rank first are one
abbrev pub AreOneIfFirst : Content → List TypeName → Parts → Segments → Segments → Type 0
AreOneIfFirst tree chain parts p q = IsFirstScript tree chain parts p → IsFirstScript tree chain parts q → p ≡ q
