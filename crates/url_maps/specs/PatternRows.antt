-- The nodes with a pattern, as an index has them.
use Rattle.std.specs.Prelude.{◌≡◌, ◌<◌, ◌⊎◌, ◌&&◌, ◌+◌, ℕ, Bool, true, nat_eq, nat_le, is_some, List, [], Option, Some, None, length, slice_index_or}
use Rattle.std.specs.Cmp.Lexicographic.{pointwise}
use Rattle.std.specs.List.{list_any}
use Rattle.std.specs.Option.{option_map_or}
use Rattle.sp_base.specs.Texts.{Segments, Text}
use Rattle.sp_base.specs.Paths.{is_path, is_under}
use Rattle.regex_rules.specs.Trees.{PatternTree, tree_of}
use Rattle.resource_tree.specs.declared.nodes.Node.{Node}
use Rattle.resource_tree.specs.Content.{kid}
use Rattle.resource_tree.specs.Patches.{PatchEntries}
use Rattle.url_maps.specs.declared.patterns.PatternNode.{PatternNode}
use Rattle.url_maps.specs.Mappings.{mapping_of}
use Rattle.url_maps.specs.Patterns.{HasPattern, mappings_path}

-- a node has the pattern and leads somewhere
pub record LeadsBy (node : Node) (pattern : PatternTree) : Type 0 where
  pub has : HasPattern node pattern
  pub leads : is_some (mapping_of node) ≡ true

-- the row of a node of a name, or that the node has no pattern or leads nowhere
abbrev pub IsRowOrNone : List ℕ → Node → Option PatternNode → Type 0
IsRowOrNone name node (Some row) = (row.name ≡ name) × LeadsBy node (tree_of row.pattern) × ((pattern : PatternTree) → LeadsBy node pattern → tree_of row.pattern ≡ pattern)
IsRowOrNone name node None = (pattern : PatternTree) → LeadsBy node pattern → ⊥

-- the row at a place
abbrev pub IsRowAt : List PatternNode → ℕ → PatternNode → Type 0
IsRowAt rows k row = (k < length rows) × (slice_index_or rows k row ≡ row)

-- a row is of the node that a look-up has under its name directly below `/etc/map/http`
pub record IsRowOf (at : Segments → Option Node) (row : PatternNode) : Type 0 where
  pub node : Node
  pub there : at (kid mappings_path row.name) ≡ Some node
  pub leads : LeadsBy node (tree_of row.pattern)

-- some row is of this name and this pattern
pub record HasRowOf (rows : List PatternNode) (name : List ℕ) (pattern : PatternTree) : Type 0 where
  pub place : ℕ
  pub row : PatternNode
  pub there : IsRowAt rows place row
  pub name_is : row.name ≡ name
  pub pattern_is : tree_of row.pattern ≡ pattern

-- The node that a look-up has under a name has its row.
abbrev pub IsListed : (Segments → Option Node) → List PatternNode → List ℕ → Type 0
IsListed at rows name = (node : Node) (pattern : PatternTree) → is_path (kid mappings_path name) ≡ true → at (kid mappings_path name) ≡ Some node → LeadsBy node pattern → HasRowOf rows name pattern

-- The rows are those of the nodes that a look-up has under some names directly below `/etc/map/http`.
pub record AreRowsOfNames (at : Segments → Option Node) (names : List Text) (rows : List PatternNode) : Type 0 where
  pub rows_are : (k : ℕ) (row : PatternNode) → IsRowAt rows k row → IsRowOf at row
  pub all : (name : List ℕ) → list_any (pointwise nat_eq name) names ≡ true → IsListed at rows name

-- The rows are those of all kids of `/etc/map/http`.
abbrev pub ArePatterns : (Segments → Option Node) → List PatternNode → Type 0
ArePatterns at rows = AreRowsOfNames at (option_map_or (λ node. node.kids) (at mappings_path) []) rows

-- One more name's row, where its node has one.
pub record AddsPattern (at : Segments → Option Node) (name : List ℕ) (old new : List PatternNode) : Type 0 where
  pub rows_are : (k : ℕ) (row : PatternNode) → IsRowAt new k row → IsRowAt old k row ⊎ IsRowOf at row
  pub stay : (k : ℕ) (row : PatternNode) → IsRowAt old k row → IsRowAt new k row
  pub listed : IsListed at new name

-- whether a path is another, or one of a kid of it
abbrev pub is_of_family : Segments → Segments → Bool
is_of_family path parent = is_under path parent && nat_le (length path) (length parent + 1)

-- whether a patch has something there
abbrev pub touches : PatchEntries → Segments → Bool
touches patch parent = list_any (λ entry. is_of_family entry.0 parent) patch

-- The rows after a patch, where it may change any; else those before it are right after it too.
abbrev pub ArePatternsAfter : (Segments → Option Node) → (Segments → Option Node) → Option (List PatternNode) → Type 0
ArePatternsAfter before after (Some rows) = ArePatterns after rows
ArePatternsAfter before after None = (rows : List PatternNode) → ArePatterns before rows → ArePatterns after rows
