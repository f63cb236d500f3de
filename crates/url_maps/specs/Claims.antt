-- The nodes that claim a text as their alias or their vanity path, by the text.
-- `claims_alias`, `AddsClaims` and `ClaimsAreWithin` are needed by private functions, an invariant and proofs alone.
use Rattle.std.specs.Prelude.{⊤, ◌≡◌, ◌<◌, ◌&&◌, ◌||◌, ◌==◌, [], ◌∷◌, ℕ, Bool, true, false, not, nat_eq, find, List, Option, codes, length, option_map, option_to_list, is_some, ◌++◌, if◌then◌else◌}
use Rattle.std.specs.Cmp.Lexicographic.{pointwise}
use Rattle.std.specs.List.{list_any}
use Rattle.std.specs.Map.{lookup}
use Rattle.std.specs.Option.{option_map_or}
use Rattle.std.specs.Ordering.{int_cmp, is_lt, ordering_then}
use Rattle.std.specs.Str.{bytes_eq}
use Rattle.std.specs.declared.cmp.Ordering.{Ordering}
use Rattle.sp_base.specs.Texts.{Segments, Text}
use Rattle.sp_base.specs.Names.{by_name}
use Rattle.sp_base.specs.Paths.{is_path, parent_of, path_in, seg_ok, text_of}
use Rattle.resource_tree.specs.declared.nodes.Node.{Node}
use Rattle.resource_tree.specs.Content.{Content, kid, node_at, prop_at, same_path}
use Rattle.sp_base.specs.Properties.{value_texts}
use Rattle.url_maps.specs.VanityPaths.{order_of, with_slash}
use Rattle.url_maps.specs.PatternRows.{ArePatterns}
use Rattle.url_maps.specs.declared.patterns.PatternNode.{PatternNode}

-- texts, and the paths that claim each
abbrev pub ClaimRows : Type 0
ClaimRows = List (List ℕ × List Segments)

-- the paths that claim a text
abbrev pub claimants : ClaimRows → List ℕ → List Segments
claimants rows text = option_map_or (λ paths. paths) (lookup (bytes_eq text) rows) []

-- no text of more bytes is claimed
abbrev pub ClaimsAreWithin : ℕ → ClaimRows → Type 0
ClaimsAreWithin longest rows = (text : List ℕ) → longest < length text → claimants rows text ≡ []

-- the text spells a node's alias, in the place of its name
abbrev pub spells_alias : Segments → List ℕ → List ℕ → Bool
spells_alias path text alias = seg_ok alias && pointwise nat_eq text (text_of (kid (parent_of path) alias))

-- whether a node at a path, which isn't the root's, claims a text as its alias
unfoldable pub node_claims_alias : Segments → Node → List ℕ → Bool
node_claims_alias path node text = not (length path == 0) && list_any (spells_alias path text) (value_texts (prop_at node (codes "sling:alias")))

-- the text spells a vanity path, which reads as a path
abbrev pub spells_vanity_path : List ℕ → List ℕ → Bool
spells_vanity_path text word = is_some (path_in text) && pointwise nat_eq text (with_slash word)

-- whether a node claims a text as its vanity path
unfoldable pub node_claims_vanity_path : Node → List ℕ → Bool
node_claims_vanity_path node text = list_any (spells_vanity_path text) (value_texts (prop_at node (codes "sling:vanityPath")))

-- the same of the node at a path of a tree, if there is one
unfoldable pub claims_alias : Content → Segments → List ℕ → Bool
claims_alias tree path text = option_map_or (λ node. node_claims_alias path node text) (node_at tree path) false

-- and so for vanity paths
unfoldable pub claims_vanity_path : Content → Segments → List ℕ → Bool
claims_vanity_path tree path text = option_map_or (λ node. node_claims_vanity_path node text) (node_at tree path) false

-- the claims with one path's more, on each text of a test
abbrev pub AddsClaims : Segments → (List ℕ → Bool) → ClaimRows → ClaimRows → Type 0
AddsClaims path test old new = (text : List ℕ) (q : Segments) → list_any (same_path q) (claimants new text) ≡ (list_any (same_path q) (claimants old text) || (same_path q path && test text))

-- the claims are those of the tree, and no other
abbrev pub AreClaims : (Segments → List ℕ → Bool) → ClaimRows → Type 0
AreClaims claims rows = (text : List ℕ) (path : Segments) → list_any (same_path path) (claimants rows text) ≡ claims path text

-- ---- aliases: of the siblings that claim a text the first in their order counts

-- whether the node that a look-up has at a path claims a text as its alias
abbrev pub claims_by : (Segments → Option Node) → Segments → List ℕ → Bool
claims_by at path text = is_path path && option_map_or (λ node. node_claims_alias path node text) (at path) false

-- the kids of the node that a look-up has at a path, in their order
abbrev pub kids_by : (Segments → Option Node) → Segments → List Text
kids_by at path = option_map_or (λ node. node.kids) (at path) []

-- the first kid of a node that claims a text
abbrev pub first_claimant : (Segments → Option Node) → Segments → List ℕ → Option Segments
first_claimant at parent text = option_map (kid parent) (find (λ name. claims_by at (kid parent name) text) (kids_by at parent))

-- the text of each path has the first of its siblings that claims it, and no other
abbrev pub NamesFirst : (Segments → Option Node) → ClaimRows → Type 0
NamesFirst at rows = (path : Segments) → is_path path ≡ true → 0 < length path → claimants rows (text_of path) ≡ option_to_list (first_claimant at (parent_of path) (text_of path))

-- ---- vanity paths: of the nodes that claim a text the one before all others leads them

-- the order of nodes with one vanity path, where a look-up has the nodes
abbrev pub cmp_by : (Segments → Option Node) → Segments → Segments → Ordering
cmp_by at path other = ordering_then (int_cmp (order_of (at other)) (order_of (at path))) (by_name (text_of path) (text_of other))

-- none of some paths is before one in that order
abbrev pub IsLeader : (Segments → Option Node) → List Segments → Segments → Type 0
IsLeader at paths first = (other : Segments) → list_any (same_path other) paths ≡ true → is_lt (cmp_by at other first) ≡ false

-- the first of some paths, if there is any, is one before which none of them is
abbrev pub IsLed : (Segments → Option Node) → List Segments → Type 0
IsLed at [] = ⊤
IsLed at (first ∷ paths) = IsLeader at (first ∷ paths) first

-- the claimants of each text are led
abbrev pub AreLed : (Segments → Option Node) → ClaimRows → Type 0
AreLed at rows = (text : List ℕ) → IsLed at (claimants rows text)

-- ---- the index

-- the claimants of texts, and for how many more texts there is room
pub record Table : Type 0 where
  pub rows : ClaimRows
  pub room : ℕ

-- by their texts the siblings that are named by an alias, and the nodes with a vanity path; and the nodes with a pattern
pub record Index : Type 0 where
  pub aliases : Table
  pub vanity_paths : Table
  pub patterns : List PatternNode

-- The index is the tree's.
pub record IsIndexOf (tree : Content) (index : Index) : Type 0 where
  pub aliases : NamesFirst (node_at tree) index.aliases.rows
  pub vanity_paths : AreClaims (claims_vanity_path tree) index.vanity_paths.rows
  pub leaders : AreLed (node_at tree) index.vanity_paths.rows
  pub patterns : ArePatterns (node_at tree) index.patterns

-- the texts that are so are these
abbrev pub AreTextsThat : (Text → Bool) → List Text → Type 0
AreTextsThat is_so texts = (t : Text) → list_any (bytes_eq t) texts ≡ is_so t

-- one more path claims the text, the last of them, and those of other texts are as before
abbrev pub AddsClaimant : Text → Segments → ClaimRows → ClaimRows → Type 0
AddsClaimant text path old new = (t : Text) → claimants new t ≡ (if bytes_eq text t then claimants old t ++ path ∷ [] else claimants old t)
