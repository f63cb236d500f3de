-- For the making of an index and of a change alone: how far the first siblings with an alias are put into rows.
use Rattle.std.specs.Prelude.{⊤, ◌≡◌, ◌≤◌, ◌<◌, ◌&&◌, ◌||◌, ◌==◌, ◌-◌, ℕ, Bool, true, false, not, is_some, if◌then◌else◌, codes, drop, filter, length, take, List, [], ◌∷◌, Option, Some, None, option_to_list}
use Rattle.std.specs.List.{list_any}
use Rattle.std.specs.Option.{option_map_or}
use Rattle.sp_base.specs.Texts.{Segments, Text}
use Rattle.sp_base.specs.Paths.{is_path, parent_of, text_of}
use Rattle.resource_tree.specs.declared.nodes.Node.{Node}
use Rattle.resource_tree.specs.declared.patch.PatchNode.{PatchNode}
use Rattle.resource_tree.specs.Content.{Content, kid, node_at, prop_at, same_path}
use Rattle.resource_tree.specs.Patches as patches
use Rattle.url_maps.specs.declared.siblings.Naming.{Naming}
use Rattle.url_maps.specs.declared.siblings.Naming.TheVariants.{First, Nobody}
use Rattle.url_maps.specs.Claims.{ClaimRows, claimants, first_claimant, claims_by}
use Rattle.url_maps.specs.Noting.{has_row}
use Rattle.sp_base.specs.Properties.{value_texts}

-- the paths of a list, or those of another where it has none
abbrev pub or_else : List Segments → List Segments → List Segments
or_else [] others = others
or_else (path ∷ paths) others = path ∷ paths

-- whether the first kid that claims a text is to be named
abbrev pub names_first : Naming → Bool
names_first First = true
names_first Nobody = false

-- a path, where it is to be named
abbrev pub path_if : Bool → Segments → Option Segments
path_if names path = if names then Some path else None

-- Texts get a row each, with a path where they have none yet.
pub record PutsRows (path : Option Segments) (texts : List ℕ → Bool) (old new : ClaimRows) : Type 0 where
  pub paths : (text : List ℕ) → claimants new text ≡ or_else (claimants old text) (if texts text then option_to_list path else [])
  pub has : (text : List ℕ) → has_row new text ≡ (has_row old text || texts text)

-- The texts that a look-up's kids of a node claim get a row each, with the first of these kids where it is to be named and they have none yet.
pub record PutsKids (at : Segments → Option Node) (names : Bool) (parent : Segments) (old new : ClaimRows) : Type 0 where
  pub paths : (text : List ℕ) → claimants new text ≡ or_else (claimants old text) (if names then option_to_list (first_claimant at parent text) else [])
  pub has : (text : List ℕ) → has_row new text ≡ (has_row old text || is_some (first_claimant at parent text))

-- The same of the kids of some nodes.
pub record PutsFamilies (at : Segments → Option Node) (names : Bool) (parents : List Segments) (old new : ClaimRows) : Type 0 where
  pub paths : (path : Segments) → is_path path ≡ true → 0 < length path
      → claimants new (text_of path) ≡ or_else (claimants old (text_of path)) (if names && list_any (same_path (parent_of path)) parents then option_to_list (first_claimant at (parent_of path) (text_of path)) else [])
  pub has : (path : Segments) → is_path path ≡ true → 0 < length path
      → has_row new (text_of path) ≡ (has_row old (text_of path) || (list_any (same_path (parent_of path)) parents && is_some (first_claimant at (parent_of path) (text_of path))))

-- The parent of the first of some paths is among others, where they are more than one.
abbrev pub HasParent : List Segments → List Segments → Type 0
HasParent parents [] = ⊤
HasParent parents (path ∷ []) = ⊤
HasParent parents (path ∷ other ∷ paths) = list_any (same_path (parent_of path)) parents ≡ true

-- ---- the nodes whose kids with an alias a patch changes, or the aliases of whose kids

-- the kids of a node, if there is one
abbrev pub kids_if : Option Node → List Text
kids_if node = option_map_or (λ n. n.kids) node []

-- the aliases of a node, if there is one
abbrev pub alias_words : Option Node → List Text
alias_words node = option_map_or (λ n. value_texts (prop_at n (codes "sling:alias"))) node []

-- whether a node has an alias
abbrev pub is_aliased : Option Node → Bool
is_aliased node = not (length (alias_words node) == 0)

-- whether a node's kid of a name has an alias
abbrev pub is_aliased_kid : Content → Segments → List ℕ → Bool
is_aliased_kid tree path name = is_path (kid path name) && is_aliased (node_at tree (kid path name))

-- the kids with an alias among some names
abbrev pub aliased_kids : Content → Segments → List Text → List Text
aliased_kids tree path names = filter (is_aliased_kid tree path) names

-- two lists begin with the same n texts
pub record AreSameFirst (n : ℕ) (texts others : List Text) : Type 0 where
  pub within : n ≤ length texts
  pub in_other : n ≤ length others
  pub same : take n texts ≡ take n others

-- and end with them
pub record AreSameLast (n : ℕ) (texts others : List Text) : Type 0 where
  pub within : n ≤ length texts
  pub in_other : n ≤ length others
  pub same : drop (length texts - n) texts ≡ drop (length others - n) others

-- An entry's node is among the parents unless the entry leaves its kids with an alias, and its parent unless it leaves its aliases.
pub record IsSettled (tree : Content) (path : Segments) (row : PatchNode) (parents : List Segments) : Type 0 where
  pub kids : list_any (same_path path) parents ≡ false → aliased_kids tree path (kids_if (node_at tree path)) ≡ aliased_kids tree path (kids_if (patches.left_by (Some row) None))
  pub aliases : list_any (same_path (parent_of path)) parents ≡ false → alias_words (node_at tree path) ≡ alias_words (patches.left_by (Some row) None)

-- paths are kept, and maybe more are added
abbrev pub IsWithin : List Segments → List Segments → Type 0
IsWithin old new = (path : Segments) → list_any (same_path path) old ≡ true → list_any (same_path path) new ≡ true

-- where a node isn't among the parents, its kids that claim a text are the same before a patch and after it
abbrev pub KeepsOthers : Content → patches.PatchEntries → List Segments → Type 0
KeepsOthers tree patch parents = (parent : Segments) (text : List ℕ) → list_any (same_path parent) parents ≡ false → first_claimant (node_at tree) parent text ≡ first_claimant (patches.patching_at tree patch) parent text

-- the texts that the node at this path claims after a patch are put, by its path where it is named
abbrev pub PutsKid : Content → patches.PatchEntries → Segments → Bool → ClaimRows → ClaimRows → Type 0
PutsKid tree patch path names old new = PutsRows (path_if names path) (claims_by (patches.patching_at tree patch) path) old new
