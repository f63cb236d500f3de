-- For the making of a change alone: how far it has come.
use Rattle.std.specs.Prelude.{⊤, ◌≡◌, ◌||◌, ◌&&◌, ℕ, Bool, true, false, not, List, Option, Some, None, filter, is_none, is_some, ◌++◌, cond, option_to_list}
use Rattle.std.specs.List.{list_any}
use Rattle.std.specs.Map.{lookup}
use Rattle.std.specs.Option.{option_map_or}
use Rattle.std.specs.Str.{bytes_eq}
use Rattle.sp_base.specs.Texts.{Segments, Text}
use Rattle.resource_tree.specs.declared.nodes.Node.{Node}
use Rattle.resource_tree.specs.declared.patch.PatchNode.{PatchNode}
use Rattle.resource_tree.specs.Content.{same_path, Content}
use Rattle.resource_tree.specs.Patches as patches
use Rattle.url_maps.specs.Claims.{ClaimRows, IsLeader, IsLed, claimants, node_claims_vanity_path, Index, claims_vanity_path}

-- those of some paths at which a patch has nothing
abbrev pub untouched_paths : patches.PatchEntries → List Segments → List Segments
untouched_paths patch paths = filter (λ path. is_none (patches.entry_at patch path)) paths

-- the claimants of a text as a change has them so far
abbrev pub claimants_so_far : ClaimRows → patches.PatchEntries → ClaimRows → List ℕ → List Segments
claimants_so_far rows patch changed text = option_map_or (λ paths. paths) (lookup (bytes_eq text) changed) (untouched_paths patch (claimants rows text))

-- whether a path is the one, if there is one
abbrev pub is_at_some : Option Segments → Segments → Bool
is_at_some path q = option_map_or (same_path q) path false

-- whether a text has a row
abbrev pub has_row : ClaimRows → List ℕ → Bool
has_row changed text = is_some (lookup (bytes_eq text) changed)

-- Texts are noted, with more who claim them.
pub record Notes (rows : ClaimRows) (patch : patches.PatchEntries) (who : Segments → Bool) (texts : List ℕ → Bool) (old new : ClaimRows) : Type 0 where
  pub claims : (text : List ℕ) (q : Segments) → list_any (same_path q) (claimants_so_far rows patch new text) ≡ (list_any (same_path q) (claimants_so_far rows patch old text) || (who q && texts text))
  pub has : (text : List ℕ) → has_row new text ≡ (has_row old text || texts text)

-- The texts that the node at a path claims before a patch, and those that it claims after it, are noted.
pub record NotesEntry (rows : ClaimRows) (patch : patches.PatchEntries) (path : Segments) (before after : List ℕ → Bool) (old new : ClaimRows) : Type 0 where
  pub claims : (text : List ℕ) (q : Segments) → list_any (same_path q) (claimants_so_far rows patch new text) ≡ (list_any (same_path q) (claimants_so_far rows patch old text) || (same_path q path && after text))
  pub has : (text : List ℕ) → has_row new text ≡ (has_row old text || (before text || after text))

-- what the node that an entry leaves at a path claims
abbrev pub left_vanity_path : Segments → PatchNode → List ℕ → Bool
left_vanity_path path row text = option_map_or (λ node. node_claims_vanity_path node text) (patches.left_by (Some row) None) false

-- ---- the leaders

-- a path is among others, and none of them is before it
pub record IsFirstOf (at : Segments → Option Node) (paths : List Segments) (path : Segments) : Type 0 where
  pub among : list_any (same_path path) paths ≡ true
  pub first : IsLeader at paths path

-- those of some paths that are another one
abbrev pub others : Segments → List Segments → List Segments
others path paths = filter (λ q. not (same_path q path)) paths

-- The paths are the same, maybe in another order, and led.
pub record PutsLeaderFirst (at : Segments → Option Node) (old new : List Segments) : Type 0 where
  pub paths : (q : Segments) → list_any (same_path q) new ≡ list_any (same_path q) old
  pub led : IsLed at new

-- The same of a row, if there is one.
abbrev pub LeadsRow : (Segments → Option Node) → Option (List Segments) → Option (List Segments) → Type 0
LeadsRow at None None = ⊤
LeadsRow at None (Some new) = ⊥
LeadsRow at (Some old) None = ⊥
LeadsRow at (Some old) (Some new) = PutsLeaderFirst at old new

-- The same of each row.
abbrev pub LeadsRows : (Segments → Option Node) → ClaimRows → ClaimRows → Type 0
LeadsRows at old new = (text : List ℕ) → LeadsRow at (lookup (bytes_eq text) old) (lookup (bytes_eq text) new)

-- the vanity paths that an entry of a patch changes are noted
abbrev pub NotesVanityPaths : Index → Content → patches.PatchEntries → Segments → PatchNode → ClaimRows → ClaimRows → Type 0
NotesVanityPaths index tree patch path row old new = NotesEntry index.vanity_paths.rows patch path (claims_vanity_path tree path) (left_vanity_path path row) old new

-- the text is among these
abbrev pub is_one_of : List Text → Text → Bool
is_one_of texts t = list_any (bytes_eq t) texts

-- the paths of this text are these, and those of others are as before
abbrev pub PutsRow : Text → List Segments → ClaimRows → ClaimRows → Type 0
PutsRow text paths old new = (t : Text) → lookup (bytes_eq t) new ≡ cond (bytes_eq text t) (Some paths) (lookup (bytes_eq t) old)

-- the path, if there is one, is noted as the last that claims this text so far
abbrev pub NotesRow : ClaimRows → patches.PatchEntries → Text → Option Segments → ClaimRows → ClaimRows → Type 0
NotesRow rows patch text path old new = PutsRow text (claimants_so_far rows patch old text ++ option_to_list path) old new
