-- What a patch of a tree changes in its index.
-- `claimants_over` is needed by private functions and proofs alone.
use Rattle.std.specs.Prelude.{◌≡◌, ◌≤◌, ◌<◌, ℕ, Bool, true, false, List, Option, None, length, option_to_list}
use Rattle.std.specs.List.{list_any}
use Rattle.std.specs.Map.{lookup}
use Rattle.std.specs.Option.{option_map_or}
use Rattle.std.specs.Str.{bytes_eq}
use Rattle.sp_base.specs.Texts.{Segments}
use Rattle.sp_base.specs.Paths.{is_path, parent_of, text_of}
use Rattle.resource_tree.specs.declared.nodes.Node.{Node}
use Rattle.resource_tree.specs.Content.{Content, node_at, same_path}
use Rattle.resource_tree.specs.Patches as patches
use Rattle.url_maps.specs.PatternRows.{ArePatternsAfter}
use Rattle.url_maps.specs.declared.patterns.PatternNode.{PatternNode}
use Rattle.url_maps.specs.Claims.{AreLed, Index, ClaimRows, claimants, claims_vanity_path, first_claimant, node_claims_vanity_path, IsIndexOf}

-- texts whose claimants change, each with those after the change: of an alias the first, of a vanity path all, led by the one that is named; and all nodes
-- with a pattern after the change, where it may change any
pub record Change : Type 0 where
  pub aliases : ClaimRows
  pub vanity_paths : ClaimRows
  pub patterns : Option (List PatternNode)

-- the claimants of a text with a change over them
abbrev pub claimants_over : ClaimRows → ClaimRows → List ℕ → List Segments
claimants_over changed rows text = option_map_or (λ paths. paths) (lookup (bytes_eq text) changed) (claimants rows text)

-- whether a node claims a text as its vanity path, in a tree with a patch over it
abbrev pub patched_vanity_path : Content → patches.PatchEntries → Segments → List ℕ → Bool
patched_vanity_path tree patch path text = option_map_or (λ node. node_claims_vanity_path node text) (patches.patching_at tree patch path) false

-- The rows lead from claims to others: where a text has a row, those in it claim the text after, and no others; where it has none, those claim it who did before.
abbrev pub AreChanged : (Segments → List ℕ → Bool) → (Segments → List ℕ → Bool) → ClaimRows → Type 0
AreChanged before after changed = (text : List ℕ) (path : Segments) → option_map_or (list_any (same_path path)) (lookup (bytes_eq text) changed) (before path text) ≡ after path text

-- The rows lead from the first siblings of a look-up to those of another: the text of each path has the first that claims it after, where it has a
-- row, and else the first is the same before and after.
abbrev pub LeadsOn : (Segments → Option Node) → (Segments → Option Node) → ClaimRows → Type 0
LeadsOn before after changed = (path : Segments) → is_path path ≡ true → 0 < length path
    → option_map_or (λ paths. paths) (lookup (bytes_eq (text_of path)) changed) (option_to_list (first_claimant before (parent_of path) (text_of path))) ≡ option_to_list (first_claimant after (parent_of path) (text_of path))

-- The nodes that claim a text without a row are after a patch as before it.
abbrev pub LeavesOthers : Content → patches.PatchEntries → ClaimRows → Type 0
LeavesOthers tree patch changed = (text : List ℕ) (path : Segments) → lookup (bytes_eq text) changed ≡ None → claims_vanity_path tree path text ≡ true → patches.patching_at tree patch path ≡ node_at tree path

-- The change is the one that a patch of a tree makes.
pub record IsChangeOf (tree : Content) (patch : patches.PatchEntries) (change : Change) : Type 0 where
  pub aliases : LeadsOn (node_at tree) (patches.patching_at tree patch) change.aliases
  pub vanity_paths : AreChanged (claims_vanity_path tree) (patched_vanity_path tree patch) change.vanity_paths
  pub others : LeavesOthers tree patch change.vanity_paths
  pub leaders : AreLed (patches.patching_at tree patch) change.vanity_paths
  pub patterns : ArePatternsAfter (node_at tree) (patches.patching_at tree patch) change.patterns

-- The index has room for the change.
abbrev pub HasRoom : Index → Change → Type 0
HasRoom index change = (length change.aliases ≤ index.aliases.room) × (length change.vanity_paths ≤ index.vanity_paths.room)

-- The change is taken: of each tree, the index of what a patch leaves of it, where this is its change by the patch.
abbrev pub TakesChange : Change → Index → Index → Type 0
TakesChange change old new = (tree after : Content) (patch : patches.PatchEntries) → IsIndexOf tree old → IsChangeOf tree patch change
    → ((path : Segments) → node_at after path ≡ patches.patching_at tree patch path) → IsIndexOf after new
