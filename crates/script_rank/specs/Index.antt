-- The scripts of a tree as a list, and what a patch of the tree changes of it.
use Rattle.std.specs.Prelude.{◌≡◌, ◌≤◌, ◌&&◌, ◌||◌, ℕ, Bool, not, List, length}
use Rattle.std.specs.List.{list_any}
use Rattle.std.specs.List.Sorted.{IsStrictlySortedBy}
use Rattle.sp_base.specs.Texts.{Segments}
use Rattle.sp_base.specs.Paths.{by_path}
use Rattle.resource_tree.specs.Content.{Content, IsGood, node_at, same_path}
use Rattle.resource_tree.specs.Patches.{PatchEntries, patching_at}
use Rattle.script_rank.specs.Ranking.{is_script}

-- whether a path is among some
abbrev pub has_path : List Segments → Segments → Bool
has_path paths path = list_any (same_path path) paths

-- the paths of scripts, and for how many more there is room
pub record ScriptPaths : Type 0 where
  pub scripts : List Segments
  pub room : ℕ

-- The index lists the scripts of the tree, and nothing else, in the order of their paths, each once. Paths are ordered segment by segment, and
-- segments by their bytes.
pub record IsScriptIndexOf (tree : Content) (index : ScriptPaths) : Type 0 where
  pub order : IsStrictlySortedBy by_path index.scripts
  pub scripts : (path : Segments) → has_path index.scripts path ≡ is_script tree path

-- the paths that become those of scripts, and those of the scripts that are gone
pub record ScriptPathsChange : Type 0 where
  pub added : List Segments
  pub gone : List Segments

-- whether there is a script at a path after a change
abbrev pub is_script_after : ScriptPathsChange → Segments → Bool → Bool
is_script_after change path before = has_path change.added path || (before && not (has_path change.gone path))

-- each node of the second tree is that of the first with the patch over it
abbrev pub HasPatchOver : Content → PatchEntries → Content → Type 0
HasPatchOver tree patch after = (path : Segments) → node_at after path ≡ patching_at tree patch path

-- The change is the one that a patch of a tree makes: it leads from the scripts of the tree to those of each tree that has the patch over it.
pub record IsScriptChangeOf (tree : Content) (patch : PatchEntries) (change : ScriptPathsChange) : Type 0 where
  pub scripts : (after : Content) → IsGood after → HasPatchOver tree patch after
      → (path : Segments) → is_script after path ≡ is_script_after change path (is_script tree path)

-- The index has room for the change.
abbrev pub HasScriptRoom : ScriptPaths → ScriptPathsChange → Type 0
HasScriptRoom index change = length change.added ≤ index.room

-- The index of a tree becomes, with the change that a patch of the tree makes, that of each tree that has the patch over it.
abbrev pub TakesScriptChange : ScriptPathsChange → ScriptPaths → ScriptPaths → Type 0
TakesScriptChange change old new = (tree after : Content) (patch : PatchEntries) → IsScriptIndexOf tree old → IsScriptChangeOf tree patch change → IsGood after
    → HasPatchOver tree patch after → IsScriptIndexOf after new
