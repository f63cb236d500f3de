-- What a publisher keeps beside its tree: the readings of scripts, and the indexes of mappings and of scripts. What is answered needs none of it: only private types and functions and proofs cite this.
use Rattle.std.specs.Prelude.{◌≡◌, ◌⊎◌, Bool, false, List, Option, Some, None, IfSome, option_map}
use Rattle.std.specs.Map.{lookup}
use Rattle.sp_base.specs.Texts.{Segments}
use Rattle.resource_tree.specs.Content.{Content, same_path}
use Rattle.resource_tree.specs.Patches.{PatchEntries, entry_at}
use Rattle.script_rank.specs.Ranking.{script_text}
use Rattle.script_rank.specs.Index as script_index
use Rattle.script_rank.specs.Noting.{text_path}
use Rattle.url_maps.specs.Claims as map_index
use Rattle.publisher.specs.declared.kept_index.Indexes.{Indexes}
use Rattle.publisher.specs.declared.templates.Reading.{Reading}
use Rattle.publisher.specs.Readings.{reading_of}

-- readings at the paths of scripts
abbrev pub KeptReadings : Type 0
KeptReadings = List (Segments × Reading)

-- the reading that is kept at a path
abbrev pub reading_at : KeptReadings → Segments → Option Reading
reading_at kept path = lookup (same_path path) kept

-- each reading that is kept is that of the script at its path
abbrev pub AreReadings : Content → KeptReadings → Type 0
AreReadings tree kept = (path : Segments) (reading : Reading) → reading_at kept path ≡ Some reading
    → option_map reading_of (script_text tree path) ≡ Some reading

-- no reading is kept that wasn't before
abbrev pub AreAmong : KeptReadings → KeptReadings → Type 0
AreAmong old new = (path : Segments) (reading : Reading) → reading_at new path ≡ Some reading → reading_at old path ≡ Some reading

-- no reading is kept of a script at whose text a patch has something
abbrev pub AreUnpatched : PatchEntries → KeptReadings → Type 0
AreUnpatched patch kept = (path : Segments) (reading : Reading) → reading_at kept path ≡ Some reading → entry_at patch (text_path path) ≡ None

-- no reading is kept of a script whose text stands at this path
abbrev pub IsTextUnread : Segments → KeptReadings → Type 0
IsTextUnread path kept = (script : Segments) (reading : Reading) → reading_at kept script ≡ Some reading → same_path (text_path script) path ≡ false

-- no reading is kept but those before and this one
abbrev pub AddsAtMost : KeptReadings → Segments → Reading → KeptReadings → Type 0
AddsAtMost old script reading new = (path : Segments) (kept : Reading) → reading_at new path ≡ Some kept
    → (reading_at old path ≡ Some kept) ⊎ ((path ≡ script) × (kept ≡ reading))

-- each of the indexes is the tree's
pub record AreIndexesOf (tree : Content) (indexes : Indexes) : Type 0 where
  pub mappings : map_index.IsIndexOf tree indexes.mappings
  pub scripts : script_index.IsScriptIndexOf tree indexes.scripts

-- indexes that are kept are the tree's
abbrev pub AreIndexesFor : Content → Option Indexes → Type 0
AreIndexesFor tree indexes = IfSome indexes (AreIndexesOf tree)

-- a tree, and whether its indexes are there
pub record IndexedTree : Type 0 where
  pub tree : Content
  pub is_indexed : Bool
