-- For the making of an index and of a change alone: scripts by the nodes that hold their texts, and how far a change has come.
use Rattle.std.specs.Prelude.{◌≡◌, ◌-◌, ◌&&◌, ◌||◌, Bool, false, not, is_some, nat_eq, List, Option, codes, length, slice_get}
use Rattle.std.specs.Cmp.Lexicographic.{pointwise}
use Rattle.std.specs.Option.{option_map_or}
use Rattle.sp_base.specs.Texts.{Segments, Text}
use Rattle.sp_base.specs.Properties.{text_in}
use Rattle.resource_tree.specs.Content.{kid, name_of, same_path}
use Rattle.resource_tree.specs.declared.nodes.Node.{Node}
use Rattle.resource_tree.specs.declared.patch.PatchNode.{PatchNode}
use Rattle.resource_tree.specs.declared.patch.PatchNode.TheVariants as patch_node
use Rattle.script_rank.specs.Index.{ScriptPathsChange, has_path}
use Rattle.script_rank.specs.Ranking.{is_script_name}

-- where the text of a script stands
abbrev pub text_path : Segments → Segments
text_path path = kid path (codes "jcr:content")

-- whether there is a name that may be a script's
abbrev pub is_named_script : Option Text → Bool
is_named_script name = option_map_or is_script_name name false

-- a path at which the text of a script may stand: the segment before the last names the script
abbrev pub is_text_path : Segments → Bool
is_text_path path = pointwise nat_eq (name_of path) (codes "jcr:content") && is_named_script (slice_get path (length path - 2))

-- whether a node holds a script's text
unfoldable pub has_data_text : Node → Bool
has_data_text node = is_some (text_in node.props (codes "jcr:data"))

-- the same, if there is a node
abbrev pub has_text_there : Option Node → Bool
has_text_there node = option_map_or has_data_text node false

-- the same of what an entry of a patch leaves
abbrev pub leaves_text : PatchNode → Bool
leaves_text (patch_node.Node node) = has_data_text node
leaves_text patch_node.Gone = false

-- whether the node at a path holds the text of a script
abbrev pub is_script_text : Segments → Node → Bool
is_script_text path node = is_text_path path && has_data_text node

-- the same, if there is a node
abbrev pub is_script_text_there : Segments → Option Node → Bool
is_script_text_there path node = is_text_path path && has_text_there node

-- the same of what an entry of a patch leaves at its path
abbrev pub leaves_script_text : Segments → PatchNode → Bool
leaves_script_text path row = is_text_path path && leaves_text row

-- paths with one more: that of the script whose text stands at a path, if a test holds
abbrev pub AddsScript : Segments → Bool → List Segments → List Segments → Type 0
AddsScript at holds old new = (path : Segments) → has_path new path ≡ (has_path old path || (same_path (text_path path) at && holds))

-- a change with one entry's more, from whether a text was at its path to whether one is there after it
pub record NotesScriptEntry (at : Segments) (before after : Bool) (old new : ScriptPathsChange) : Type 0 where
  pub added : AddsScript at (after && not before) old.added new.added
  pub gone : AddsScript at (before && not after) old.gone new.gone

-- how far a change has come with one entry more of a patch, at a path where this node is, if any
abbrev pub NotesPatchedRow : Segments → Option Node → PatchNode → ScriptPathsChange → ScriptPathsChange → Type 0
NotesPatchedRow path node row old new = NotesScriptEntry path (is_script_text_there path node) (leaves_script_text path row) old new
