-- The content that bytes stand for as JSON (RFC 8259), or the first fault that they have.
use Rattle.std.specs.Prelude.{◌≡◌, ℕ, suc, List, [], ◌∷◌, length, Bool, ◌||◌, nat_lt, if◌then◌else◌, Option, Some, None, Result, Ok, Err}
use Rattle.std.specs.FinMap.Entries.{put}
use Rattle.std.specs.List.{list_any}
use Rattle.std.specs.Str.{is_utf8}
use Rattle.sp_base.specs.Texts.{Segments, Text}
use Rattle.serde_json.specs.Data.{Data, object, Members}
use Rattle.serde_json.specs.Read.{read}
use Rattle.sp_base.specs.Paths.{most_segments}
use Rattle.resource_tree.specs.Content.{Content, by_path, most_nodes}
use Rattle.content_json.specs.declared.fault.Cause.{Cause}
use Rattle.content_json.specs.declared.fault.Cause.TheVariants as cause
use Rattle.content_json.specs.declared.fault.Found.{Found}
use Rattle.content_json.specs.declared.fault.ContentFault.{ContentFault}
use Rattle.content_json.specs.declared.fault.ContentFault.TheVariants.{NotJson, NotObject, BadName, BadNumber, MixedArray, BadOrder, TooBig}
use Rattle.content_json.specs.Faults.{fault_in}
use Rattle.content_json.specs.Nodes.{nodes_in, count_below, is_deeper_below}

-- the JSON that bytes are (RFC 8259), if they are
abbrev pub json_of : List ℕ → Option Data
json_of bytes = if is_utf8 bytes then read bytes else None

-- more than 200,000 nodes, the root among them, or one below 64 levels
abbrev pub is_too_big : Members → Bool
is_too_big ms = nat_lt most_nodes (suc (count_below ms)) || is_deeper_below most_segments ms

-- the refusal for what was found against a value at a path
abbrev pub refused_by : Cause → Segments → ContentFault
refused_by cause.BadName path = BadName path
refused_by cause.BadNumber path = BadNumber path
refused_by cause.MixedArray path = MixedArray path
refused_by cause.BadOrder path = BadOrder path

-- the finite map of nodes at their paths
abbrev pub map_of : Content → Content
map_of [] = []
map_of (e ∷ nodes) = put by_path e.0 e.1 (map_of nodes)

-- so it is, by the paths of the tree: more than 200,000 of them, or one of more than 64 segments
abbrev pub exceeds_limits : Content → Bool
exceeds_limits tree = nat_lt most_nodes (length tree) || list_any (λ e. nat_lt most_segments (length e.0)) tree

-- a fault is told before the size is looked at
abbrev pub unless_found : Option Found → Members → Result Content ContentFault
unless_found (Some found) ms = Err (refused_by found.cause found.place)
unless_found None ms = if is_too_big ms then Err TooBig else Ok (map_of (nodes_in [] (object ms)))

-- the content of a JSON value, which must be an object
abbrev pub content_in : Option Data → Result Content ContentFault
content_in None = Err NotJson
content_in (Some (object ms)) = unless_found (fault_in (object ms)) ms
content_in _ = Err NotObject

-- the content of bytes
abbrev pub content : List ℕ → Result Content ContentFault
content bytes = content_in (json_of bytes)

-- the bytes hold the nodes of the members, unless these are too many or too deep
abbrev pub IsContentUnlessTooBig : Text → Members → Type 0
IsContentUnlessTooBig bytes members =
    content bytes ≡ (if exceeds_limits (map_of (nodes_in [] (object members))) then Err TooBig else Ok (map_of (nodes_in [] (object members))))
