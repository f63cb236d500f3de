-- The content of a resource that is a file (JCR 2.0, nt:file), and its media type.
use Rattle.std.specs.Prelude.{◌==◌, ◌&&◌, ◌-◌, ℕ, Bool, not, if◌then◌else◌, List, Option, Some, None, option_map, codes, length, slice_index}
use Rattle.sp_base.specs.MediaTypes.{is_kind}
use Rattle.sp_base.specs.Properties.{text_in}
use Rattle.sp_base.specs.Texts.{Properties}
use Rattle.resource_tree.specs.Seen.{Resource, Seen}
use Rattle.get_servlet.specs.declared.kids.Kid.{Kid}
use Rattle.get_servlet.specs.declared.streams.Stream.{Stream}
use Rattle.get_servlet.specs.Rendering.{lists_kid, kid_of_name}

-- a text that may be sent as a media type: 1 to `longest_media_type` printable bytes, the first and the last no spaces
abbrev pub is_media_type : List ℕ → Bool
is_media_type text = not (length text == 0) && (is_kind text
    && (not (slice_index text 0 == 32) && not (slice_index text (length text - 1) == 32)))

-- the media type of a file whose kid has this text as its type
abbrev pub media_type_of : Option (List ℕ) → List ℕ
media_type_of None = codes "application/octet-stream"
media_type_of (Some text) = if is_media_type text then text else codes "application/octet-stream"

-- a body with its media type
abbrev pub make_stream : Option (List ℕ) → List ℕ → Stream
make_stream kind body = record { kind = media_type_of kind; body = body }

-- the stream of these properties
abbrev pub stream_in : Properties → Option Stream
stream_in props = option_map (make_stream (text_in props (codes "jcr:mimeType"))) (text_in props (codes "jcr:data"))

-- the stream of a kid's properties, where there is a kid
abbrev pub kid_stream : Option Kid → Option Stream
kid_stream None = None
kid_stream (Some kid) = stream_in kid.res.props

-- the stream of the kid `jcr:content`, where the list of kids has it
unfoldable pub stream_of : Seen → Resource → Option Stream
stream_of seen res = if lists_kid res (codes "jcr:content") then kid_stream (kid_of_name seen res.path (codes "jcr:content")) else None
