-- What a target says (RFC 3986, sections 2.1, 3.3 and 3.4; RFC 9112, section 3.2.1): the path that it names, and its query.
use Rattle.std.specs.Prelude.{◌+◌, ◌-◌, ◌==◌, ◌&&◌, ℕ, Bool, nat_lt, if◌then◌else◌, List, Option, Some, None, option_and_then, length, take, drop, position, slice_index}
use Rattle.std.specs.List.{before_first}
use Rattle.std.specs.Option.{option_map}
use Rattle.std.specs.Str.{is_utf8}
use Rattle.sp_base.specs.Texts.{Segments}
use Rattle.percent_encoding.specs.Percent.{percent_decode}
use Rattle.sp_base.specs.Paths.{path_in, unmangled_segs}
use Rattle.http_front.specs.declared.target.Target.{Target}

-- a `?` ends the path
abbrev pub is_question_mark : ℕ → Bool
is_question_mark b = b == 63

-- the query: what stands after the first `?` (RFC 3986, section 3.4)
abbrev pub query_of : List ℕ → Option (List ℕ)
query_of target = option_map (λ at. drop (at + 1) target) (position is_question_mark target)

-- The path of a target is what stands before its query. Each escape in it is the byte of its two digits; a `%` that begins
-- none, and any other byte, stands for itself (RFC 3986, section 2.1).
abbrev pub path_bytes : List ℕ → List ℕ
path_bytes target = percent_decode (before_first is_question_mark target)

-- the text ends in a slash, and isn't the slash alone
abbrev pub ends_in_slash : List ℕ → Bool
ends_in_slash text = nat_lt 1 (length text) && (slice_index text (length text - 1) == 47)

-- the text without that slash
abbrev pub without_slash : List ℕ → List ℕ
without_slash text = if ends_in_slash text then take (length text - 1) text else text

-- the text that bytes are, where they are UTF-8
abbrev pub utf8_text : List ℕ → Option (List ℕ)
utf8_text bytes = if is_utf8 bytes then Some bytes else None

-- the path that decoded bytes spell, where they spell one
abbrev pub path_of_bytes : List ℕ → Option Segments
path_of_bytes bytes = option_and_then (λ text. path_in (without_slash text)) (utf8_text bytes)

-- a target with this path
abbrev pub with_path : List ℕ → Segments → Target
with_path target path = record { path = unmangled_segs path; slash = ends_in_slash (path_bytes target); query = query_of target }

-- the first byte is a slash, as it stands (RFC 9112, section 3.2.1: the origin form)
abbrev pub begins_with_slash : List ℕ → Bool
begins_with_slash target = slice_index target 0 == 47

-- what a target says, or None where it is a bad one
abbrev pub target_of : List ℕ → Option Target
target_of target = if begins_with_slash target then option_map (with_path target) (path_of_bytes (path_bytes target)) else None
