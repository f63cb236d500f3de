-- Media types as they are kept and sent (RFC 9110, section 8.3.1).
use Rattle.std.specs.Prelude.{◌&&◌, ℕ, Bool, nat_le, List, length}
use Rattle.std.specs.List.{list_all}
use Rattle.sp_base.specs.Bytes.{is_printable_ascii}
use Rattle.sp_base.specs.Limits.{longest_media_type}

-- a media type, or none: at most `longest_media_type` printable bytes of ASCII
abbrev pub is_kind : List ℕ → Bool
is_kind kind = nat_le (length kind) longest_media_type && list_all is_printable_ascii kind
