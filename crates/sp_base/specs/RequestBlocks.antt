-- How a request lies in memory. Private functions and proofs alone speak of this.
use Rattle.std.specs.Prelude.{◌≡◌, ◌≤◌, ℕ, if◌then◌else◌, List, Option, Some, None, All, IsUtf8, length, option_copied, take, drop, slice_range}
use Rattle.sp_base.specs.Fields.{IsFieldWithin}
use Rattle.sp_base.specs.declared.field.FieldSpan.{FieldSpan}
use Rattle.sp_base.specs.declared.request.BlockEnds.{BlockEnds}
use Rattle.sp_base.specs.declared.request.LentHead.{LentHead}
use Rattle.sp_base.specs.Requests.{request_line}

-- the host stands after the request line
abbrev pub host_in_block : List ℕ → BlockEnds → List ℕ
host_in_block block ends = slice_range block ends.line ends.host

-- the query stands after the host, where there is one
abbrev pub query_in : List ℕ → BlockEnds → Option (List ℕ)
query_in block ends = if ends.has_query then Some (slice_range block ends.host ends.query) else None

-- the parts of a block stand one after another, texts where texts are lent, and the values of the fields after them
pub record IsLaidOut (block : List ℕ) (ends : BlockEnds) (fields : List FieldSpan) : Type 0 where
  pub method_fits : ends.method ≤ ends.line
  pub line_fits : ends.line ≤ ends.host
  pub host_fits : ends.host ≤ ends.query
  pub query_fits : ends.query ≤ length block
  pub fields_fit : All (IsFieldWithin (length (drop ends.query block))) fields
  pub method_is_text : IsUtf8 (take ends.method block)
  pub line_is_text : IsUtf8 (take ends.line block)
  pub host_is_text : IsUtf8 (host_in_block block ends)

-- the block holds what the head says, but for its fields
pub record ArePushed (block : List ℕ) (ends : BlockEnds) (head : LentHead) : Type 0 where
  pub method_is : take ends.method block ≡ head.method.now
  pub line_is : take ends.line block ≡ request_line head.method.now head.target.now head.minor
  pub host_is : host_in_block block ends ≡ head.host.now
  pub method_is_text : IsUtf8 (take ends.method block)
  pub line_is_text : IsUtf8 (take ends.line block)
  pub host_is_text : IsUtf8 (host_in_block block ends)
  pub query_is : query_in block ends ≡ option_copied head.query
  pub method_fits : ends.method ≤ ends.line
  pub line_fits : ends.line ≤ ends.host
  pub host_fits : ends.host ≤ ends.query
  pub ends_there : ends.query ≡ length block
