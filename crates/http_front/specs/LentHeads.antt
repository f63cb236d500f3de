-- What is lent of a head, as what it asks for. Only private functions and proofs cite this.
use Rattle.std.specs.Prelude.{◌==◌, ◌&&◌, ◌||◌, ℕ, Bool, List, codes, map, nat_eq, option_copied}
use Rattle.std.specs.List.{list_any}
use Rattle.std.specs.Cmp.Lexicographic.{pointwise}
use Rattle.http1.specs.Fields.{elements, has_option}
use Rattle.httparse.specs.declared.spans.RequestSpans.{RequestSpans}
use Rattle.httparse.specs.Spans.{span_bytes}
use Rattle.sp_base.specs.declared.field.FieldSpan.{FieldSpan}
use Rattle.sp_base.specs.Fields.{field_at}
use Rattle.sp_base.specs.Requests.{Request, request_line}
use Rattle.sp_base.specs.Texts.{Pairs}
use Rattle.http_front.specs.declared.head.LentAsked.{LentAsked}
use Rattle.http_front.specs.declared.target.LentTarget.{LentTarget}
use Rattle.http_front.specs.declared.target.Target.{Target}
use Rattle.http_front.specs.Heads.{AskedFields, request_with}

-- a target whose query is lent
abbrev pub target_by : LentTarget → Target
target_by target = record { path = target.path; slash = target.slash; query = option_copied target.query }

-- a head whose host and query are lent
abbrev pub asked_by : LentAsked → AskedFields
asked_by asked = record { host = asked.host.now; port = asked.port; target = target_by asked.target; body_length = asked.body_length }

-- the fields whose values stand at places of the bytes
abbrev pub fields_at : List ℕ → List FieldSpan → Pairs
fields_at bytes fields = map (field_at bytes) fields

-- a field in lower case that asks for the connection to close
abbrev pub is_closing_field : List ℕ × List ℕ → Bool
is_closing_field field = pointwise nat_eq field.0 (codes "connection") && has_option (codes "close") (elements field.1)

-- the connection closes, by fields in lower case
abbrev pub is_closing_by_name : ℕ → Pairs → Bool
is_closing_by_name minor fields = (minor == 0) || list_any is_closing_field fields

-- the request of a head that is these bytes, its parts at these places of them
abbrev pub request_by : List ℕ → RequestSpans → LentAsked → Pairs → Request
request_by bytes at asked fields =
    let method = span_bytes bytes at.method in
    let line = request_line method (span_bytes bytes at.path) at.version in
    request_with method line at.version (asked_by asked) fields (is_closing_by_name at.version fields)
