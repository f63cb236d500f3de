-- What a whole request head asks for, and why one is refused (RFC 9110, RFC 9112).
-- `request_parts_at`, `AreWithin`, `AreTexts`, `within_limit` and `length_or_fault` are needed by private functions and proofs alone.
use Rattle.std.specs.Prelude.{◌≡◌, ◌==◌, ◌&&◌, ◌||◌, ℕ, Bool, false, nat_eq, nat_lt, if◌then◌else◌, List, [], ◌∷◌, Option, Some, None, option_and_then, option_map, Result, Ok, Err, All, IsUtf8, codes, length, map, unwrap_or}
use Rattle.std.specs.List.{count_by, find}
use Rattle.std.specs.Cmp.Lexicographic.{pointwise}
use Rattle.std.specs.Option.{is_none, is_some}
use Rattle.std.specs.Str.{str_to_ascii_lowercase}
use Rattle.http_header.specs.FieldName.{IsFieldName}
use Rattle.httparse.specs.Grammar.{RequestHead}
use Rattle.httparse.specs.declared.spans.HeaderSpan.{HeaderSpan}
use Rattle.httparse.specs.declared.spans.RequestSpans.{RequestSpans}
use Rattle.httparse.specs.Spans.{IsWithin, IsHeaderWithin, header_bytes, name_and_value, span_bytes}
use Rattle.http1.specs.Text.{eq_ignore_case}
use Rattle.http1.specs.Fields.{elements_named, has_option}
use Rattle.sp_base.specs.Requests.{Request, request_line}
use Rattle.sp_base.specs.Fields.{field_of}
use Rattle.sp_base.specs.Texts.{Pairs}
use Rattle.http_front.specs.declared.fault.InFault.{InFault}
use Rattle.http_front.specs.declared.fault.InFault.TheVariants.{BadHead, ManyHeaders, BadTarget, NoLength, BadLength, LongBody}
use Rattle.http_front.specs.declared.head.AskedHead.{AskedHead}
use Rattle.http_front.specs.declared.target.Target.{Target}
use Rattle.http_front.specs.Hosts.{host_of, length_of}
use Rattle.http_front.specs.Targets.{target_of}

-- the parts of a head that count; a value stands without the blanks round it
pub record HeadParts : Type 0 where
  pub method : List ℕ
  pub target : List ℕ
  pub minor : ℕ
  pub fields : Pairs

-- the parts of a head that was parsed
abbrev pub parts_of : RequestHead → HeadParts
parts_of head = record { method = head.method; target = head.target; minor = head.minor; fields = map name_and_value head.fields }

-- the fields with their names in lower case, since the case of a name doesn't count (RFC 9110, section 5.1)
abbrev pub lower_case_field : List ℕ × List ℕ → List ℕ × List ℕ
lower_case_field field = (str_to_ascii_lowercase field.0, field.1)

-- all fields, with their names in lower case
abbrev pub heads : HeadParts → Pairs
heads p = map lower_case_field p.fields

-- two fields have the name
abbrev pub is_repeated : List ℕ → Pairs → Bool
is_repeated name fields = nat_lt 1 (count_by (λ field. pointwise nat_eq field.0 name) fields)

-- the value of a field that may stand once, or none where it doesn't stand
abbrev pub once_in : {A : Type 0} → List ℕ → (Option (List ℕ) → Option A) → Pairs → Option A
once_in name reading fields = if is_repeated name fields then None else reading (field_of fields name)

-- the host and the port that the Host field names (RFC 9110, section 7.2)
abbrev pub asked_host : ℕ → Pairs → Option (List ℕ × ℕ)
asked_host minor fields = once_in (codes "host") (host_of minor) fields

-- the length that Content-Length tells (RFC 9110, section 8.6)
abbrev pub body_length : Pairs → Option ℕ
body_length fields = once_in (codes "content-length") length_of fields

-- a body whose length Content-Length doesn't tell (RFC 9112, section 6.1)
abbrev pub has_transfer_coding : Pairs → Bool
has_transfer_coding fields = is_some (field_of fields (codes "transfer-encoding"))

-- the most fields of a head, and the most bytes of a body
abbrev pub most_fields : ℕ
most_fields = 100

-- the most bytes of a body
abbrev pub longest_body : ℕ
longest_body = 8388608

-- what may be wrong with a head: the first that is decides
abbrev pub refusals : ℕ → List ℕ → Pairs → List (Bool × InFault)
refusals minor target fields =
    (is_none (asked_host minor fields), BadHead)
    ∷ (nat_lt most_fields (length fields), ManyHeaders)
    ∷ (is_none (target_of target), BadTarget)
    ∷ (has_transfer_coding fields, NoLength)
    ∷ (is_none (body_length fields), BadLength)
    ∷ (nat_lt longest_body (unwrap_or (body_length fields) 0), LongBody)
    ∷ []

-- the fault of the first of these that applies
unfoldable pub first_refusal : ℕ → List ℕ → Pairs → Option InFault
first_refusal minor target fields = option_map (λ refusal. refusal.1) (find (λ refusal. refusal.0) (refusals minor target fields))

-- the fault of a head, if it has one
abbrev pub head_fault : HeadParts → Option InFault
head_fault p = first_refusal p.minor p.target (heads p)

-- what a head asks for, where host, target and length can be read
pub record AskedFields : Type 0 where
  pub host : List ℕ
  pub port : ℕ
  pub target : Target
  pub body_length : ℕ

-- the same, of these
abbrev pub asked_with : List ℕ × ℕ → Target → ℕ → AskedFields
asked_with host target n = record { host = host.0; port = host.1; target = target; body_length = n }

-- what a head asks for, where its host, its target and its length can be read
unfoldable pub asked_of : ℕ → List ℕ → Pairs → Option AskedFields
asked_of minor target fields = option_and_then (λ host. option_and_then (λ read. option_map (asked_with host read) (body_length fields)) (target_of target)) (asked_host minor fields)

-- a Connection field has the option `close` (RFC 9110, section 7.6.1)
abbrev pub asks_to_close : Pairs → Bool
asks_to_close fields = has_option (codes "close") (elements_named (codes "connection") fields)

-- the connection closes after the answer: the request is of HTTP/1.0, or it asks for that (RFC 9112, section 9.3)
abbrev pub is_closing : ℕ → Pairs → Bool
is_closing minor fields = (minor == 0) || asks_to_close fields

-- the same of the parts of a head
abbrev pub closes_connection : HeadParts → Bool
closes_connection p = is_closing p.minor p.fields

-- the first Expect field asks for an interim answer (RFC 9110, section 10.1.1)
abbrev pub is_continue : Option (List ℕ) → Bool
is_continue None = false
is_continue (Some value) = eq_ignore_case value (codes "100-continue")

-- a sender of HTTP/1.1 waits with its body for 100 Continue
abbrev pub awaits_continue : ℕ → ℕ → Pairs → Bool
awaits_continue minor n fields = (minor == 1) && (nat_lt 0 n && is_continue (field_of fields (codes "expect")))

-- the request that a head with these parts asks for, without its body
abbrev pub request_with : List ℕ → List ℕ → ℕ → AskedFields → Pairs → Bool → Request
request_with method line minor asked fields close = record {
  method = method;
  line = line;
  minor = minor;
  host = asked.host;
  port = asked.port;
  path = asked.target.path;
  slash = asked.target.slash;
  query = asked.target.query;
  heads = fields;
  body = [];
  close = close;
}

-- the head with what it asks for
abbrev pub head_with : HeadParts → AskedFields → AskedHead
head_with p asked = record {
  request = request_with p.method (request_line p.method p.target p.minor) p.minor asked (heads p) (closes_connection p);
  body_length = asked.body_length;
  awaits_continue = awaits_continue p.minor asked.body_length (heads p);
}

-- nothing is wrong with a head, and this is what it asks for
pub record Asks (p : HeadParts) (head : AskedHead) : Type 0 where
  pub faultless : head_fault p ≡ None
  pub asked : AskedFields
  pub asked_is : asked_of p.minor p.target (heads p) ≡ Some asked
  pub head_is : head ≡ head_with p asked

-- ---- a head as the bytes that hold it, and where its parts stand in them

-- the parts that stand at these places of the bytes
abbrev pub request_parts_at : List ℕ → List HeaderSpan → RequestSpans → HeadParts
request_parts_at bytes fields spans = record {
  method = span_bytes bytes spans.method;
  target = span_bytes bytes spans.path;
  minor = spans.version;
  fields = map (header_bytes bytes) fields;
}

-- the parts lie within the first n bytes
pub record AreWithin (n : ℕ) (fields : List HeaderSpan) (spans : RequestSpans) : Type 0 where
  pub method : IsWithin n spans.method
  pub path : IsWithin n spans.path
  pub fields_fit : All (IsHeaderWithin n) fields

-- method and target are UTF-8, and the names may be those of fields (RFC 9110, section 5.1)
pub record AreTexts (p : HeadParts) : Type 0 where
  pub method : IsUtf8 p.method
  pub target : IsUtf8 p.target
  pub names : All (λ field. IsFieldName field.0) p.fields

-- a length that can be read and is no more than a body may have, else the fault
abbrev pub within_limit : Option ℕ → Result ℕ InFault
within_limit None = Err BadLength
within_limit (Some n) = if nat_lt longest_body n then Err LongBody else Ok n

-- the length of the body, or why it isn't read
unfoldable pub length_or_fault : Pairs → Result ℕ InFault
length_or_fault fields = if has_transfer_coding fields then Err NoLength else within_limit (body_length fields)
