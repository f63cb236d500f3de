-- What a request says (RFC 9110, section 3; RFC 9112, sections 2 to 6).
use Rattle.std.specs.Prelude.{◌++◌, ◌∷◌, ℕ, Bool, List, [], Option, option_copied, codes, decimal}
use Rattle.sp_base.specs.Texts.{Text, Segments, Pairs}
use Rattle.sp_base.specs.declared.request.LentHead.{LentHead}

-- a request as a client sent it: its method (RFC 9110, section 9.1), its request line without the line end (RFC 9112, section 3), the
-- minor version of HTTP/1, the host that is asked and its port, the path of the target, decoded and unmangled, whether a slash at its
-- end was dropped, the query as it came, the fields with their names in lower case (RFC 9110, section 5.1), the body, and whether the
-- connection closes after the answer (RFC 9112, section 9.6)
pub record Request : Type 0 where
  pub method : Text
  pub line : Text
  pub minor : ℕ
  pub host : Text
  pub port : ℕ
  pub path : Segments
  pub slash : Bool
  pub query : Option Text
  pub heads : Pairs
  pub body : Text
  pub close : Bool

-- a space, and the version of HTTP/1 (RFC 9112, section 2.3)
abbrev pub version_text : ℕ → List ℕ
version_text minor = codes " HTTP/1." ++ decimal minor

-- the request line without its end (RFC 9112, section 3)
abbrev pub request_line : List ℕ → List ℕ → ℕ → List ℕ
request_line method target minor = method ++ 32 ∷ (target ++ version_text minor)

-- the request without a body whose head says this, with this path and these fields
abbrev pub request_of : LentHead → Segments → Pairs → Request
request_of head path fields = record {
  method = head.method.now;
  line = request_line head.method.now head.target.now head.minor;
  minor = head.minor;
  host = head.host.now;
  port = head.port;
  path = path;
  slash = head.slash;
  query = option_copied head.query;
  heads = fields;
  body = [];
  close = head.close;
}

-- the request with this body
abbrev pub with_body : Request → Text → Request
with_body request body = record request { body = body }
