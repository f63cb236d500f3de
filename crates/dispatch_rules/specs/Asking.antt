-- What the publisher is asked (Adobe Dispatcher manual, "Specifying the HTTP Headers to Pass Through").
use Rattle.std.specs.Prelude.{ℕ, Bool, nat_eq, if◌then◌else◌, List, [], Option, Some, None, codes, IsTrue, ◌≡◌}
use Rattle.std.specs.Cmp.Lexicographic.{pointwise}
use Rattle.std.specs.Str.{is_utf8}
use Rattle.sp_base.specs.Requests.{Request}
use Rattle.sp_base.specs.declared.answer.Ask.{Ask}
use Rattle.sp_base.specs.Fields.{field_of}
use Rattle.sp_base.specs.Paths.{is_path, unmangled_segs}
use Rattle.any_config.specs.declared.farm.Farm.{Farm}
use Rattle.cover_rules.specs.declared.page.PageKey.{PageKey}
use Rattle.dispatch_rules.specs.Caching.{cache_key}

-- a field's value, where it is a text
abbrev pub text_or_none : Option (List ℕ) → List ℕ
text_or_none None = []
text_or_none (Some value) = if is_utf8 value then value else []

-- the method is POST (RFC 9110, section 9.3.3)
abbrev pub is_post_request : Request → Bool
is_post_request req = pointwise nat_eq req.method (codes "POST")

-- the method, the path and its slash, at the farm's host, and for POST the body and its media type
abbrev pub publisher_ask : Farm → Request → Ask
publisher_ask farm req = record {
  method = req.method;
  host = farm.ask_host;
  port = farm.ask_port;
  path = req.path;
  slash = req.slash;
  kind = if is_post_request req then text_or_none (field_of req.heads (codes "content-type")) else [];
  body = if is_post_request req then req.body else [];
}

-- two requests for one page, whose paths are unmangled, are asked of the publisher alike, but for a slash at the path's end
abbrev pub PagesAreAskedAlike : Type 0
PagesAreAskedAlike = (farm : Farm) (a b : Request) (key : PageKey) → IsTrue (is_path a.path) → IsTrue (is_path b.path) → unmangled_segs a.path ≡ a.path
    → unmangled_segs b.path ≡ b.path → cache_key farm a ≡ Some key → cache_key farm b ≡ Some key
    → publisher_ask farm b ≡ record (publisher_ask farm a) { slash = b.slash }
