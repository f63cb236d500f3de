-- What a form says, by the Content-Type of a request and its body (Apache Sling, "SlingPostServlet"; URL Standard, section 5; RFC 7578).
use Rattle.std.specs.Prelude.{◌==◌, ◌&&◌, ℕ, Bool, nat_lt, nat_le, if◌then◌else◌, List, [], Option, Some, None, Result, Ok, Err, codes, length, map}
use Rattle.std.specs.Str.Lossy.{utf8_lossy}
use Rattle.form_urlencoded.specs.Form.{raw_pairs, decode}
use Rattle.form_input.specs.declared.fault.FormFault.{FormFault}
use Rattle.form_input.specs.declared.fault.FormFault.TheVariants.{WrongKind, NoBoundary, TooMany}
use Rattle.form_input.specs.Parameters.{is_type, parameter}
use Rattle.form_input.specs.Multipart.{multipart_of, most_pairs}
use Rattle.sp_base.specs.Texts.{Pairs}

-- a pair with its escapes decoded, and what is no UTF-8 replaced
abbrev pub decoded_pair : List ℕ × List ℕ → List ℕ × List ℕ
decoded_pair p = (utf8_lossy (decode p.0), utf8_lossy (decode p.1))

-- what a body of the kind `application/x-www-form-urlencoded` reads as: at most 1,000 pairs
abbrev pub urlencoded_of : List ℕ → Result Pairs FormFault
urlencoded_of body = if nat_lt most_pairs (length (raw_pairs body)) then Err TooMany else Ok (map decoded_pair (raw_pairs body))

-- the most bytes of a boundary
abbrev pub longest_boundary : ℕ
longest_boundary = 70

-- a boundary has 1 byte at least and no more than the longest
abbrev pub is_boundary : List ℕ → Bool
is_boundary boundary = nat_lt 0 (length boundary) && nat_le (length boundary) longest_boundary

-- what a multipart body reads as by the boundary that its type names
abbrev pub by_boundary : Option (List ℕ) → List ℕ → Result Pairs FormFault
by_boundary None body = Err NoBoundary
by_boundary (Some boundary) body = if is_boundary boundary then multipart_of boundary body else Err NoBoundary

-- the pairs of a form, or its first fault; no Content-Type and no body are the empty form
abbrev pub form_of : List ℕ → List ℕ → Result Pairs FormFault
form_of kind body = if length kind == 0 && length body == 0 then Ok []
    else (if is_type (codes "application/x-www-form-urlencoded") kind then urlencoded_of body
    else (if is_type (codes "multipart/form-data") kind then by_boundary (parameter (codes "boundary") kind) body
    else Err WrongKind))
