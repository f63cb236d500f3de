-- The value of a Location field (RFC 9110, section 10.2.2): each byte that isn't visible is percent-encoded, as a URI reference may not
-- hold it (RFC 3986, sections 2 and 2.1). Each other byte stays as it is, a `%` too.
use Rattle.std.specs.Prelude.{ℕ, if◌then◌else◌, List, [], ◌∷◌, flat_map}
use Rattle.percent_encoding.specs.Percent.{percent_encode_byte}
use Rattle.sp_base.specs.Bytes.{is_visible_ascii}

-- the text with each byte but the visible ones of ASCII as `%` and two capital hexadecimal digits
unfoldable pub location_of : List ℕ → List ℕ
location_of text = flat_map (λ b. if is_visible_ascii b then b ∷ [] else percent_encode_byte b) text
