-- Limits and numbers that several crates speak of.
use Rattle.std.specs.Prelude.{ℕ}

-- the greatest number of 64 bits: 2^64 - 1
abbrev pub greatest_u64 : ℕ
greatest_u64 = 18446744073709551615

-- the greatest number of 64 bits with a sign: 2^63 - 1
abbrev pub greatest_i64 : ℕ
greatest_i64 = 9223372036854775807

-- what the least of them has after its minus: 2^63
abbrev pub least_i64_magnitude : ℕ
least_i64_magnitude = 9223372036854775808

-- the greatest port (RFC 9293, section 3.1)
abbrev pub greatest_port : ℕ
greatest_port = 65535

-- the port of HTTP where none is written (RFC 9110, section 4.2.1)
abbrev pub http_port : ℕ
http_port = 80

-- the most bytes that are rendered: of what a template writes, and of a representation
abbrev pub most_rendered_bytes : ℕ
most_rendered_bytes = 4194304

-- the most bytes of a media type that is sent
abbrev pub longest_media_type : ℕ
longest_media_type = 100
