-- The host that a request asks for (RFC 9110, sections 4.2.1 and 7.2): a name, and a port after a colon.
use Rattle.std.specs.Prelude.{◌==◌, ◌&&◌, ◌||◌, ◌+◌, ℕ, Bool, nat_le, nat_lt, if◌then◌else◌, List, [], Option, Some, None, option_and_then, option_map, length, drop, slice_index}
use Rattle.std.specs.List.{before_first, list_all}
use Rattle.std.specs.Char.{is_ascii_alphanumeric, is_ascii_digit}
use Rattle.std.specs.Str.Parse.{digits_value}
use Rattle.sp_base.specs.Bytes.{is_colon}
use Rattle.sp_base.specs.Limits.{greatest_port, http_port}

-- the most digits of a number
abbrev pub most_digits : ℕ
most_digits = 18

-- 1 to 18 decimal digits
abbrev pub is_number : List ℕ → Bool
is_number text = list_all is_ascii_digit text && (nat_lt 0 (length text) && nat_le (length text) most_digits)

-- the number that a text writes
abbrev pub port_number : List ℕ → Option ℕ
port_number text = if is_number text then Some (digits_value 10 text) else None

-- a zero before other digits
abbrev pub has_leading_zero : List ℕ → Bool
has_leading_zero text = nat_lt 1 (length text) && (slice_index text 0 == 48)

-- a number that is a port
abbrev pub port_or_none : ℕ → Option ℕ
port_or_none n = if nat_le n greatest_port then Some n else None

-- the port that a text writes: that of HTTP where it is empty
abbrev pub port_of : List ℕ → Option ℕ
port_of text = if length text == 0 then Some http_port else (if has_leading_zero text then None else option_and_then port_or_none (port_number text))

-- letters, digits, `-`, `_` and `.`
abbrev pub is_asked_host_byte : ℕ → Bool
is_asked_host_byte b = is_ascii_alphanumeric b || ((b == 45) || ((b == 95) || (b == 46)))

-- letters, digits, `-`, `_` and `.`, at least one
abbrev pub is_asked_host_name : List ℕ → Bool
is_asked_host_name text = nat_lt 0 (length text) && list_all is_asked_host_byte text

-- a name, alone or with a colon and a port after it
abbrev pub host_in : List ℕ → Option (List ℕ × ℕ)
host_in value =
    if is_asked_host_name (before_first is_colon value) then option_map (λ port. (before_first is_colon value, port)) (port_of (drop (length (before_first is_colon value) + 1) value))
    else None

-- The host of a request, from its Host field: one that is no host, and none in HTTP/1.1, make no request (RFC 9112, section 3.2). A
-- request of HTTP/1.0 may name none, and its host is then empty.
abbrev pub host_of : ℕ → Option (List ℕ) → Option (List ℕ × ℕ)
host_of minor None = if minor == 0 then Some ([], http_port) else None
host_of minor (Some value) = host_in value

-- The length of a request's body, from its Content-Length field: 0 where there is none (RFC 9112, section 6.3).
abbrev pub length_of : Option (List ℕ) → Option ℕ
length_of None = Some 0
length_of (Some value) = port_number value
