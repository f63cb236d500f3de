-- Bytes of texts: which a byte is, what begins a text, the pieces between dots, and the first of texts.
use Rattle.std.specs.Prelude.{◌<◌, ◌==◌, ◌&&◌, ℕ, Bool, false, not, nat_le, List, [], ◌∷◌, Option, Some, None, flat_map, length}
use Rattle.std.specs.List.{AllByRecursion}
use Rattle.sp_base.specs.Texts.{Text}

-- bytes have 8 bits
abbrev pub AreBytes : List ℕ → Type 0
AreBytes bytes = AllByRecursion (λ b. b < 256) bytes

-- the text begins with this byte
unfoldable pub begins_with_byte : ℕ → List ℕ → Bool
begins_with_byte c [] = false
begins_with_byte c (d ∷ text) = d == c

-- a visible byte of ASCII (RFC 5234, appendix B.1, VCHAR)
abbrev pub is_visible_ascii : ℕ → Bool
is_visible_ascii b = nat_le 33 b && nat_le b 126

-- a printable byte of ASCII: visible, or a space
abbrev pub is_printable_ascii : ℕ → Bool
is_printable_ascii b = nat_le 32 b && nat_le b 126

-- a decimal digit
abbrev pub is_digit : ℕ → Bool
is_digit b = nat_le 48 b && nat_le b 57

-- `.`
abbrev pub is_dot : ℕ → Bool
is_dot b = b == 46

-- `/`
abbrev pub is_slash : ℕ → Bool
is_slash b = b == 47

-- `:`
abbrev pub is_colon : ℕ → Bool
is_colon b = b == 58

-- a piece that has bytes
abbrev pub is_full : List ℕ → Bool
is_full piece = not (length piece == 0)

-- pieces with a dot before each
abbrev pub dotted_text : List Text → Text
dotted_text pieces = flat_map (λ piece. 46 ∷ piece) pieces

-- the first of texts
abbrev pub first_text : List Text → Option Text
first_text [] = None
first_text (text ∷ texts) = Some text
