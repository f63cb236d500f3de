-- Values of fields as they are sent: no byte of one ends its line, or begins another (RFC 9110, section 5.5).
use Rattle.std.specs.Prelude.{◌≡◌, ◌<◌, ◌^◌, ℕ, Bool, true, codes, length}
use Rattle.std.specs.List.{All}
use Rattle.sp_base.specs.Bytes.{is_printable_ascii, is_visible_ascii}
use Rattle.sp_base.specs.declared.answer.Answer.{Answer}
use Rattle.http_front.specs.Answers.{Field, fields_of}

-- a printable byte of ASCII
abbrev pub IsPrintable : ℕ → Type 0
IsPrintable b = is_printable_ascii b ≡ true

-- a visible byte of ASCII
abbrev pub IsVisible : ℕ → Type 0
IsVisible b = is_visible_ascii b ≡ true

-- each byte of the value is printable, and that of a location visible, as in a URI reference (RFC 3986, section 2)
abbrev pub StaysInItsLine : Field → Type 0
StaysInItsLine field = All IsPrintable field.1 × (field.0 ≡ codes "Location" → All IsVisible field.1)

-- whatever the answer says, if its body has fewer than 2^64 bytes
abbrev pub ValuesStayInTheirLines : Type 0
ValuesStayInTheirLines = (head_only close : Bool) (a : Answer) → length a.body < 2 ^ 64 → All StaysInItsLine (fields_of head_only close a)
