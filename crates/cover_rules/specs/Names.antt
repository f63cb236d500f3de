-- How a segment of a path is named in the document root (Adobe Dispatcher manual, "Specifying the Cache Directory").
use Rattle.std.specs.Prelude.{◌==◌, ◌||◌, ◌/◌, ◌%◌, ℕ, Bool, true, nat_le, if◌then◌else◌, List, [], ◌∷◌, length, flat_map}
use Rattle.std.specs.Char.{is_ascii_alphanumeric}
use Rattle.std.specs.Fmt.{digit_glyph}

-- letters, digits, `.`, `_` and `-` stand in a file's name as they are
abbrev pub is_plain_name_byte : ℕ → Bool
is_plain_name_byte b = is_ascii_alphanumeric b || (b == 46 || (b == 95 || b == 45))

-- each other byte is `%` and two capital hexadecimal digits
abbrev pub file_byte : ℕ → List ℕ
file_byte b = if is_plain_name_byte b then b ∷ [] else 37 ∷ digit_glyph true (b / 16 % 16) ∷ digit_glyph true (b % 16) ∷ []

-- the file name of a mangled segment
unfoldable pub file_name : List ℕ → List ℕ
file_name seg = flat_map file_byte seg

-- the most bytes of a file name
abbrev pub longest_page_name : ℕ
longest_page_name = 200

-- the most bytes of the file name of a text of `longest_page_name` bytes: three for each
abbrev pub longest_escaped_name : ℕ
longest_escaped_name = 600

-- the segment has a file name
abbrev pub has_file_name : List ℕ → Bool
has_file_name seg = nat_le (length (file_name seg)) longest_page_name
