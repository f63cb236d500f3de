-- The tokens at the beginning of a text. A token is read with the blanks after it (HTL specification 1.4, "Expression Language").
-- `Fails`, `Gives`, `AreAscii`, `plain_quoted_len` and `next_number` are needed by private functions and proofs alone.
use Rattle.std.specs.Prelude.{◌≡◌, ◌<◌, ℕ, ℤ, pos, neg_ℤ, suc, ◌+◌, ◌*◌, ◌-◌, Bool, true, false, ◌||◌, ◌&&◌, if◌then◌else◌, ◌==◌, nat_le, List, [], ◌∷◌, ◌++◌, length, take, drop, Option, Some, None, Result, Ok, Err, slice_index}
use Rattle.sp_base.specs.Outcomes.{◌>>=◌}
use Rattle.sp_base.specs.Limits.{greatest_i64, least_i64_magnitude}
use Rattle.sp_base.specs.Bytes.{begins_with_byte, is_digit}
use Rattle.htl_syntax.specs.declared.stop.ExprStop.{ExprStop}
use Rattle.htl_syntax.specs.declared.stop.ExprStop.TheVariants.{NoMemory, Unexpected, TooDeep}
use Rattle.htl_syntax.specs.declared.tokens.NameKind.{NameKind}
use Rattle.htl_syntax.specs.declared.tokens.NameKind.TheVariants.{Name, Field}

-- what was read and the text after it, or why nothing was
abbrev pub Outcome : Type 0 → Type 0
Outcome A = Result (A × List ℕ) ExprStop

-- the reason is that of the reading, unless memory ran out
abbrev pub Fails : {Y : Type 0} → ExprStop → Result Y ExprStop → Type 0
Fails NoMemory read = Unit {0}
Fails (Unexpected n) read = read ≡ Err (Unexpected n)
Fails (TooDeep n) read = read ≡ Err (TooDeep n)

-- what a function returned, seen by view, is what reading gives, unless memory ran out
abbrev pub Gives : {X Y : Type 0} → (X → Y) → Result X ExprStop → Result Y ExprStop → Type 0
Gives view (Ok x) read = read ≡ Ok (view x)
Gives view (Err e) read = Fails e read

-- spaces, tabs and line ends
abbrev pub is_blank : ℕ → Bool
is_blank c = c == 32 || (c == 9 || (c == 10 || c == 13))

-- the text from its first byte on that is no blank
unfoldable pub blanks_skipped : List ℕ → List ℕ
blanks_skipped [] = []
blanks_skipped (c ∷ t) = if is_blank c then blanks_skipped t else c ∷ t

-- A to Z and a to z
abbrev pub is_letter : ℕ → Bool
is_letter c = (nat_le 65 c && nat_le c 90) || (nat_le 97 c && nat_le c 122)

-- a name begins with a letter or "_"
abbrev pub is_first : ℕ → Bool
is_first c = is_letter c || c == 95

-- and goes on with letters, digits and "_"
abbrev pub is_word_byte : ℕ → Bool
is_word_byte c = is_first c || is_digit c

-- the marks that a string stands between
abbrev pub is_quote : ℕ → Bool
is_quote c = c == 39 || c == 34

-- whether the first byte passes a test
unfoldable pub begins : (ℕ → Bool) → List ℕ → Bool
begins test [] = false
begins test (c ∷ t) = test c

-- whether a name goes on with the next byte; a field also with ":" where a letter follows
unfoldable pub goes_on : NameKind → List ℕ → Bool
goes_on Name t = begins is_word_byte t
goes_on Field [] = false
goes_on Field (c ∷ t) = is_word_byte c || (c == 58 && begins is_letter t)

-- how many bytes at the beginning belong to the name
unfoldable pub name_len : NameKind → List ℕ → ℕ
name_len kind [] = 0
name_len kind (c ∷ t) = if goes_on kind (c ∷ t) then suc (name_len kind t) else 0

-- a step that reads nothing
abbrev pub done : {A : Type 0} → A → Result A ExprStop
done x = Ok x

-- the bytes of a name, and the text after it
abbrev pub run : NameKind → List ℕ → List ℕ × List ℕ
run kind t = (take (name_len kind t) t, blanks_skipped (drop (name_len kind t) t))

-- a name or a field's name
unfoldable pub read_name : NameKind → List ℕ → Outcome (List ℕ)
read_name kind t = if begins is_first t then Ok (run kind t) else Err (Unexpected (length t))

-- one byte
unfoldable pub expect : ℕ → List ℕ → Result (List ℕ) ExprStop
expect c t = if begins_with_byte c t then Ok (blanks_skipped (drop 1 t)) else Err (Unexpected (length t))

-- an operator of two bytes, of which the first is there
unfoldable pub second : ℕ → List ℕ → Result (List ℕ) ExprStop
second c t = expect c (drop 1 t)

-- a word byte by byte
unfoldable pub literal : List ℕ → List ℕ → Result (List ℕ) ExprStop
literal [] t = Ok t
literal (c ∷ w) t = if begins_with_byte c t then literal w (drop 1 t) else Err (Unexpected (length t))

-- each byte is a character of its own
abbrev pub AreAscii : List ℕ → Type 0
AreAscii [] = Unit {0}
AreAscii (c ∷ w) = (c < 128) × AreAscii w

-- the character that stands for itself, a line feed, a tab or a return after a backslash
unfoldable pub unescape : ℕ → Option ℕ
unescape c =
    if c == 92 || is_quote c then Some c
    else if c == 110 then Some 10
    else if c == 116 then Some 9
    else if c == 114 then Some 13
    else None

-- the character that an escape stands for, or the byte that begins none
abbrev pub escape_of : Option ℕ → List ℕ → Outcome ℕ
escape_of None at = Err (Unexpected (length at))
escape_of (Some d) at = Ok (d, drop 1 at)

-- the character after a backslash
unfoldable pub escape : List ℕ → Outcome ℕ
escape [] = Err (Unexpected 0)
escape (c ∷ t) = escape_of (unescape c) (c ∷ t)

-- how many bytes stand before a mark or a backslash
unfoldable pub plain_quoted_len : ℕ → List ℕ → ℕ
plain_quoted_len mark [] = 0
plain_quoted_len mark (c ∷ t) = if c == mark || c == 92 then 0 else suc (plain_quoted_len mark t)

-- characters before what was read
abbrev pub read_with_prefix : List ℕ → Outcome (List ℕ) → Outcome (List ℕ)
read_with_prefix leading o = o >>= λ x. Ok (leading ++ x.0, x.1)

-- the character of an escape before what was read
abbrev pub string_after_escape : Option ℕ → List ℕ → Outcome (List ℕ) → Outcome (List ℕ)
string_after_escape None at rest = Err (Unexpected (length at))
string_after_escape (Some d) at rest = read_with_prefix (d ∷ []) rest

-- a string up to the mark that closes it; the flag says that a backslash stands before
unfoldable pub string_from : Bool → ℕ → List ℕ → Outcome (List ℕ)
string_from is_escaped mark [] = Err (Unexpected 0)
string_from true mark (c ∷ t) = string_after_escape (unescape c) (c ∷ t) (string_from false mark t)
string_from false mark (c ∷ t) =
    if c == mark then Ok ([], blanks_skipped t)
    else if c == 92 then string_from true mark t
    else read_with_prefix (c ∷ []) (string_from false mark t)

-- a string from its mark on
unfoldable pub string : List ℕ → Outcome (List ℕ)
string [] = Err (Unexpected 0)
string (c ∷ t) = if is_quote c then string_from false c t else Err (Unexpected (length (c ∷ t)))

-- whether the next byte is a digit with which the number still fits
unfoldable pub expression_digit_fits : ℕ → ℕ → List ℕ → Bool
expression_digit_fits limit m [] = false
expression_digit_fits limit m (c ∷ t) = is_digit c && nat_le (m * 10 + (c - 48)) limit

-- the longest number at the beginning that fits
unfoldable pub expression_digits_from : ℕ → ℕ → List ℕ → ℕ × List ℕ
expression_digits_from limit m [] = (m, [])
expression_digits_from limit m (c ∷ t) = if expression_digit_fits limit m (c ∷ t) then expression_digits_from limit (m * 10 + (c - 48)) t else (m, c ∷ t)

-- the number with the next digit, where that fits
abbrev pub next_number : ℕ → ℕ → List ℕ → Option ℕ
next_number limit m t = if expression_digit_fits limit m t then Some (m * 10 + (slice_index t 0 - 48)) else None

-- the greatest magnitude of a number of 64 bits with a minus or without one
abbrev pub limit : Bool → ℕ
limit negative = if negative then least_i64_magnitude else greatest_i64

-- a magnitude with its sign
abbrev pub signed_value : Bool → ℕ → ℤ
signed_value negative m = if negative then neg_ℤ (pos m) else pos m

-- one digit at least
unfoldable pub digits : Bool → List ℕ → Outcome ℤ
digits negative t = if begins is_digit t then (let x = expression_digits_from (limit negative) 0 t in Ok (signed_value negative x.0, blanks_skipped x.1)) else Err (Unexpected (length t))

-- digits with a minus or without one
unfoldable pub signed_number : List ℕ → Outcome ℤ
signed_number t = if begins_with_byte 45 t then digits true (drop 1 t) else digits false t
