-- The value of a header field with parameters, `TYPE; NAME=WORD; NAME="WORD"` (RFC 9110, section 5.6.6; RFC 2183, section 2).
-- `pieces_left` is needed by private functions and proofs alone.
use Rattle.std.specs.Prelude.{◌==◌, ◌&&◌, ℕ, Bool, false, true, if◌then◌else◌, List, [], ◌∷◌, Option, Some, None, length, drop, take, slice_index, slice_index_or}
use Rattle.std.specs.List.{onto_first}
use Rattle.std.specs.Str.{str_eq_ignore_ascii_case}
use Rattle.sp_base.specs.Texts.{Text}
use Rattle.form_input.specs.declared.parameters.Quoting.{Quoting}
use Rattle.form_input.specs.declared.parameters.Quoting.TheVariants.{Outside, Inside, Escaped}

-- a space or a tab
abbrev pub is_space_or_tab : ℕ → Bool
is_space_or_tab b = if b == 32 then true else b == 9

-- a text without the blanks that it begins with
unfoldable pub after_blanks : List ℕ → List ℕ
after_blanks [] = []
after_blanks (b ∷ text) = if is_space_or_tab b then after_blanks text else b ∷ text

-- a text without the blanks that it ends with
unfoldable pub before_blanks : List ℕ → List ℕ
before_blanks [] = []
before_blanks (b ∷ text) = if is_space_or_tab b && length (before_blanks text) == 0 then [] else b ∷ before_blanks text

-- a text without the blanks around it
abbrev pub trimmed_text : List ℕ → List ℕ
trimmed_text text = before_blanks (after_blanks text)

-- where the next byte stands: a quote opens and closes quotes, and in them a backslash takes the next byte with it
abbrev pub quoting_step : Quoting → ℕ → Quoting
quoting_step Outside b = if b == 34 then Inside else Outside
quoting_step Inside b = if b == 34 then Outside else (if b == 92 then Escaped else Inside)
quoting_step Escaped b = Inside

-- a semicolon outside quotes
abbrev pub separates : Quoting → ℕ → Bool
separates Outside b = b == 59
separates Inside b = false
separates Escaped b = false

-- the pieces between the semicolons that stand outside quotes
unfoldable pub parameter_pieces_from : Quoting → List ℕ → List Text
parameter_pieces_from quoting [] = [] ∷ []
parameter_pieces_from quoting (b ∷ text) = if separates quoting b then [] ∷ parameter_pieces_from Outside text else onto_first b (parameter_pieces_from (quoting_step quoting b) text)

-- the pieces of a text between semicolons that stand outside quotes
abbrev pub parameter_pieces : List ℕ → List Text
parameter_pieces text = parameter_pieces_from Outside text

-- whether the type, which is the first piece, is this word, without case
abbrev pub is_type : List ℕ → List ℕ → Bool
is_type word text = str_eq_ignore_ascii_case (trimmed_text (slice_index_or (parameter_pieces text) 0 [])) word

-- what follows a separator
abbrev pub after_separator : ℕ → List ℕ → Option (List ℕ)
after_separator separator [] = None
after_separator separator (b ∷ text) = if b == separator then Some text else None

-- what follows a name, without case, and a separator
abbrev pub after_name : ℕ → List ℕ → List ℕ → Option (List ℕ)
after_name separator name text = if str_eq_ignore_ascii_case (take (length name) text) name then after_separator separator (drop (length name) text) else None

-- a byte before a word, where there is one
abbrev pub with_byte : ℕ → Option (List ℕ) → Option (List ℕ)
with_byte b None = None
with_byte b (Some word) = Some (b ∷ word)

-- the word that stands before a closing quote; what follows that is passed over
unfoldable pub word_in_quotes : Bool → List ℕ → Option (List ℕ)
word_in_quotes escaped [] = None
word_in_quotes true (b ∷ text) = with_byte b (word_in_quotes false text)
word_in_quotes false (b ∷ text) = if b == 92 then word_in_quotes true text
    else (if b == 34 then Some []
    else with_byte b (word_in_quotes false text))

-- the word of a parameter, plain or in quotes
abbrev pub parameter_word : List ℕ → Option (List ℕ)
parameter_word text = if slice_index text 0 == 34 then word_in_quotes false (drop 1 text) else Some (before_blanks text)

-- the word of a parameter that was found, else the other
abbrev pub word_or : Option (List ℕ) → Option (List ℕ) → Option (List ℕ)
word_or None other = other
word_or (Some text) other = parameter_word text

-- the word of the first piece that has this name
unfoldable pub parameter_word_in : List ℕ → List Text → Option (List ℕ)
parameter_word_in name [] = None
parameter_word_in name (piece ∷ more) = word_or (after_name 61 name (after_blanks piece)) (parameter_word_in name more)

-- the word of the first parameter of this name, where it can be read
abbrev pub parameter : List ℕ → List ℕ → Option (List ℕ)
parameter name text = parameter_word_in name (drop 1 (parameter_pieces text))

-- the pieces of what is left of a text, where none or a text is left
abbrev pub pieces_left : Option (List ℕ) → List Text
pieces_left None = []
pieces_left (Some text) = parameter_pieces text
