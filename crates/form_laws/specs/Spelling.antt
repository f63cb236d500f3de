-- A header field with parameters as a grammar spells it (RFC 9110, sections 5.6.2 to 5.6.6): a type, and after each semicolon a parameter or
-- none, with blanks around it. What stands in no quotes may have more bytes than those of a token, as `:`, `=` and `@`. In the place of a
-- parameter, and after a value in quotes, other texts may stand too, which no grammar has.
use Rattle.std.specs.Prelude.{◌≡◌, ◌==◌, ◌&&◌, ◌||◌, ℕ, Bool, true, not, List, [], ◌∷◌, ◌++◌, Option, Some, None, codes, find, filter_map, flat_map, length, map, option_map, take}
use Rattle.std.specs.List.{list_all, list_any}
use Rattle.std.specs.Char.{is_ascii_alphanumeric}
use Rattle.std.specs.Str.{str_eq_ignore_ascii_case}
use Rattle.form_input.specs.Parameters.{after_blanks, is_space_or_tab}

-- a byte that stands in no quotes: neither a blank nor a quote nor a semicolon
abbrev pub is_bare_byte : ℕ → Bool
is_bare_byte b = not (is_space_or_tab b || (b == 34 || b == 59))

-- a byte of a name: no `=` either
abbrev pub is_bare_name_byte : ℕ → Bool
is_bare_name_byte b = is_bare_byte b && not (b == 61)

-- a byte of a token
abbrev pub is_token_byte : ℕ → Bool
is_token_byte b = is_ascii_alphanumeric b || list_any (λ c. c == b) (codes "!#$%&'*+-.^_`|~")

-- a byte of a quoted text: as itself, or after a backslash
pub data QuotedByte : Type 0 where
  Plain : ℕ → QuotedByte
  Escaped : ℕ → QuotedByte

-- the byte that is meant
abbrev pub meant_byte : QuotedByte → ℕ
meant_byte (Plain b) = b
meant_byte (Escaped b) = b

-- the bytes that spell it
abbrev pub byte_spelling : QuotedByte → List ℕ
byte_spelling (Plain b) = b ∷ []
byte_spelling (Escaped b) = 92 ∷ b ∷ []

-- a quote and a backslash stand after a backslash alone, and any other byte may
abbrev pub is_quoted_byte : QuotedByte → Bool
is_quoted_byte (Plain b) = not (b == 34 || b == 92)
is_quoted_byte (Escaped b) = true

-- the value of a parameter, bare or in quotes
pub data ParameterValue : Type 0 where
  Bare : List ℕ → ParameterValue
  Quoted : List QuotedByte → ParameterValue

-- the word that a value means
abbrev pub meant_word : ParameterValue → List ℕ
meant_word (Bare word) = word
meant_word (Quoted bytes) = map meant_byte bytes

-- the bytes that spell it
abbrev pub value_spelling : ParameterValue → List ℕ
value_spelling (Bare word) = word
value_spelling (Quoted bytes) = 34 ∷ (flat_map byte_spelling bytes ++ 34 ∷ [])

-- each byte may stand where it does
abbrev pub is_parameter_value : ParameterValue → Bool
is_parameter_value (Bare word) = list_all is_bare_byte word
is_parameter_value (Quoted bytes) = list_all is_quoted_byte bytes

-- a parameter: `NAME=VALUE`
pub record FieldParameter : Type 0 where
  pub name : List ℕ
  pub value : ParameterValue

-- the bytes that spell it
abbrev pub parameter_spelling : FieldParameter → List ℕ
parameter_spelling p = p.name ++ 61 ∷ value_spelling p.value

-- its name and its value are such
abbrev pub is_parameter : FieldParameter → Bool
is_parameter p = list_all is_bare_name_byte p.name && is_parameter_value p.value

-- a byte of a text that is passed over
abbrev pub is_passed_byte : ℕ → Bool
is_passed_byte b = not (b == 34 || b == 59)

-- a byte between a value and the next semicolon: a blank, and after quotes any that is passed over
abbrev pub may_follow_value : ParameterValue → ℕ → Bool
may_follow_value (Bare word) b = is_space_or_tab b
may_follow_value (Quoted bytes) b = is_passed_byte b

-- a byte behind a parameter, or of another text in its place
abbrev pub may_follow : Option FieldParameter → ℕ → Bool
may_follow None b = is_passed_byte b
may_follow (Some p) b = may_follow_value p.value b

-- what stands after a semicolon: blanks, a parameter or none, and what is behind it
pub record FieldPiece : Type 0 where
  pub before : List ℕ
  pub parameter : Option FieldParameter
  pub after : List ℕ

-- the bytes of a parameter, none where there is none
abbrev pub spelling_or_none : Option FieldParameter → List ℕ
spelling_or_none None = []
spelling_or_none (Some p) = parameter_spelling p

-- there is none, or it is one
abbrev pub is_parameter_or_none : Option FieldParameter → Bool
is_parameter_or_none None = true
is_parameter_or_none (Some p) = is_parameter p

-- the bytes of a piece
abbrev pub piece_spelling : FieldPiece → List ℕ
piece_spelling piece = piece.before ++ (spelling_or_none piece.parameter ++ piece.after)

-- each of the three is what it may be
abbrev pub is_field_piece : FieldPiece → Bool
is_field_piece piece = list_all is_space_or_tab piece.before && (is_parameter_or_none piece.parameter && list_all (may_follow piece.parameter) piece.after)

-- pieces, each after a semicolon
abbrev pub pieces_spelling : List FieldPiece → List ℕ
pieces_spelling pieces = flat_map (λ piece. 59 ∷ piece_spelling piece) pieces

-- a field is a type, with blanks around it, and pieces
pub record IsFieldOf (text type : List ℕ) (pieces : List FieldPiece) : Type 0 where
  pub before : List ℕ
  pub after : List ℕ
  pub spells : text ≡ before ++ (type ++ after) ++ pieces_spelling pieces
  pub blanks_before : list_all is_space_or_tab before ≡ true
  pub is_type : list_all is_bare_byte type ≡ true
  pub blanks_after : list_all is_space_or_tab after ≡ true
  pub each : list_all is_field_piece pieces ≡ true

-- the word of the first parameter that has this name, without regard to case
abbrev pub word_named : List ℕ → List FieldPiece → Option (List ℕ)
word_named name pieces = option_map (λ p. meant_word p.value) (find (λ p. str_eq_ignore_ascii_case p.name name) (filter_map (λ piece. piece.parameter) pieces))

-- a text begins, after blanks, with this name, without regard to case, and `=`
abbrev pub begins_with_name : List ℕ → List ℕ → Bool
begins_with_name name text = str_eq_ignore_ascii_case (take (length (name ++ 61 ∷ [])) (after_blanks text)) (name ++ 61 ∷ [])

-- it is a parameter, or begins with another name or none
abbrev pub is_named_if_parameter : List ℕ → Option FieldParameter → List ℕ → Bool
is_named_if_parameter name None text = not (begins_with_name name text)
is_named_if_parameter name (Some p) text = true

-- a field, and a name with which no piece begins that isn't a parameter
pub record IsNamedField (name text type : List ℕ) (pieces : List FieldPiece) : Type 0 where
  pub field : IsFieldOf text type pieces
  pub is_name : list_all is_bare_name_byte name ≡ true
  pub of_parameters : list_all (λ piece. is_named_if_parameter name piece.parameter (piece_spelling piece)) pieces ≡ true
