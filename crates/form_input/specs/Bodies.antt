-- A multipart body as a whole (RFC 2046, section 5.1.1): the relation of which `multipart_of` is the answer.
use Rattle.std.specs.Prelude.{◌≡◌, ◌≤◌, ◌&&◌, ℕ, Bool, true, not, List, [], ◌∷◌, ◌++◌, Some, map, length}
use Rattle.std.specs.List.{list_all}
use Rattle.sp_base.specs.Texts.{Text, Pairs}
use Rattle.form_input.specs.Lines.{lines}
use Rattle.form_input.specs.Multipart.{dash_boundary, line_form, is_plain_line, is_closing_line, pair_of, most_pairs}

-- a part: its boundary line and its lines
pub record BodyPart : Type 0 where
  pub line : List ℕ
  pub content : List Text

-- the lines of parts, one after another
abbrev pub part_lines : List BodyPart → List Text
part_lines [] = []
part_lines (p ∷ more) = p.line ∷ (p.content ++ part_lines more)

-- none of the lines is a boundary line
abbrev pub are_plain : List ℕ → List Text → Bool
are_plain dash ls = list_all (λ line. is_plain_line (line_form dash line)) ls

-- a boundary line that isn't the closing one, and lines that are no boundary lines
abbrev pub is_body_part : List ℕ → BodyPart → Bool
is_body_part dash p = not (is_plain_line (line_form dash p.line)) && (not (is_closing_line (line_form dash p.line)) && are_plain dash p.content)

-- the lines of a body: a preamble, the parts, the closing line, and an epilogue
pub record IsMultipart (boundary : List ℕ) (ls : List Text) (parts : List BodyPart) : Type 0 where
  pub preamble : List Text
  pub closing : List ℕ
  pub epilogue : List Text
  pub spells : ls ≡ preamble ++ (part_lines parts ++ closing ∷ epilogue)
  pub before : are_plain (dash_boundary boundary) preamble ≡ true
  pub opened : list_all (is_body_part (dash_boundary boundary)) parts ≡ true
  pub closed : is_closing_line (line_form (dash_boundary boundary) closing) ≡ true

-- the pairs of a body's parts, at most 1,000
pub record HasPairs (boundary body : List ℕ) (pairs : Pairs) : Type 0 where
  pub parts : List BodyPart
  pub is : IsMultipart boundary (lines body) parts
  pub each : map (λ p. pair_of p.content) parts ≡ map Some pairs
  pub few : length pairs ≤ most_pairs
