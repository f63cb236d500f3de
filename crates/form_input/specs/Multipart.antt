-- The reading of a multipart body (RFC 7578; RFC 2046, section 5.1.1), line by line.
use Rattle.std.specs.Prelude.{◌==◌, ◌&&◌, ◌+◌, ℕ, Bool, false, true, if◌then◌else◌, List, [], ◌∷◌, ◌++◌, Option, Some, None, Result, Ok, Err, codes, length, drop, take}
use Rattle.std.specs.List.{list_all}
use Rattle.std.specs.Str.{bytes_eq, is_utf8}
use Rattle.sp_base.specs.Texts.{Text, Pairs}
use Rattle.form_input.specs.declared.fault.FormFault.{FormFault}
use Rattle.form_input.specs.declared.fault.FormFault.TheVariants.{BadPart, TooMany}
use Rattle.form_input.specs.declared.boundary.LineForm.{LineForm}
use Rattle.form_input.specs.declared.boundary.LineForm.TheVariants.{Opening, Closing, Plain}
use Rattle.form_input.specs.Lines.{lines, lines_text}
use Rattle.form_input.specs.Parameters.{is_space_or_tab, is_type, after_name, parameter}

-- the bytes that begin a boundary line: `--` and the boundary
abbrev pub dash_boundary : List ℕ → List ℕ
dash_boundary boundary = codes "--" ++ boundary

-- what a line is by what follows those bytes: blanks, or `--` and blanks
abbrev pub form_after : List ℕ → LineForm
form_after rest = if list_all is_space_or_tab rest then Opening else (if bytes_eq (take 2 rest) (codes "--") && list_all is_space_or_tab (drop 2 rest) then Closing else Plain)

-- what a line is: a boundary line begins with the bytes of the boundary
abbrev pub line_form : List ℕ → List ℕ → LineForm
line_form dash line = if bytes_eq (take (length dash) line) dash then form_after (drop (length dash) line) else Plain

-- whether a line of this form is no boundary line
abbrev pub is_plain_line : LineForm → Bool
is_plain_line Opening = false
is_plain_line Closing = false
is_plain_line Plain = true

-- whether it is the closing line
abbrev pub is_closing_line : LineForm → Bool
is_closing_line Opening = false
is_closing_line Closing = true
is_closing_line Plain = false

-- a boundary line and the lines from it up to the next
pub record Section : Type 0 where
  pub place : ℕ
  pub closing : Bool
  pub content : List Text

-- lines: those before the first boundary line, and a section for each boundary line
pub record Sections : Type 0 where
  pub before : List Text
  pub later : List Section

-- a line at a place before sections
abbrev pub with_line : LineForm → ℕ → List ℕ → Sections → Sections
with_line form at line s = if is_plain_line form then record { before = line ∷ s.before; later = s.later }
    else record { before = []; later = record { place = at; closing = is_closing_line form; content = s.before } ∷ s.later }

-- the sections of lines, of which the first begins at this place of the body; a line takes its bytes and CR LF
unfoldable pub sections : List ℕ → ℕ → List Text → Sections
sections dash at [] = record { before = []; later = [] }
sections dash at (line ∷ more) = with_line (line_form dash line) at line (sections dash (at + length line + 2) more)

-- the first text, where it is there, else the other
abbrev pub first_some : Option (List ℕ) → Option (List ℕ) → Option (List ℕ)
first_some None other = other
first_some (Some text) other = Some text

-- the first Content-Disposition of a part: its head is what stands before the first empty line
unfoldable pub disposition_in : List Text → Option (List ℕ)
disposition_in [] = None
disposition_in (line ∷ more) = if length line == 0 then None else first_some (after_name 58 (codes "content-disposition") line) (disposition_in more)

-- the text of lines, where there is one at least
abbrev pub text_of_some : List Text → Option (List ℕ)
text_of_some [] = None
text_of_some (line ∷ more) = Some (lines_text (line ∷ more))

-- the body of a part: what follows the first empty line
unfoldable pub value_in : List Text → Option (List ℕ)
value_in [] = None
value_in (line ∷ more) = if length line == 0 then text_of_some more else value_in more

-- a text, where it is in UTF-8
abbrev pub if_utf8 : Option (List ℕ) → Option (List ℕ)
if_utf8 None = None
if_utf8 (Some text) = if is_utf8 text then Some text else None

-- the name of a part by its Content-Disposition: that of one of `form-data`, in UTF-8
abbrev pub part_name : Option (List ℕ) → Option (List ℕ)
part_name None = None
part_name (Some disposition) = if is_type (codes "form-data") disposition then if_utf8 (parameter (codes "name") disposition) else None

-- a name and a value, where both are there
abbrev pub both : Option (List ℕ) → Option (List ℕ) → Option (List ℕ × List ℕ)
both None value = None
both (Some name) None = None
both (Some name) (Some value) = Some (name, value)

-- the name and the value of a part, where it has a Content-Disposition of `form-data` with a name, and a body, both in UTF-8
abbrev pub pair_of : List Text → Option (List ℕ × List ℕ)
pair_of content = both (part_name (disposition_in content)) (if_utf8 (value_in content))

-- the most pairs of a form
abbrev pub most_pairs : ℕ
most_pairs = 1000

-- pairs before those of the rest, where it has no fault
abbrev pub before_all : Pairs → Result Pairs FormFault → Result Pairs FormFault
before_all pairs (Ok more) = Ok (pairs ++ more)
before_all pairs (Err fault) = Err fault

-- a part at a place, after n others, and the reading of the rest
abbrev pub with_part : ℕ → ℕ → Option (List ℕ × List ℕ) → Result Pairs FormFault → Result Pairs FormFault
with_part n place None rest = Err (BadPart place)
with_part n place (Some pair) rest = if n == most_pairs then Err TooMany else before_all (pair ∷ []) rest

-- the pairs of sections in a body of `end` bytes, after n others: a part is a section that another follows, and the closing line ends them
unfoldable pub pairs_of : ℕ → ℕ → List Section → Result Pairs FormFault
pairs_of end n [] = Err (BadPart end)
pairs_of end n (s ∷ []) = if s.closing then Ok [] else Err (BadPart end)
pairs_of end n (s ∷ next ∷ more) = if s.closing then Ok [] else with_part n s.place (pair_of s.content) (pairs_of end (n + 1) (next ∷ more))

-- what a body reads as
abbrev pub multipart_of : List ℕ → List ℕ → Result Pairs FormFault
multipart_of boundary body = pairs_of (length body) 0 (sections (dash_boundary boundary) 0 (lines body)).later
