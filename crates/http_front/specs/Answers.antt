-- An answer as bytes (RFC 9112, sections 4 to 6): a status line, field lines, an empty line, and the body.
use Rattle.std.specs.Prelude.{◌==◌, ◌&&◌, ◌||◌, ◌++◌, ℕ, Bool, if◌then◌else◌, List, [], ◌∷◌, codes, decimal, flat_map, length, map}
use Rattle.location_field.specs.Location.{location_of}
use Rattle.sp_base.specs.Bytes.{is_printable_ascii}
use Rattle.httparse.specs.Ascii.{crlf_bytes}
use Rattle.error_answers.specs.Errors.{phrase_of}
use Rattle.sp_base.specs.declared.answer.Answer.{Answer}
use Rattle.sp_base.specs.declared.answer.Mark.{Mark}
use Rattle.sp_base.specs.declared.answer.Mark.TheVariants.{Plain, NoCache, NoStore, MustRevalidate}

-- the status line: the version, the status code and its reason phrase (RFC 9112, section 4)
unfoldable pub status_line : ℕ → List ℕ
status_line status = codes "HTTP/1.1 " ++ decimal status ++ codes " " ++ phrase_of status ++ crlf_bytes

-- a name and a value (RFC 9110, section 5)
abbrev pub Field : Type 0
Field = List ℕ × List ℕ

-- a field as a line of a head (RFC 9112, section 5)
unfoldable pub field_line : Field → List ℕ
field_line field = field.0 ++ codes ": " ++ field.1 ++ crlf_bytes

-- a field that is left out where its value is empty
abbrev pub unless_empty : List ℕ → List ℕ → List Field
unless_empty name value = if length value == 0 then [] else (name, value) ∷ []

-- a text as a field's value: any byte but the printable ones of ASCII is a space, so that none ends the line (RFC 9110, section 5.5)
unfoldable pub printable_value : List ℕ → List ℕ
printable_value text = map (λ b. if is_printable_ascii b then b else 32) text

-- the Cache-Control directive of a mark (RFC 9111, section 5.2.2)
abbrev pub directive_of : Mark → List ℕ
directive_of Plain = []
directive_of NoCache = codes "no-cache"
directive_of NoStore = codes "no-store"
directive_of MustRevalidate = codes "must-revalidate"

-- the methods that are answered, where a method isn't (RFC 9110, sections 10.2.1 and 15.5.6)
abbrev pub allowed_methods : ℕ → List ℕ
allowed_methods status = if status == 405 then codes "GET, HEAD, POST" else []

-- a status without content (RFC 9110, section 6.4.1)
abbrev pub is_without_content : ℕ → Bool
is_without_content status = status == 204 || status == 304

-- Content-Length tells the length of the body that a GET gets (RFC 9110, section 8.6). It is left out where there is no content,
-- and for HEAD where that body is empty.
abbrev pub content_length : Bool → Answer → List ℕ
content_length head_only a = if is_without_content a.status || (head_only && (length a.body == 0)) then [] else decimal (length a.body)

-- the value of a Connection field (RFC 9112, section 9.6)
abbrev pub connection : Bool → List ℕ
connection close = if close then codes "close" else []

-- the fields of an answer, in their order
abbrev pub fields_of : Bool → Bool → Answer → List Field
fields_of head_only close a =
    unless_empty (codes "Content-Type") (printable_value a.kind)
    ++ unless_empty (codes "Location") (location_of a.location)
    ++ unless_empty (codes "Allow") (allowed_methods a.status)
    ++ unless_empty (codes "Cache-Control") (directive_of a.mark)
    ++ unless_empty (codes "Content-Length") (content_length head_only a)
    ++ unless_empty (codes "Connection") (connection close)

-- the content: none for HEAD (RFC 9110, section 9.3.2)
abbrev pub answer_content : Bool → Answer → List ℕ
answer_content head_only a = if head_only || is_without_content a.status then [] else a.body

-- the head of an answer: its status line, its field lines, and the empty line that ends them
unfoldable pub answer_head : Bool → Bool → Answer → List ℕ
answer_head head_only close a = status_line a.status ++ flat_map field_line (fields_of head_only close a) ++ crlf_bytes

-- an answer as it is sent: without its body where only the head is asked for, and as the last of its connection where that closes
unfoldable pub answer_bytes : Bool → Bool → Answer → List ℕ
answer_bytes head_only close a = status_line a.status ++ flat_map field_line (fields_of head_only close a) ++ crlf_bytes ++ answer_content head_only a

-- the answer for which no memory is needed
abbrev pub fixed_507 : List ℕ
fixed_507 = codes "HTTP/1.1 507 Insufficient Storage\r\nContent-Length: 0\r\nConnection: close\r\n\r\n"

-- the interim answer to a sender that waits with its body
abbrev pub interim_100 : List ℕ
interim_100 = codes "HTTP/1.1 100 Continue\r\n\r\n"
