-- What the parser finds at the beginning of a stream.
use Rattle.std.proofs.Common.{◌≡◌, refl, ◌<◌, ◌≤◌, ◌+◌, ◌*◌, ℕ, true, List, [], ◌∷◌, ◌++◌, length, take, drop, sym, ◌∙◌, ap, subst, arith, length-append, length-take, length-drop, get_or, map, flat_map, suc, ◌-◌}
use Rattle.std.specs.Prelude.{All, IsUtf8, slice_range}
use Rattle.std.proofs.lemmas.Bool.Decides.{nat_tests}
use Rattle.std.proofs.lemmas.List.Elements.{All-weaker, All-map, All-head}
use Rattle.std.proofs.lemmas.Str.{IsUtf8-from_ascii}
use Rattle.std.proofs.lemmas.Str.Ascii.{IsAscii-from_all}
use Rattle.httparse.specs.Grammar.{is_token_byte, IsToken, LineEnd, crlf, lf, print_end, Field, IsField, print_field, print_section, RequestHead, print_request, ReadsRequest}
use Rattle.httparse.specs.Grammar.{print_blank, print_version}
use Rattle.httparse.proofs.GrammarLemmas.{print_request-append}
use Rattle.httparse.proofs.PieceLemmas.{print_field-append}
use Rattle.http_header.specs.Token as header
use Rattle.httparse.specs.declared.spans.Span.{Span}
use Rattle.httparse.specs.Spans.{header_bytes, span_bytes, IsHeaderWithin, IsRequestWithin, IsRequestAt, RequestExceeds, name_and_value}
use Rattle.httparse.specs.declared.spans.HeaderSpan.{HeaderSpan}
use Rattle.httparse.specs.declared.spans.RequestSpans.{RequestSpans}
use Rattle.http_front.specs.declared.head.AskedHead.{AskedHead}
use Rattle.http_front.specs.Heads.{HeadParts, request_parts_at, AreTexts, AreWithin, Asks}
use Rattle.std.proofs.lemmas.List.{take-append-le, drop-append-le, take-append-drop, length-take-le}
use Rattle.http_front.specs.StreamBeginnings.{HoldsHead, HoldsSomeHead}
use Rattle.http_front.specs.Turns.{BeginsAsking, longest_head}

token_is_ascii : (b : ℕ) → is_token_byte b ≡ true → b < 128
unfolding is_token_byte
token_is_ascii b token = grind (arith, nat_tests)

token_is_text : (bytes : List ℕ) → IsToken bytes → IsUtf8 bytes
token_is_text bytes token = IsUtf8-from_ascii _ (IsAscii-from_all _ (All-weaker (λ b. is_token_byte b ≡ true) (λ b. b < 128) token_is_ascii _ token.1))

-- both grammars have the same tokens
same_byte : (b : ℕ) → is_token_byte b ≡ true → header.is_token_byte b ≡ true
unfolding is_token_byte header.is_token_byte
same_byte b token = token

same_token : (bytes : List ℕ) → IsToken bytes → header.IsToken bytes
same_token bytes token = (token.0, All-weaker (λ b. is_token_byte b ≡ true) (λ b. header.is_token_byte b ≡ true) same_byte bytes token.1)

-- a part is no longer than the whole
span_short : (bytes : List ℕ) (span : Span) → length (span_bytes bytes span) ≤ length bytes
span_short bytes span = omega (arith, length-take (span.end - span.start) (drop span.start bytes), length-drop span.start bytes)

short_names : (bytes : List ℕ) (spans : List HeaderSpan) → length bytes ≤ longest_head → All (λ field. length field.0 ≤ 65535) (map (header_bytes bytes) spans)
short_names bytes spans small = All-map (λ field. length field.0 ≤ 65535) (header_bytes bytes) spans (λ i d inside. omega (arith, small, span_short bytes (get_or spans i d).name))

-- method and target of a head are texts, and its names may be those of fields
pub texts : (bytes : List ℕ) (spans : List HeaderSpan) (at : RequestSpans) → length bytes ≤ longest_head → HoldsSomeHead bytes spans at → AreTexts (request_parts_at bytes spans at)
texts bytes spans at small holds =
    let head = holds.0 in
    let same = holds.1.parts_are in
    let tokens = All-map (λ field. header.IsToken field.0) name_and_value head.fields (All-weaker IsField (λ f. header.IsToken f.name) (λ f h. same_token f.name h.name) head.fields holds.1.reads.0.fields) in
    let here : All (λ field. header.IsToken field.0) (request_parts_at bytes spans at).fields = subst (λ (p : HeadParts). All (λ field. header.IsToken field.0) p.fields) (sym same) tokens in
    record {
      method = subst (λ (p : HeadParts). IsUtf8 p.method) (sym same) (token_is_text head.method holds.1.reads.0.method);
      target = subst (λ (p : HeadParts). IsUtf8 p.target) (sym same) holds.1.reads.0.target_text;
      names = λ i d inside. (here i d inside, short_names bytes spans small i d inside);
    }

-- and its version is 1.0 or 1.1
pub version : (bytes : List ℕ) (fields : List HeaderSpan) (spans : RequestSpans) → HoldsSomeHead bytes fields spans → spans.version ≤ 1
version bytes fields spans holds = subst (λ (p : HeadParts). p.minor ≤ 1) (sym holds.1.parts_are) holds.1.reads.0.minor

-- the parser's spans are such places
pub holds : (bytes : List ℕ) (places : List HeaderSpan) (spans : RequestSpans) (head : RequestHead) → IsRequestWithin bytes places spans → IsRequestAt bytes places spans head
    → HoldsHead bytes (take spans.headers places) spans head
holds bytes places spans head w at = record {
  reads = at.reads;
  len_is = at.len;
  len_fits = w.section.len_fits;
  parts_are = λ i. record { method = at.method i; target = at.path i; minor = at.version i; fields = at.fields i };
}

-- a head takes a byte at least
head_long : (h : RequestHead) → length (print_request h)
    ≡ length (print_blank h.blank) + (length h.method + (1 + (length h.target + (1 + (length (print_version h.minor) + (length (print_end h.line_end) + length (print_section h.fields h.last)))))))
head_long h =
    let last = print_section h.fields h.last ++ [] in
    let ends = print_end h.line_end ++ last in
    let version = print_version h.minor ++ ends in
    let target = h.target ++ 32 ∷ version in
    let method = h.method ++ 32 ∷ target in
    omega (
      arith,
      length-append (print_request h) [],
      ap length (print_request-append h []),
      length-append (print_blank h.blank) method,
      length-append h.method (32 ∷ target),
      length-append h.target (32 ∷ version),
      length-append (print_version h.minor) ends,
      length-append (print_end h.line_end) last,
      length-append (print_section h.fields h.last) [],
    )

pub head_takes_bytes : (h : RequestHead) → 0 < length (print_request h)
head_takes_bytes h = omega (arith, head_long h)

pub asking : (bytes : List ℕ) (fields : List HeaderSpan) (spans : RequestSpans) (asked : AskedHead) → length bytes ≤ longest_head → HoldsSomeHead bytes fields spans → Asks (request_parts_at bytes fields spans) asked
    → (0 < spans.len) × (spans.len ≤ length bytes) × BeginsAsking bytes asked (drop spans.len bytes)
asking bytes fields spans asked small holds asks = (
  subst (λ n. 0 < n) (sym holds.1.len_is) (head_takes_bytes holds.0),
  holds.1.len_fits,
  record {
    head = holds.0;
    begins = record { reads = holds.1.reads; fits = omega (arith, holds.1.len_is, holds.1.len_fits, small) };
    asks = subst (λ p. Asks p asked) holds.1.parts_are asks;
  },
)

-- what stands in the first bytes stands there in all
range_in : (bytes : List ℕ) (n a b : ℕ) → a ≤ b → b ≤ n → n ≤ length bytes → slice_range (take n bytes) a b ≡ slice_range bytes a b
range_in bytes n a b order fits there =
    let first = take n bytes in
    let rest = drop n bytes in
    let long : length first ≡ n = length-take-le n bytes there in
    let short : b - a ≤ length (drop a first) = omega (arith, length-drop a first, long, order, fits) in
    sym (ap (λ (l : List ℕ). slice_range l a b) (sym (take-append-drop n bytes))
    ∙ ap (λ (l : List ℕ). take (b - a) l) (drop-append-le a first rest (omega (arith, long, order, fits))) ∙ take-append-le (b - a) (drop a first) rest short)

fields_in : (bytes : List ℕ) (n : ℕ) (spans : List HeaderSpan) → n ≤ length bytes → All (IsHeaderWithin n) spans → map (header_bytes (take n bytes)) spans ≡ map (header_bytes bytes) spans
fields_in bytes n [] there within = refl
fields_in bytes n (span ∷ spans) there within =
    let own = All-head (IsHeaderWithin n) span spans within in
    let rest = fields_in bytes n spans there (λ k d l. within (suc k) d (omega (arith, l))) in
    λ i. (range_in bytes n span.name.start span.name.end own.0.0 own.0.1 there i, range_in bytes n span.value.start span.value.end own.1.0 own.1.1 there i) ∷ rest i

-- the parts that stand in the first bytes stand there in all
pub parts_in : (bytes : List ℕ) (n : ℕ) (spans : List HeaderSpan) (at : RequestSpans) → n ≤ length bytes → AreWithin n spans at
    → request_parts_at (take n bytes) spans at ≡ request_parts_at bytes spans at
parts_in bytes n spans at there within = λ i. record {
  method = range_in bytes n at.method.start at.method.end within.method.0 within.method.1 there i;
  target = range_in bytes n at.path.start at.path.end within.path.0 within.path.1 there i;
  minor = at.version;
  fields = fields_in bytes n spans there within.fields_fit i;
}

-- ---- room

end_long : (e : LineEnd) → 1 ≤ length (print_end e)
end_long crlf = omega arith
end_long lf = omega arith

field_long : (f : Field) → IsField f → 3 ≤ length (print_field f)
field_long f h =
    let last = print_end f.end ++ [] in
    omega (
      arith,
      h.name.0,
      length-append (print_field f) [],
      ap length (print_field-append f []),
      length-append f.name (58 ∷ (f.raw ++ last)),
      length-append f.raw last,
      length-append (print_end f.end) [],
      end_long f.end,
    )

fields_long : (fields : List Field) → All IsField fields → 3 * length fields ≤ length (flat_map print_field fields)
fields_long [] all = omega arith
fields_long (f ∷ fields) all =
    omega (arith, length-append (print_field f) (flat_map print_field fields), field_long f (All-head IsField f fields all), fields_long fields (λ k d l. all (suc k) d (omega (arith, l))))

section_in : (h : RequestHead) → length (flat_map print_field h.fields) ≤ length (print_request h)
section_in h = omega (arith, head_long h, length-append (flat_map print_field h.fields) (print_end h.last))

-- bytes that are no more than a head may have don't hold more fields than 8,192
pub room_is_enough : (bytes : List ℕ) → length bytes ≤ longest_head → RequestExceeds 8192 bytes → ⊥
room_is_enough bytes small e =
    let leading = e.0 in
    let rest = e.1 in
    let head = e.3 in
    let reads : ReadsRequest (leading ++ print_end lf) head [] = e.4 in
    let many : 8192 < length head.fields = e.5 in
    let size : length (leading ++ print_end lf) ≡ length (print_request head) + 0 = ap length reads.1 ∙ length-append (print_request head) [] in
    let cut : length bytes ≡ length leading + length rest = ap length e.2 ∙ length-append leading rest in
    omega (arith, small, many, size, cut, length-append leading (print_end lf), section_in head, fields_long head.fields reads.0.fields)
