-- The bytes of fields' values are printable.
use Rattle.std.proofs.Common.{◌≡◌, ◌≢◌, ◌<◌, ◌==◌, ◌^◌, ℕ, Bool, true, false, cond, List, [], ◌∷◌, length, codes, decimal, ap, refl, arith}
use Rattle.std.specs.Prelude.{◌&&◌, ◌||◌, flat_map, map, if◌then◌else◌}
use Rattle.std.specs.List.{All, list_all}
use Rattle.std.specs.Str.Parse.{AllDigits}
use Rattle.std.proofs.lemmas.Bool.Decides.{nat_tests}
use Rattle.std.proofs.lemmas.Fmt.{decimal_is_IsNumeral}
use Rattle.std.proofs.lemmas.List.Elements.{All-nil, All-cons, All-append, All-weaker}
use Rattle.std.proofs.lemmas.Str.Parse.{tells_digits}
use Rattle.location_field.specs.Location.{location_of}
use Rattle.sp_base.specs.Bytes.{is_printable_ascii, is_visible_ascii}
use Rattle.percent_encoding.specs.Percent.{percent_encode_byte}
use Rattle.percent_encoding.proofs.PercentLemmas.{IsEscapeByte, All-percent_encode_byte}
use Rattle.sp_base.specs.declared.answer.Answer.{Answer}
use Rattle.sp_base.specs.declared.answer.Mark.{Mark}
use Rattle.sp_base.specs.declared.answer.Mark.TheVariants.{Plain, NoCache, NoStore, MustRevalidate}
use Rattle.sp_base.proofs.BoolLemmas.{and_first, and_second}
use Rattle.http_front.specs.Answers.{printable_value, unless_empty, allowed_methods, directive_of, is_without_content, content_length, connection}
use Rattle.http_front.specs.FieldValues.{IsPrintable, IsVisible, StaysInItsLine, ValuesStayInTheirLines}

all_tested : (text : List ℕ) → list_all is_printable_ascii text ≡ true → All IsPrintable text
all_tested [] h = All-nil IsPrintable
all_tested (b ∷ text) h = All-cons IsPrintable b text (and_first _ _ h) (all_tested text (and_second _ _ h))

printable_byte : (b : ℕ) → IsPrintable (if is_printable_ascii b then b else 32)
printable_byte b =
    elim (is_printable_ascii b) as (λ t. is_printable_ascii b ≡ t → IsPrintable (cond t b 32)) [
      | true ↦ λ e. e
      | false ↦ λ e. refl
    ] refl

printable_all : (text : List ℕ) → All IsPrintable (map (λ b. if is_printable_ascii b then b else 32) text)
printable_all [] = All-nil IsPrintable
printable_all (b ∷ text) = All-cons IsPrintable _ _ (printable_byte b) (printable_all text)

pub value_printable : (text : List ℕ) → All IsPrintable (printable_value text)
unfolding printable_value
value_printable text = printable_all text

escape_visible : (b : ℕ) → IsEscapeByte b → IsVisible b
escape_visible b h = grind (arith, nat_tests)

location_byte : (b : ℕ) → All IsVisible (if is_visible_ascii b then b ∷ [] else percent_encode_byte b)
location_byte b =
    elim (is_visible_ascii b) as (λ t. is_visible_ascii b ≡ t → All IsVisible (cond t (b ∷ []) (percent_encode_byte b))) [
      | true ↦ λ e. All-cons IsVisible b [] e (All-nil IsVisible)
      | false ↦ λ e. All-weaker IsEscapeByte IsVisible escape_visible (percent_encode_byte b) (All-percent_encode_byte b)
    ] refl

location_all : (text : List ℕ) → All IsVisible (flat_map (λ b. if is_visible_ascii b then b ∷ [] else percent_encode_byte b) text)
location_all [] = All-nil IsVisible
location_all (b ∷ text) = All-append IsVisible _ _ (location_byte b) (location_all text)

location_visible : (text : List ℕ) → All IsVisible (location_of text)
unfolding location_of
location_visible text = location_all text

visible_printable : (b : ℕ) → IsVisible b → IsPrintable b
visible_printable b h = grind (arith, nat_tests)

digits_printable : (ds : List ℕ) → AllDigits 10 ds → All IsPrintable ds
digits_printable [] h = All-nil IsPrintable
digits_printable (d ∷ ds) h =
    let parts = tells_digits.parts d ds h in
    All-cons IsPrintable d ds (grind (arith, nat_tests)) (digits_printable ds parts.1)

methods_printable : (status : ℕ) → All IsPrintable (allowed_methods status)
methods_printable status =
    elim (status == 405) as (λ t. All IsPrintable (cond t (codes "GET, HEAD, POST") [])) [
      | true ↦ all_tested (codes "GET, HEAD, POST") refl
      | false ↦ All-nil IsPrintable
    ]

directive_printable : (mark : Mark) → All IsPrintable (directive_of mark)
directive_printable Plain = All-nil IsPrintable
directive_printable NoCache = all_tested (codes "no-cache") refl
directive_printable NoStore = all_tested (codes "no-store") refl
directive_printable MustRevalidate = all_tested (codes "must-revalidate") refl

length_printable : (head_only : Bool) (a : Answer) → length a.body < 2 ^ 64 → All IsPrintable (content_length head_only a)
length_printable head_only a h =
    elim (is_without_content a.status || (head_only && (length a.body == 0))) as (λ t. All IsPrintable (cond t [] (decimal (length a.body)))) [
      | true ↦ All-nil IsPrintable
      | false ↦ digits_printable _ (decimal_is_IsNumeral (length a.body) h).0.1
    ]

connection_printable : (close : Bool) → All IsPrintable (connection close)
connection_printable true = all_tested (codes "close") refl
connection_printable false = All-nil IsPrintable

field_stays : (name value : List ℕ) → All IsPrintable value → (name ≡ codes "Location" → All IsVisible value) → All StaysInItsLine (unless_empty name value)
field_stays name value h located =
    elim (length value == 0) as (λ t. All StaysInItsLine (cond t [] ((name, value) ∷ []))) [
      | true ↦ All-nil StaysInItsLine
      | false ↦ All-cons StaysInItsLine (name, value) [] (h, located) (All-nil StaysInItsLine)
    ]

-- a name of another length
other_field : (name value : List ℕ) → length name ≢ 8 → name ≡ codes "Location" → All IsVisible value
other_field name value other e = absurd (other (ap length e))

pub values_stay : ValuesStayInTheirLines
values_stay head_only close a h =
    let seen = location_visible a.location in
    let kind = field_stays (codes "Content-Type") _ (value_printable a.kind) (other_field (codes "Content-Type") _ (omega arith)) in
    let location = field_stays (codes "Location") _ (All-weaker IsVisible IsPrintable visible_printable _ seen) (λ _. seen) in
    let methods = field_stays (codes "Allow") _ (methods_printable a.status) (other_field (codes "Allow") _ (omega arith)) in
    let directive = field_stays (codes "Cache-Control") _ (directive_printable a.mark) (other_field (codes "Cache-Control") _ (omega arith)) in
    let size = field_stays (codes "Content-Length") _ (length_printable head_only a h) (other_field (codes "Content-Length") _ (omega arith)) in
    let last = field_stays (codes "Connection") _ (connection_printable close) (other_field (codes "Connection") _ (omega arith)) in
    All-append StaysInItsLine _ _ (All-append StaysInItsLine _ _ (All-append StaysInItsLine _ _ (All-append StaysInItsLine _ _ (All-append StaysInItsLine _ _ kind location) methods) directive) size) last
