-- How many bytes tokens take at the least, and that a text has no fewer.
use Rattle.std.proofs.Common.{◌≡◌, ◌+◌, ◌/◌, ◌%◌, ◌≤◌, ◌<◌, ◌++◌, ℕ, zero, suc, ℤ, pos, negsuc, List, [], ◌∷◌, length, take, drop, get_or, Bool, true, false, cond, if◌then◌else◌, Some, slice_get, sym, ◌∙◌, ap, arith, append-nil, length-append, take-append-drop}
use Rattle.std.specs.Prelude.{◌==◌, flat_map, sum_by, nat_lt}
use Rattle.std.specs.Fmt.{decimal, digits, digits_onto, digit_glyph, signed_decimal}
use Rattle.std.proofs.lemmas.List.{take_more}
use Rattle.std.proofs.lemmas.List.Concat.{flat_map-append}
use Rattle.std.proofs.lemmas.List.Sums.{sum_by-cons, sum_by-append, sum_by_push}
use Rattle.std.proofs.lemmas.Option.{slice_get_within, get_or_from_slice_get}
use Rattle.json.specs.Json.{Json, boolean, string, array}
use Rattle.json.specs.Token.{Token}
use Rattle.json.specs.Tree.{json_tokens, items_tokens}
use Rattle.json.specs.Print.{escape_letter, escape_byte, escape, quoted, token_text, separator, ends, print_from, print}
use Rattle.sp_base.specs.declared.value.Value.{Value}
use Rattle.property_json.specs.PropertyJson.{items_of, json_of_long, json_of_value, property_tokens}
use Rattle.property_json.proofs.ArrayLemmas.{property_tokens-append}
use Rattle.get_servlet.specs.Steps.{bytes_in}

-- ---- a text has the bytes of its tokens, and commas

print_bytes : (after_value : Bool) (ts : List Token) → bytes_in ts ≤ length (print_from after_value ts)
unfolding print_from
print_bytes after_value [] = omega arith
print_bytes after_value (t ∷ ts) =
    let rest = print_from (ends t) ts in
    omega (arith, sum_by-cons (λ t. length (token_text t)) t ts, length-append (separator after_value t) (token_text t ++ rest), length-append (token_text t) rest, print_bytes (ends t) ts)

pub text_bytes : (ts : List Token) → bytes_in ts ≤ length (print ts)
text_bytes ts = print_bytes false ts

pub bytes-append : (ts us : List Token) → bytes_in (ts ++ us) ≡ bytes_in ts + bytes_in us
bytes-append ts us = sum_by-append (λ t. length (token_text t)) ts us

pub bytes-cons : (t : Token) (ts : List Token) → bytes_in (t ∷ ts) ≡ length (token_text t) + bytes_in ts
bytes-cons t ts = sum_by-cons (λ t. length (token_text t)) t ts

pub bytes-taken : {A : Type 0} (f : A → List Token) (xs : List A) (i : ℕ) → bytes_in (flat_map f (take i xs)) ≤ bytes_in (flat_map f xs)
bytes-taken f xs i =
    let both = ap (λ ys. bytes_in (flat_map f ys)) (sym (take-append-drop i xs)) ∙ ap bytes_in (flat_map-append f (take i xs) (drop i xs)) in
    omega (arith, both, bytes-append (flat_map f (take i xs)) (flat_map f (drop i xs)))

-- ---- a text in quotes is no shorter than itself

either_some : (a b : Bool) (xs ys zs : List ℕ) → 1 ≤ length xs → 1 ≤ length ys → 1 ≤ length zs → 1 ≤ length (cond a xs (cond b ys zs))
either_some true b xs ys zs x y z = x
either_some false true xs ys zs x y z = y
either_some false false xs ys zs x y z = z

byte_some : (x : ℕ) → 1 ≤ length (escape_byte x)
unfolding escape_byte
byte_some x = either_some (nat_lt 0 (escape_letter x)) (nat_lt x 32) _ _ _ (omega arith) (omega arith) (omega arith)

escape_no_shorter : (s : List ℕ) → length s ≤ length (escape s)
escape_no_shorter [] = omega arith
escape_no_shorter (x ∷ s) = omega (arith, byte_some x, length-append (escape_byte x) (escape s), escape_no_shorter s)

quoted_longer : (s : List ℕ) → length s + 2 ≤ length (quoted s)
quoted_longer s = omega (arith, escape_no_shorter s, length-append (escape s) (34 ∷ []))

pub key_bytes : (name : List ℕ) → length name ≤ length (token_text (Token.key name))
key_bytes name = omega (arith, quoted_longer name, length-append (quoted name) (58 ∷ []))

-- with its quotes
pub in_quotes : (text : List ℕ) → length text + 2 ≤ bytes_in (json_tokens (string text))
in_quotes text = omega (arith, quoted_longer text, bytes-cons (Token.string text) [])

pub string_bytes : (text : List ℕ) → length text ≤ bytes_in (json_tokens (string text))
string_bytes text = omega (arith, in_quotes text)

-- ---- a number has a digit, and a truth four bytes

if_longer : (last : Bool) (xs ys : List ℕ) (n : ℕ) → n ≤ length xs → n ≤ length ys → n ≤ length (if last then xs else ys)
if_longer true xs ys n x y = x
if_longer false xs ys n x y = y

onto_longer : (k base : ℕ) (upper : Bool) (n : ℕ) (acc : List ℕ) → length acc ≤ length (digits_onto k base upper n acc)
onto_longer zero base upper n acc = omega arith
onto_longer (suc k) base upper n acc =
    let more = digit_glyph upper (n % base) ∷ acc in
    if_longer (n / base == 0) more (digits_onto k base upper (n / base) more) (length acc) (omega arith) (omega (arith, onto_longer k base upper (n / base) more))

onto_some : (k base : ℕ) (upper : Bool) (n : ℕ) → 1 ≤ length (digits_onto (suc k) base upper n [])
onto_some k base upper n =
    let more = digit_glyph upper (n % base) ∷ [] in
    if_longer (n / base == 0) more (digits_onto k base upper (n / base) more) 1 (omega arith) (omega (arith, onto_longer k base upper (n / base) more))

decimal_some : (n : ℕ) → 1 ≤ length (decimal n)
unfolding digits
decimal_some n = onto_some 63 10 false n

pub long_bytes : (n : ℤ) → 1 ≤ bytes_in (json_tokens (json_of_long n))
long_bytes (pos n) = omega (arith, decimal_some n, bytes-cons (Token.number (signed_decimal (pos n))) [])
long_bytes (negsuc n) = omega (arith, bytes-cons (Token.number (signed_decimal (negsuc n))) [])

pub truth_bytes : (b : Bool) → 4 ≤ bytes_in (json_tokens (boolean b))
truth_bytes true = omega (arith, bytes-cons (Token.boolean true) [])
truth_bytes false = omega (arith, bytes-cons (Token.boolean false) [])

-- ---- arrays

items_bytes : {A : Type 0} (f : A → Json) (least : A → ℕ) → ((x : A) → least x ≤ bytes_in (json_tokens (f x))) → (xs : List A) → sum_by least xs ≤ bytes_in (items_tokens (items_of f xs))
items_bytes f least each [] = omega arith
items_bytes f least each (x ∷ xs) =
    omega (arith, sum_by-cons least x xs, bytes-append (json_tokens (f x)) (items_tokens (items_of f xs)), each x, items_bytes f least each xs)

pub array_bytes : {A : Type 0} (f : A → Json) (least : A → ℕ) → ((x : A) → least x ≤ bytes_in (json_tokens (f x))) → (xs : List A) → sum_by least xs ≤ bytes_in (json_tokens (array (items_of f xs)))
array_bytes f least each xs = omega (arith, items_bytes f least each xs, bytes-cons Token.begin_array (items_tokens (items_of f xs)))

counted : {A : Type 0} (f : A → Json) → ((x : A) → 1 ≤ bytes_in (json_tokens (f x))) → (xs : List A) → length xs ≤ bytes_in (items_tokens (items_of f xs))
counted f each [] = omega arith
counted f each (x ∷ xs) = omega (arith, bytes-append (json_tokens (f x)) (items_tokens (items_of f xs)), each x, counted f each xs)

pub array_no_fewer : {A : Type 0} (f : A → Json) → ((x : A) → 1 ≤ bytes_in (json_tokens (f x))) → (xs : List A) → length xs ≤ bytes_in (json_tokens (array (items_of f xs)))
array_no_fewer f each xs = omega (arith, counted f each xs, bytes-cons Token.begin_array (items_tokens (items_of f xs)))

-- one more item
pub least_more : {A : Type 0} (least : A → ℕ) (xs : List A) (i : ℕ) (x : A) → i < length xs → x ≡ get_or xs i x → sum_by least (take (i + 1) xs) ≡ sum_by least (take i xs) + least x
least_more least xs i x lt is =
    ap (sum_by least) (take_more xs i x lt ∙ ap (λ y. take i xs ++ y ∷ []) (sym is)) ∙ sum_by_push least (take i xs) x

-- ---- properties

-- one more property
pub property_more : (ps : List (List ℕ × Value)) (i : ℕ) (name : List ℕ) (value : Value) → Some (name, value) ≡ slice_get ps i
    → bytes_in (property_tokens (take i ps)) + length name + bytes_in (json_tokens (json_of_value value)) ≤ bytes_in (property_tokens (take (i + 1) ps))
property_more ps i name value at =
    let js = json_tokens (json_of_value value) in
    let within = slice_get_within ps i (name, value) (sym at) in
    let item = get_or_from_slice_get ps i (name, value) (name, value) (sym at) in
    let more : property_tokens (take (i + 1) ps) ≡ property_tokens (take i ps) ++ (Token.key name ∷ js) =
    ap property_tokens (take_more ps i (name, value) within ∙ ap (λ p. take i ps ++ p ∷ []) item)
    ∙ property_tokens-append (take i ps) ((name, value) ∷ []) ∙ ap (λ ts. property_tokens (take i ps) ++ ts) (append-nil (Token.key name ∷ js)) in
    omega (arith, ap bytes_in more, bytes-append (property_tokens (take i ps)) (Token.key name ∷ js), bytes-cons (Token.key name) js, key_bytes name)
