-- The tokens of an array and of properties, one more item at a time.
use Rattle.std.proofs.Common.{◌≡◌, ◌+◌, ◌<◌, ◌≤◌, ◌++◌, ◌^◌, ℕ, ℤ, pos, negsuc, SFits, w64, Bool, true, List, [], ◌∷◌, length, take, get_or, slice_get, Some, refl, sym, ◌∙◌, ap, subst, arith, append_assoc}
use Rattle.std.specs.Prelude.{flat_map}
use Rattle.std.specs.List.{list_all}
use Rattle.std.proofs.lemmas.Bool.{lt-ltb, and_parts}
use Rattle.std.proofs.lemmas.List.{take_more, append-nil, take_all}
use Rattle.std.proofs.lemmas.List.Concat.{flat_map-append}
use Rattle.std.proofs.lemmas.Option.{slice_get_within, get_or_from_slice_get}
use Rattle.json.specs.Json.{Json, array, Members, no_members}
use Rattle.json.specs.Token.{Token}
use Rattle.json.specs.Tree.{json_tokens, items_tokens, members_tokens}
use Rattle.json.specs.Print.{print}
use Rattle.json.specs.Written.{Written}
use Rattle.sp_base.specs.declared.value.Value.{Value}
use Rattle.property_json.specs.PropertyJson.{fits_i64, Adds, items_of, json_of_value, members_before, property_tokens, properties_text}

items_are : {A : Type 0} (f : A → Json) (xs : List A) → items_tokens (items_of f xs) ≡ flat_map (λ x. json_tokens (f x)) xs ++ Token.end_array ∷ []
items_are f [] = refl
items_are f (x ∷ xs) =
    ap (λ ts. json_tokens (f x) ++ ts) (items_are f xs)
    ∙ sym (append_assoc (json_tokens (f x)) (flat_map (λ y. json_tokens (f y)) xs) (Token.end_array ∷ []))

-- n items of an array were written, after its bracket
pub record Wrote {A : Type 0} (f : A → Json) (old mid : Written) (n : ℕ) (xs : List A) : Type 0 where
  pub tokens : mid.tokens ≡ old.tokens ++ (Token.begin_array ∷ flat_map (λ x. json_tokens (f x)) (take n xs))
  pub before : mid.before ≡ old.before

pub wrote_more : {A : Type 0} (f : A → Json) (old mid new : Written) (n : ℕ) (xs : List A) (x : A) → Wrote f old mid n xs → n < length xs → x ≡ get_or xs n x
    → new.tokens ≡ mid.tokens ++ json_tokens (f x) → new.before ≡ mid.before → Wrote f old new (n + 1) xs
wrote_more {A = A} f old mid new n xs x w lt is e b =
    let g = λ (y : A). json_tokens (f y) in
    let prefix = flat_map g (take n xs) in
    record {
      tokens = e ∙ ap (λ ts. ts ++ g x) w.tokens ∙ append_assoc old.tokens (Token.begin_array ∷ prefix) (g x)
          ∙ ap (λ ts. old.tokens ++ (Token.begin_array ∷ ts))
          (ap (λ ts. prefix ++ ts) (sym (append-nil (g x))) ∙ sym (flat_map-append g (take n xs) (x ∷ []))
          ∙ ap (flat_map g) (ap (λ y. take n xs ++ y ∷ []) is ∙ sym (take_more xs n x lt)));
      before = b ∙ w.before;
    }

pub wrote_all : {A : Type 0} (f : A → Json) (old mid new : Written) (n : ℕ) (xs : List A) → Wrote f old mid n xs → length xs ≤ n
    → new.tokens ≡ mid.tokens ++ Token.end_array ∷ [] → new.before ≡ mid.before → Adds old new (json_tokens (array (items_of f xs)))
wrote_all {A = A} f old mid new n xs w le e b =
    let g = λ (y : A). json_tokens (f y) in
    record {
      tokens = e ∙ ap (λ ts. ts ++ Token.end_array ∷ []) w.tokens ∙ append_assoc old.tokens (Token.begin_array ∷ flat_map g (take n xs)) (Token.end_array ∷ [])
          ∙ ap (λ ys. old.tokens ++ (Token.begin_array ∷ (flat_map g ys ++ Token.end_array ∷ []))) (take_all n xs le)
          ∙ ap (λ ts. old.tokens ++ (Token.begin_array ∷ ts)) (sym (items_are f xs));
      before = b ∙ w.before;
    }

pub property_tokens-append : (ps qs : List (List ℕ × Value)) → property_tokens (ps ++ qs) ≡ property_tokens ps ++ property_tokens qs
property_tokens-append [] qs = refl
property_tokens-append ((name, value) ∷ ps) qs =
    ap (λ ts. (Token.key name ∷ json_tokens (json_of_value value)) ++ ts) (property_tokens-append ps qs)
    ∙ sym (append_assoc (Token.key name ∷ json_tokens (json_of_value value)) (property_tokens ps) (property_tokens qs))

pub members_are : (ps : List (List ℕ × Value)) (ms : Members) → members_tokens (members_before ps ms) ≡ property_tokens ps ++ members_tokens ms
members_are [] ms = refl
members_are ((name, value) ∷ ps) ms =
    ap (λ ts. Token.key name ∷ (json_tokens (json_of_value value) ++ ts)) (members_are ps ms)
    ∙ ap (λ ts. Token.key name ∷ ts) (sym (append_assoc (json_tokens (json_of_value value)) (property_tokens ps) (members_tokens ms)))

-- one more property was written: its name, and its value
pub property_more : (old mid key new : Written) (ps : List (List ℕ × Value)) (i : ℕ) (name : List ℕ) (value : Value) → Adds old mid (property_tokens (take i ps))
    → Some (name, value) ≡ slice_get ps i → key.tokens ≡ mid.tokens ++ Token.key name ∷ [] → key.before ≡ mid.before
    → Adds key new (json_tokens (json_of_value value)) → Adds old new (property_tokens (take (i + 1) ps))
property_more old mid key new ps i name value a at k b v =
    let js = json_tokens (json_of_value value) in
    let prefix = property_tokens (take i ps) in
    let within = slice_get_within ps i (name, value) (sym at) in
    let item = get_or_from_slice_get ps i (name, value) (name, value) (sym at) in
    let more : property_tokens (take (i + 1) ps) ≡ prefix ++ (Token.key name ∷ js) =
    ap property_tokens (take_more ps i (name, value) within ∙ ap (λ p. take i ps ++ p ∷ []) item)
    ∙ property_tokens-append (take i ps) ((name, value) ∷ []) ∙ ap (λ ts. prefix ++ ts) (append-nil (Token.key name ∷ js)) in
    record {
      tokens = v.tokens ∙ ap (λ ts. ts ++ js) (k ∙ ap (λ ts. ts ++ Token.key name ∷ []) a.tokens)
          ∙ append_assoc (old.tokens ++ prefix) (Token.key name ∷ []) js ∙ append_assoc old.tokens prefix (Token.key name ∷ js)
          ∙ ap (λ ts. old.tokens ++ ts) (sym more);
      before = v.before ∙ b ∙ a.before;
    }

-- an object with these properties was written into an empty buffer
pub object_is : (start begun mid end : Written) (ps : List (List ℕ × Value)) → start.tokens ≡ [] → begun.tokens ≡ start.tokens ++ Token.begin_object ∷ []
    → Adds begun mid (property_tokens ps) → end.tokens ≡ mid.tokens ++ Token.end_object ∷ []
    → print end.tokens ≡ properties_text ps
unfolding properties_text
object_is start begun mid end ps none b a e =
    ap print
    (e ∙ ap (λ ts. ts ++ Token.end_object ∷ []) (a.tokens ∙ ap (λ ts. ts ++ property_tokens ps) (b ∙ ap (λ ts. ts ++ Token.begin_object ∷ []) none))
    ∙ ap (λ ts. Token.begin_object ∷ ts) (sym (members_are ps no_members)))

-- ---- numbers of 64 bits

pub long_is : (n : ℤ) → SFits w64 n → fits_i64 n ≡ true
long_is (pos n) fits = lt-ltb n (2 ^ 63) (grind arith)
long_is (negsuc n) fits = lt-ltb n (2 ^ 63) (grind arith)

list_all-push : {A : Type 0} (p : A → Bool) (xs : List A) (x : A) → list_all p xs ≡ true → p x ≡ true → list_all p (xs ++ x ∷ []) ≡ true
list_all-push p [] x h is = rw is
list_all-push p (y ∷ xs) x h is = let parts = and_parts (p y) (list_all p xs) h in rw (parts.0) (list_all-push p xs x parts.1 is)

-- what holds of the items so far holds with one more
pub all_more : {A : Type 0} (p : A → Bool) (xs : List A) (n : ℕ) (x : A) → list_all p (take n xs) ≡ true → n < length xs → x ≡ get_or xs n x → p x ≡ true
    → list_all p (take (n + 1) xs) ≡ true
all_more p xs n x h lt is holds = rw (take_more xs n x lt, sym is) (list_all-push p (take n xs) x h holds)

pub all_taken : {A : Type 0} (p : A → Bool) (xs : List A) (n : ℕ) → list_all p (take n xs) ≡ true → length xs ≤ n → list_all p xs ≡ true
all_taken p xs n h le = subst (λ ys. list_all p ys ≡ true) (take_all n xs le) h
