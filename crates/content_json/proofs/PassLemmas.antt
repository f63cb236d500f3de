-- What tokens begin with, a token at a time.
use Rattle.std.proofs.Common.{◌≡◌, ◌<◌, ◌-◌, ℕ, suc, List, [], ◌∷◌, length, Bool, true, false, Option, Some, None, option_map, is_some, is_none, Bor, refl, sym, ap, ◌∙◌, subst}
use Rattle.std.proofs.lemmas.Bool.{true≢false, false≢true}
use Rattle.json.specs.Token.{Token}
use Rattle.json.specs.Json as json
use Rattle.json.specs.Json.{parse_map, read_key, items, members, value}
use Rattle.json.proofs.Grammar.{value_is, value-begin_array, value-begin_object}
use Rattle.serde_json.specs.Data.{Num, Data, number, array, object, Items, Members}
use Rattle.serde_json.specs.Read.{number_of, of_json, converted, read}
use Rattle.content_json.proofs.ReadLemmas.{converted-array, converted-object, whole, whole_read}
use Rattle.json.specs.Lex.{tokens}
use Rattle.content_json.specs.Names.{is_object}
use Rattle.content_json.specs.Tokens.{is_begin_object, IsUnsound, value_of_tokens, items_of_tokens, members_of_tokens, IsPassedOver, token_data}

read_as : (ts : List Token) (o : Option Data) (d : Data) → o ≡ Some d → option_map {U = Data × List Token} (λ x. (x, ts)) o ≡ Some (d, ts)
read_as ts o d e = ap (option_map (λ x. (x, ts))) e

-- a token that is a value by itself
pub one_value : (depth : ℕ) (t : Token) (ts : List Token) (d : Data) → token_data t ≡ Some d → value_of_tokens depth (t ∷ ts) ≡ Some (d, ts)
one_value depth Token.begin_object ts d e = absurd (cc)
one_value depth Token.end_object ts d e = absurd (cc)
one_value depth Token.begin_array ts d e = absurd (cc)
one_value depth Token.end_array ts d e = absurd (cc)
one_value depth (Token.key s) ts d e = absurd (cc)
one_value depth (Token.string s) ts d e = ap (converted of_json) (value_is depth _) ∙ read_as ts _ d e
one_value depth (Token.number s) ts d e = ap (converted of_json) (value_is depth _) ∙ read_as ts _ d e
one_value depth (Token.boolean b) ts d e = ap (converted of_json) (value_is depth _) ∙ read_as ts _ d e
one_value depth Token.null ts d e = ap (converted of_json) (value_is depth _) ∙ read_as ts _ d e
one_value depth Token.bad ts d e = absurd (cc)

-- a number that is none
pub no_number : (depth : ℕ) (s : List ℕ) (ts : List Token) → number_of s ≡ None → value_of_tokens depth (Token.number s ∷ ts) ≡ None
no_number depth s ts e = ap (converted of_json) (value_is depth _) ∙ ap (λ o. option_map (λ x. (x, ts)) (option_map number o)) e

-- a token that no value begins with
abbrev pub begins_none : Token → Bool
begins_none Token.begin_object = false
begins_none Token.end_object = true
begins_none Token.begin_array = false
begins_none Token.end_array = true
begins_none (Token.key s) = true
begins_none (Token.string s) = false
begins_none (Token.number s) = false
begins_none (Token.boolean b) = false
begins_none Token.null = false
begins_none Token.bad = true

pub no_value : (depth : ℕ) (t : Token) (ts : List Token) → begins_none t ≡ true → value_of_tokens depth (t ∷ ts) ≡ None
no_value depth Token.begin_object ts e = absurd (cc)
no_value depth Token.end_object ts e = ap (converted of_json) (value_is depth _)
no_value depth Token.begin_array ts e = absurd (cc)
no_value depth Token.end_array ts e = ap (converted of_json) (value_is depth _)
no_value depth (Token.key s) ts e = ap (converted of_json) (value_is depth _)
no_value depth (Token.string s) ts e = absurd (cc)
no_value depth (Token.number s) ts e = absurd (cc)
no_value depth (Token.boolean b) ts e = absurd (cc)
no_value depth Token.null ts e = absurd (cc)
no_value depth Token.bad ts e = ap (converted of_json) (value_is depth _)

-- no token at all
pub none_left : (depth : ℕ) (ts : List Token) → ts ≡ [] → value_of_tokens depth ts ≡ None
none_left depth ts e = ap (λ us. converted of_json (value depth us)) e ∙ ap (converted of_json) (value_is depth [])

pub array_in : (depth : ℕ) (ts : List Token) → 0 < depth → value_of_tokens depth (Token.begin_array ∷ ts) ≡ parse_map array (items_of_tokens (depth - 1) ts)
array_in depth ts h = ap (converted of_json) (value-begin_array depth ts h) ∙ converted-array (items (value (depth - 1)) (length ts) ts)

pub object_in : (depth : ℕ) (ts : List Token) → 0 < depth → value_of_tokens depth (Token.begin_object ∷ ts) ≡ parse_map object (members_of_tokens (depth - 1) ts)
object_in depth ts h = ap (converted of_json) (value-begin_object depth ts h) ∙ converted-object (members (value (depth - 1)) (length ts) ts)

pub array_in_more : (depth : ℕ) (ts : List Token) → value_of_tokens (suc depth) (Token.begin_array ∷ ts) ≡ parse_map array (items_of_tokens depth ts)
unfolding value
array_in_more depth ts = converted-array (items (value depth) (length ts) ts)

pub object_in_more : (depth : ℕ) (ts : List Token) → value_of_tokens (suc depth) (Token.begin_object ∷ ts) ≡ parse_map object (members_of_tokens depth ts)
unfolding value
object_in_more depth ts = converted-object (members (value depth) (length ts) ts)

pub no_array : (depth : ℕ) (ts : List Token) → depth ≡ 0 → value_of_tokens depth (Token.begin_array ∷ ts) ≡ None
no_array depth ts e = ap (λ n. value_of_tokens n (Token.begin_array ∷ ts)) e ∙ ap (converted of_json) (value_is 0 _)

pub no_object : (depth : ℕ) (ts : List Token) → depth ≡ 0 → value_of_tokens depth (Token.begin_object ∷ ts) ≡ None
no_object depth ts e = ap (λ n. value_of_tokens n (Token.begin_object ∷ ts)) e ∙ ap (converted of_json) (value_is 0 _)

-- what is passed is passed under what is made of it
pub passes_under : {A B : Type 0} (f : A → B) (b : Bool) (o : Option (A × List Token)) (rest : List Token) → IsPassedOver b o rest → IsPassedOver b (parse_map f o) rest
passes_under f true o rest h = (f h.0, ap (parse_map f) h.1)
passes_under f false o rest h = ap (parse_map f) h

pub passes_number : (depth : ℕ) (s : List ℕ) (ts : List Token) (b : Bool) → b ≡ is_some (number_of s) → IsPassedOver b (value_of_tokens depth (Token.number s ∷ ts)) ts
passes_number depth s ts b e =
    elim (number_of s) as (λ o. number_of s ≡ o → b ≡ is_some o → IsPassedOver b (value_of_tokens depth (Token.number s ∷ ts)) ts) [
      | None ↦ λ none same. subst (λ (c : Bool). IsPassedOver c (value_of_tokens depth (Token.number s ∷ ts)) ts) (sym same) (no_number depth s ts none)
      | Some n ↦ λ found same. subst (λ (c : Bool). IsPassedOver c (value_of_tokens depth (Token.number s ∷ ts)) ts) (sym same) (number n, one_value depth (Token.number s) ts (number n) (ap (option_map number) found))
    ] refl e

-- ---- keys

pub named : (key : Option (Bor (List ℕ))) → is_none key ≡ false → (k : List ℕ) × (option_map (λ s. s.now) key ≡ Some k)
named None h = absurd (cc)
named (Some s) h = (s.now, refl)

pub keyed : (ts rest : List Token) (key : Option (Bor (List ℕ))) (k : List ℕ) → option_map (λ s. s.now) key ≡ Some k → read_key ts ≡ Some (option_map (λ s. s.now) key, rest) → read_key ts ≡ Some (Some k, rest)
keyed ts rest key k e h = h ∙ ap (λ o. Some (o, rest)) e

pub twice : {A B C : Type 0} (f : B → C) (g : A → B) (o : Option (A × List Token)) → parse_map f (parse_map g o) ≡ parse_map (λ a. f (g a)) o
twice f g None = refl
twice f g (Some p) = refl

-- ---- a value that is an object

pub begins_object : (t : Token) → is_begin_object t ≡ true → t ≡ Token.begin_object
begins_object Token.begin_object e = refl
begins_object Token.end_object e = absurd (cc)
begins_object Token.begin_array e = absurd (cc)
begins_object Token.end_array e = absurd (cc)
begins_object (Token.key s) e = absurd (cc)
begins_object (Token.string s) e = absurd (cc)
begins_object (Token.number s) e = absurd (cc)
begins_object (Token.boolean b) e = absurd (cc)
begins_object Token.null e = absurd (cc)
begins_object Token.bad e = absurd (cc)

abbrev is_one : Option (Data × List Token) → Bool
is_one None = false
is_one (Some q) = is_object q.0

no_one : (o : Option (Items × List Token)) → is_one (parse_map array o) ≡ false
no_one None = refl
no_one (Some q) = refl

no_number_one : (ts : List Token) (o : Option Num) → is_one (option_map (λ x. (x, ts)) (option_map number o)) ≡ false
no_number_one ts None = refl
no_number_one ts (Some n) = refl

told_no_object : (depth : ℕ) (t : Token) (ts : List Token) → is_begin_object t ≡ false → is_one (value_of_tokens (suc depth) (t ∷ ts)) ≡ false
told_no_object depth Token.begin_object ts e = absurd (cc)
told_no_object depth Token.end_object ts e = ap is_one (no_value (suc depth) Token.end_object ts refl)
told_no_object depth Token.begin_array ts e = ap is_one (array_in_more depth ts) ∙ no_one (items_of_tokens depth ts)
told_no_object depth Token.end_array ts e = ap is_one (no_value (suc depth) Token.end_array ts refl)
told_no_object depth (Token.key s) ts e = ap is_one (no_value (suc depth) (Token.key s) ts refl)
told_no_object depth (Token.string s) ts e = ap is_one (one_value (suc depth) (Token.string s) ts _ refl)
told_no_object depth (Token.number s) ts e = ap is_one (ap (converted of_json) (value_is (suc depth) _)) ∙ no_number_one ts (number_of s)
told_no_object depth (Token.boolean b) ts e = ap is_one (one_value (suc depth) (Token.boolean b) ts _ refl)
told_no_object depth Token.null ts e = ap is_one (one_value (suc depth) Token.null ts _ refl)
told_no_object depth Token.bad ts e = ap is_one (no_value (suc depth) Token.bad ts refl)

-- ---- the whole text

read_back : (o : Option (json.Json × List Token)) (d : Data) → whole o ≡ Some d → converted of_json o ≡ Some (d, [])
read_back None d e = absurd (cc)
read_back (Some (j, [])) d e = ap (option_map (λ x. (x, []))) e
read_back (Some (j, t ∷ r)) d e = absurd (cc)

-- what a text is, is what its tokens begin with, before no others
pub value_of_text : (text : List ℕ) (d : Data) → read text ≡ Some d → value_of_tokens 127 (tokens text) ≡ Some (d, [])
value_of_text text d e = read_back (value 127 (tokens text)) d e

pub text_of_value : (text : List ℕ) (d : Data) → value_of_tokens 127 (tokens text) ≡ Some (d, []) → read text ≡ Some d
text_of_value text d e = whole_read (value 127 (tokens text)) d e

pub unsound_unless_read : (text : List ℕ) → value_of_tokens 127 (tokens text) ≡ None → IsUnsound text
unsound_unless_read text e ms is = absurd (let never : None ≡ Some (object ms, []) = sym e ∙ value_of_text text (object ms) is in cc)

pub unsound_unless_last : (text : List ℕ) (d : Data) (t : Token) (rest : List Token) → value_of_tokens 127 (tokens text) ≡ Some (d, t ∷ rest) → IsUnsound text
unsound_unless_last text d t rest e ms is = absurd (false≢true (ap ends (sym (value_of_text text (object ms) is) ∙ e) ∙ refl))
  where
    ends : Option (Data × List Token) → Bool
    ends None = false
    ends (Some (d, [])) = false
    ends (Some (d, t ∷ r)) = true

pub unsound_unless_object : (text : List ℕ) (t : Token) (ts : List Token) → tokens text ≡ t ∷ ts → is_begin_object t ≡ false → IsUnsound text
unsound_unless_object text t ts first other ms is =
    absurd (true≢false (ap is_one (sym (value_of_text text (object ms) is) ∙ ap (value_of_tokens 127) first) ∙ told_no_object 126 t ts other))

pub unsound_unless_begun : (text : List ℕ) → tokens text ≡ [] → IsUnsound text
unsound_unless_begun text e = unsound_unless_read text (none_left 127 (tokens text) e)

-- what is found is of the one object that the text is
pub same_object : (text : List ℕ) (found ms : Members) → value_of_tokens 127 (tokens text) ≡ Some (object found, []) → read text ≡ Some (object ms) → found ≡ ms
same_object text found ms e is = ap (members_or found) (sym (text_of_value text (object found) e) ∙ is)
  where
    members_or : Members → Option Data → Members
    members_or other (Some (object ms)) = ms
    members_or other _ = other
