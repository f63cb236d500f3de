-- A value that was written is read as the same value.
use Rattle.std.proofs.Common.{◌≡◌, ℕ, ℤ, pos, negsuc, ◌^◌, Bool, true, false, List, [], ◌∷◌, Some, None, option_map, refl, ap, ◌∙◌, arith}
use Rattle.std.specs.Prelude.{option_and_then}
use Rattle.std.specs.Fmt.{signed_decimal}
use Rattle.std.specs.List.{filter_map, list_all}
use Rattle.std.proofs.lemmas.Bool.{ltb-true, false≢true, and_parts}
use Rattle.json.specs.Json as json
use Rattle.serde_json.specs.Data.{boolean, number, string, array, item}
use Rattle.serde_json.specs.Find.{as_str, as_bool, as_i64, of_integer}
use Rattle.serde_json.specs.Read.{number_of, of_json, of_items}
use Rattle.serde_json.proofs.Numbers.{number_of-decimal, number_of-negative}
use Rattle.sp_base.specs.declared.value.Value.{Value}
use Rattle.sp_base.specs.declared.value.Value.TheVariants.{Text, Long, Truth, Texts, Longs, Truths}
use Rattle.property_json.specs.PropertyJson.{fits_i64, has_longs, items_of, json_of_long, json_of_value}
use Rattle.content_json.specs.declared.kind.Kind.TheVariants as kind
use Rattle.content_json.specs.Names.{is_object}
use Rattle.content_json.specs.Lists.{as_long, items_cause, item_list, data_value}
use Rattle.content_json.specs.Faults.{here, fault_in}
use Rattle.content_json.specs.Nodes.{nodes_in, is_deeper}
use Rattle.content_json.specs.Parts.{items_from, data_of_long, data_of}
use Rattle.content_json.specs.Written.{keeps_kind}

-- ---- reading gives this data

number_is : (n : ℤ) → fits_i64 n ≡ true → number_of (signed_decimal n) ≡ Some (of_integer n)
number_is (pos n) h = let lt = ltb-true n (2 ^ 63) h in number_of-decimal n (omega (arith, lt))
number_is (negsuc n) h = number_of-negative n (ltb-true n (2 ^ 63) h)

pub texts_are : (ts : List (List ℕ)) → of_items (items_of json.string ts) ≡ Some (items_from string ts)
texts_are [] = refl
texts_are (t ∷ ts) = ap (option_map (item (string t))) (texts_are ts)

longs_are : (ns : List ℤ) → list_all fits_i64 ns ≡ true → of_items (items_of json_of_long ns) ≡ Some (items_from data_of_long ns)
longs_are [] h = refl
longs_are (n ∷ ns) h =
    let parts = and_parts (fits_i64 n) (list_all fits_i64 ns) h in
    ap (λ o. option_and_then (λ d. option_map (item d) (of_items (items_of json_of_long ns))) (option_map number o)) (number_is n parts.0)
    ∙ ap (option_map (item (data_of_long n))) (longs_are ns parts.1)

truths_are : (bs : List Bool) → of_items (items_of json.boolean bs) ≡ Some (items_from boolean bs)
truths_are [] = refl
truths_are (b ∷ bs) = ap (option_map (item (boolean b))) (truths_are bs)

pub value_is : (v : Value) → has_longs v ≡ true → of_json (json_of_value v) ≡ Some (data_of v)
value_is (Text t) h = refl
value_is (Long n) h = ap (option_map number) (number_is n h)
value_is (Truth b) h = refl
value_is (Texts ts) h = ap (option_map array) (texts_are ts)
value_is (Longs ns) h = ap (option_map array) (longs_are ns h)
value_is (Truths bs) h = ap (option_map array) (truths_are bs)

-- ---- which stands for the same value

long_back : (n : ℤ) → fits_i64 n ≡ true → as_i64 (of_integer n) ≡ Some n
long_back (pos n) h = rw h refl
long_back (negsuc n) h = refl

pub texts_back : (ts : List (List ℕ)) → filter_map as_str (item_list (items_from string ts)) ≡ ts
texts_back [] = refl
texts_back (t ∷ ts) = ap (λ l. t ∷ l) (texts_back ts)

longs_back : (ns : List ℤ) → list_all fits_i64 ns ≡ true → filter_map as_long (item_list (items_from data_of_long ns)) ≡ ns
longs_back [] h = refl
longs_back (n ∷ ns) h = let parts = and_parts (fits_i64 n) (list_all fits_i64 ns) h in rw (long_back n parts.0) (ap (λ l. n ∷ l) (longs_back ns parts.1))

truths_back : (bs : List Bool) → filter_map as_bool (item_list (items_from boolean bs)) ≡ bs
truths_back [] = refl
truths_back (b ∷ bs) = ap (λ l. b ∷ l) (truths_back bs)

pub value_back : (v : Value) → has_longs v ≡ true → keeps_kind v ≡ true → data_value (data_of v) ≡ Some v
value_back (Text t) h k = refl
value_back (Long n) h k = ap (option_map Long) (long_back n h)
value_back (Truth b) h k = refl
value_back (Texts []) h k = refl
value_back (Texts (t ∷ ts)) h k = ap (λ l. Some (Texts l)) (texts_back (t ∷ ts))
value_back (Longs []) h k = absurd (false≢true k)
value_back (Longs (n ∷ ns)) h k = ap (λ l. Some (Longs l)) (longs_back (n ∷ ns) h)
value_back (Truths []) h k = absurd (false≢true k)
value_back (Truths (b ∷ bs)) h k = ap (λ l. Some (Truths l)) (truths_back (b ∷ bs))

-- ---- and has no fault, no kid and no node

no_cause_texts : (ts : List (List ℕ)) → items_cause kind.Text (items_from string ts) ≡ None
no_cause_texts [] = refl
no_cause_texts (t ∷ ts) = no_cause_texts ts

no_cause_longs : (ns : List ℤ) → list_all fits_i64 ns ≡ true → items_cause kind.Long (items_from data_of_long ns) ≡ None
no_cause_longs [] h = refl
no_cause_longs (n ∷ ns) h = let parts = and_parts (fits_i64 n) (list_all fits_i64 ns) h in rw (long_back n parts.0) (no_cause_longs ns parts.1)

no_cause_truths : (bs : List Bool) → items_cause kind.Truth (items_from boolean bs) ≡ None
no_cause_truths [] = refl
no_cause_truths (b ∷ bs) = no_cause_truths bs

pub value_faultless : (v : Value) → has_longs v ≡ true → fault_in (data_of v) ≡ None
value_faultless (Text t) h = refl
value_faultless (Long n) h = rw (long_back n h) refl
value_faultless (Truth b) h = refl
value_faultless (Texts []) h = refl
value_faultless (Texts (t ∷ ts)) h = ap (option_map here) (no_cause_texts (t ∷ ts))
value_faultless (Longs []) h = refl
value_faultless (Longs (n ∷ ns)) h = ap (option_map here) (no_cause_longs (n ∷ ns) h)
value_faultless (Truths []) h = refl
value_faultless (Truths (b ∷ bs)) h = ap (option_map here) (no_cause_truths (b ∷ bs))

pub value_no_object : (v : Value) → is_object (data_of v) ≡ false
value_no_object (Text t) = refl
value_no_object (Long n) = refl
value_no_object (Truth b) = refl
value_no_object (Texts ts) = refl
value_no_object (Longs ns) = refl
value_no_object (Truths bs) = refl

pub value_no_nodes : (path : List (List ℕ)) (v : Value) → nodes_in path (data_of v) ≡ []
value_no_nodes path (Text t) = refl
value_no_nodes path (Long n) = refl
value_no_nodes path (Truth b) = refl
value_no_nodes path (Texts ts) = refl
value_no_nodes path (Longs ns) = refl
value_no_nodes path (Truths bs) = refl

pub value_shallow : (levels : ℕ) (v : Value) → is_deeper levels (data_of v) ≡ false
value_shallow levels (Text t) = refl
value_shallow levels (Long n) = refl
value_shallow levels (Truth b) = refl
value_shallow levels (Texts ts) = refl
value_shallow levels (Longs ns) = refl
value_shallow levels (Truths bs) = refl
