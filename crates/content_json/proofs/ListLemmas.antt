-- Arrays that are read item by item.
use Rattle.std.proofs.Common.{◌≡◌, ◌==◌, ◌<◌, ◌-◌, ℕ, zero, suc, ℤ, not, if◌then◌else◌, arith, Bool, true, false, List, [], ◌∷◌, ◌++◌, length, Option, Some, None, option_map, is_some, is_none, ne_eqb, length-append, refl, sym, ap, ◌∙◌, subst}
use Rattle.std.specs.Prelude.{option_and_then, MatchOption}
use Rattle.std.specs.List.{list_all}
use Rattle.std.specs.Option.{option_or}
use Rattle.std.proofs.lemmas.Bool.{true≢false, false≢true}
use Rattle.std.proofs.lemmas.List.Folds.{list_all-append}
use Rattle.json.specs.Token.{Token}
use Rattle.json.specs.Json.{parse_map}
use Rattle.serde_json.specs.Data.{Num, Data, null, boolean, number, string, array, object, Items, no_items, item, Members}
use Rattle.serde_json.specs.Find.{as_i64, of_integer}
use Rattle.serde_json.specs.Read.{number_of}
use Rattle.sp_base.specs.declared.value.Value.{Value}
use Rattle.sp_base.specs.declared.value.Value.TheVariants.{Text, Long, Truth, Texts, Longs, Truths}
use Rattle.property_json.specs.PropertyJson.{fits_i64}
use Rattle.content_json.specs.declared.fault.Cause.{Cause}
use Rattle.content_json.specs.declared.fault.Cause.TheVariants.{BadNumber, MixedArray}
use Rattle.content_json.specs.declared.kind.Kind.{Kind}
use Rattle.content_json.specs.declared.kind.Kind.TheVariants as kind
use Rattle.content_json.specs.declared.part.Part.{Part}
use Rattle.content_json.specs.declared.part.Part.TheVariants as part
use Rattle.content_json.specs.Faults.{here}
use Rattle.content_json.specs.Lists.{is_of, item_cause, items_cause, array_cause}
use Rattle.content_json.specs.Parts.{items_from, data_of_long, data_of}
use Rattle.content_json.specs.Tokens.{value_of_tokens, items_of_tokens, members_of_tokens, token_data, is_list_value, list_items, is_open_list, items_then, IsList, HasItemMore, MixesWith, AddsToken, Mixes, items_within, EndsUnfit, IsValuePart, IsNumberPart, ReadsItems, ReadsItemsIfThere, ReadsValueIfThere}
use Rattle.content_json.proofs.PassLemmas.{one_value, begins_none, no_value, no_number, array_in, array_in_more, object_in_more, no_array, no_object}

-- ---- one item more

then_push : {A : Type 0} (g : A → Data) (xs : List A) (x : A) (rest : Items) → items_then (items_from g (xs ++ x ∷ [])) rest ≡ items_then (items_from g xs) (item (g x) rest)
then_push g [] x rest = refl
then_push g (y ∷ xs) x rest = ap (item (g y)) (then_push g xs x rest)

keeps_more : {A : Type 0} (xs : List A) (x : A) → (length (xs ++ x ∷ []) == 0) ≡ false
keeps_more xs x = ne_eqb (length (xs ++ x ∷ [])) 0 (λ none. omega (arith, none, length-append xs (x ∷ [])))

pub more_texts : (ts : List (List ℕ)) (t : List ℕ) → HasItemMore (Texts ts) (string t) (Texts (ts ++ t ∷ []))
more_texts ts t = ((refl, refl, refl), then_push string ts t)

pub more_longs : (ns : List ℤ) (n : ℤ) → list_all fits_i64 ns ≡ true → fits_i64 n ≡ true → HasItemMore (Longs ns) (data_of_long n) (Longs (ns ++ n ∷ []))
more_longs ns n longs fits =
    let last : list_all fits_i64 (n ∷ []) ≡ true = rw fits refl in
    ((refl, list_all-append fits_i64 ns (n ∷ []) ∙ rw longs last, ap not (keeps_more ns n)), then_push data_of_long ns n)

pub more_truths : (bs : List Bool) (b : Bool) → HasItemMore (Truths bs) (boolean b) (Truths (bs ++ b ∷ []))
more_truths bs b = ((refl, refl, ap not (keeps_more bs b)), then_push boolean bs b)

-- ---- an item that isn't of the kind

some_cause : {A : Type 0} (a b : Option A) → is_some b ≡ true → is_some (option_or a b) ≡ true
some_cause None b h = h
some_cause (Some x) b h = refl

cause_after : (k : Kind) (ds : Items) (d : Data) (rest : Items) → is_some (item_cause k d) ≡ true → is_some (items_cause k (items_then ds (item d rest))) ≡ true
cause_after k no_items d rest h = first (item_cause k d) (items_cause k rest) h
  where
    first : {A : Type 0} (a b : Option A) → is_some a ≡ true → is_some (option_or a b) ≡ true
    first None b g = absurd (false≢true g)
    first (Some x) b g = refl
cause_after k (item e ds) d rest h = some_cause (item_cause k e) (items_cause k (items_then ds (item d rest))) (cause_after k ds d rest h)

mixes_texts : (t : List ℕ) (ts : List (List ℕ)) (d : Data) → is_some (item_cause kind.Text d) ≡ true → MixesWith (Texts (t ∷ ts)) d
mixes_texts t ts d h rest = cause_after kind.Text (items_from string (t ∷ ts)) d rest h

mixes_longs : (n : ℤ) (ns : List ℤ) (d : Data) → is_some (item_cause kind.Long d) ≡ true → MixesWith (Longs (n ∷ ns)) d
mixes_longs n ns d h rest = cause_after kind.Long (items_from data_of_long (n ∷ ns)) d rest h

mixes_truths : (b : Bool) (bs : List Bool) (d : Data) → is_some (item_cause kind.Truth d) ≡ true → MixesWith (Truths (b ∷ bs)) d
mixes_truths b bs d h rest = cause_after kind.Truth (items_from boolean (b ∷ bs)) d rest h

-- a text among others
pub text_mixes : (list : Value) (s : List ℕ) → IsList list → ((ts : List (List ℕ)) → list ≡ Texts ts → ⊥) → MixesWith list (string s)
text_mixes (Text t) s is other = absurd (false≢true is.0)
text_mixes (Long n) s is other = absurd (false≢true is.0)
text_mixes (Truth b) s is other = absurd (false≢true is.0)
text_mixes (Texts ts) s is other = absurd (other ts refl)
text_mixes (Longs []) s is other = absurd (false≢true is.2)
text_mixes (Longs (n ∷ ns)) s is other = mixes_longs n ns (string s) refl
text_mixes (Truths []) s is other = absurd (false≢true is.2)
text_mixes (Truths (b ∷ bs)) s is other = mixes_truths b bs (string s) refl

either : (b : Bool) → is_some (if b then Some BadNumber else Some MixedArray) ≡ true
either true = refl
either false = refl

pub long_mixes : (list : Value) (n : ℤ) → IsList list → is_open_list list ≡ false → ((ns : List ℤ) → list ≡ Longs ns → ⊥) → MixesWith list (data_of_long n)
long_mixes (Text t) n is full other = absurd (false≢true is.0)
long_mixes (Long m) n is full other = absurd (false≢true is.0)
long_mixes (Truth b) n is full other = absurd (false≢true is.0)
long_mixes (Texts []) n is full other = absurd (true≢false full)
long_mixes (Texts (t ∷ ts)) n is full other = mixes_texts t ts (data_of_long n) (either (is_none (as_i64 (of_integer n))))
long_mixes (Longs ns) n is full other = absurd (other ns refl)
long_mixes (Truths []) n is full other = absurd (false≢true is.2)
long_mixes (Truths (b ∷ bs)) n is full other = mixes_truths b bs (data_of_long n) (either (is_none (as_i64 (of_integer n))))

pub truth_mixes : (list : Value) (b : Bool) → IsList list → is_open_list list ≡ false → ((bs : List Bool) → list ≡ Truths bs → ⊥) → MixesWith list (boolean b)
truth_mixes (Text t) b is full other = absurd (false≢true is.0)
truth_mixes (Long n) b is full other = absurd (false≢true is.0)
truth_mixes (Truth c) b is full other = absurd (false≢true is.0)
truth_mixes (Texts []) b is full other = absurd (true≢false full)
truth_mixes (Texts (t ∷ ts)) b is full other = mixes_texts t ts (boolean b) refl
truth_mixes (Longs []) b is full other = absurd (false≢true is.2)
truth_mixes (Longs (n ∷ ns)) b is full other = mixes_longs n ns (boolean b) refl
truth_mixes (Truths bs) b is full other = absurd (other bs refl)

-- a value of no kind among items, or a bad number
strange_mixes : (list : Value) (d : Data) → IsList list → ((rest : Items) → is_some (array_cause (item d rest)) ≡ true) → ((k : Kind) → is_some (item_cause k d) ≡ true) → MixesWith list d
strange_mixes (Text t) d is first next = absurd (false≢true is.0)
strange_mixes (Long n) d is first next = absurd (false≢true is.0)
strange_mixes (Truth b) d is first next = absurd (false≢true is.0)
strange_mixes (Texts []) d is first next = first
strange_mixes (Texts (t ∷ ts)) d is first next = mixes_texts t ts d (next kind.Text)
strange_mixes (Longs []) d is first next = absurd (false≢true is.2)
strange_mixes (Longs (n ∷ ns)) d is first next = mixes_longs n ns d (next kind.Long)
strange_mixes (Truths []) d is first next = absurd (false≢true is.2)
strange_mixes (Truths (b ∷ bs)) d is first next = mixes_truths b bs d (next kind.Truth)

null_mixes : (list : Value) → IsList list → MixesWith list null
null_mixes list is = strange_mixes list null is (λ rest. refl) (λ k. elim k as (λ k. is_some (item_cause k null) ≡ true) [ kind.Text ↦ refl | kind.Long ↦ refl | kind.Truth ↦ refl ])

array_mixes : (list : Value) (ds : Items) → IsList list → MixesWith list (array ds)
array_mixes list ds is = strange_mixes list (array ds) is (λ rest. refl) (λ k. elim k as (λ k. is_some (item_cause k (array ds)) ≡ true) [ kind.Text ↦ refl | kind.Long ↦ refl | kind.Truth ↦ refl ])

object_mixes : (list : Value) (ms : Members) → IsList list → MixesWith list (object ms)
object_mixes list ms is = strange_mixes list (object ms) is (λ rest. refl) (λ k. elim k as (λ k. is_some (item_cause k (object ms)) ≡ true) [ kind.Text ↦ refl | kind.Long ↦ refl | kind.Truth ↦ refl ])

number_mixes : (list : Value) (n : Num) → IsList list → as_i64 n ≡ None → MixesWith list (number n)
number_mixes list n is bad =
    let cause = λ (k : Kind). ap (λ o. is_some (if is_none o then Some BadNumber else (if is_of k (number n) then None else Some MixedArray))) bad in
    strange_mixes list (number n) is (λ rest. some_first (item_cause kind.Long (number n)) (items_cause kind.Long rest) (cause kind.Long)) cause
  where
    some_first : {A : Type 0} (a b : Option A) → is_some a ≡ true → is_some (option_or a b) ≡ true
    some_first None b g = absurd (false≢true g)
    some_first (Some x) b g = refl

-- ---- which a token tells

abbrev first_of : Data → Option (Data × List Token) → Data
first_of d None = d
first_of d (Some q) = q.0

told : {A : Type 0} (o : Option (A × List Token)) (f : A → Data) (d : Data) (rest : List Token) (P : Data → Type 0) → parse_map f o ≡ Some (d, rest) → ((a : A) → P (f a)) → P d
told None f d rest P e each = absurd (cc)
told (Some p) f d rest P e each = subst P (ap (first_of d) e) (each p.0)

same_told : (depth : ℕ) (t : Token) (ts rest : List Token) (d x : Data) → token_data t ≡ Some x → value_of_tokens depth (t ∷ ts) ≡ Some (d, rest) → x ≡ d
same_told depth t ts rest d x e h = ap (first_of d) (sym (one_value depth t ts x e) ∙ h)

pub token_mixes : (list : Value) (t : Token) (x : Data) → token_data t ≡ Some x → MixesWith list x → Mixes list t
token_mixes list t x e mixes depth ts rest d h = subst (MixesWith list) (same_told depth t ts rest d x e h) mixes

pub null_token_mixes : (list : Value) → IsList list → Mixes list Token.null
null_token_mixes list is = token_mixes list Token.null null refl (null_mixes list is)

pub none_mixes : (list : Value) (t : Token) → begins_none t ≡ true → Mixes list t
none_mixes list t e depth ts rest d h = absurd (let never : None ≡ Some (d, rest) = sym (no_value depth t ts e) ∙ h in cc)

pub array_token_mixes : (list : Value) → IsList list → Mixes list Token.begin_array
array_token_mixes list is zero ts rest d h = absurd (let never : None ≡ Some (d, rest) = sym (no_array 0 ts refl) ∙ h in cc)
array_token_mixes list is (suc depth) ts rest d h =
    told (items_of_tokens depth ts) array d rest (MixesWith list) (sym (array_in_more depth ts) ∙ h) (λ ds. array_mixes list ds is)

pub object_token_mixes : (list : Value) → IsList list → Mixes list Token.begin_object
object_token_mixes list is zero ts rest d h = absurd (let never : None ≡ Some (d, rest) = sym (no_object 0 ts refl) ∙ h in cc)
object_token_mixes list is (suc depth) ts rest d h =
    told (members_of_tokens depth ts) object d rest (MixesWith list) (sym (object_in_more depth ts) ∙ h) (λ ms. object_mixes list ms is)

pub number_token_mixes : (list : Value) (s : List ℕ) → IsList list → option_and_then as_i64 (number_of s) ≡ None → Mixes list (Token.number s)
number_token_mixes list s is bad depth ts rest d h =
    elim (number_of s) as (λ o. number_of s ≡ o → option_and_then as_i64 o ≡ None → MixesWith list d) [
      | None ↦ λ none _. absurd (let never : None ≡ Some (d, rest) = sym (no_number depth s ts none) ∙ h in cc)
      | Some n ↦ λ some no_long. token_mixes list (Token.number s) (number n) (ap (option_map number) some) (number_mixes list n is no_long) depth ts rest d h
    ] refl bad

-- ---- the whole list

pub none_then : (ds : Items) → items_then ds no_items ≡ ds
none_then no_items = refl
none_then (item d ds) = ap (item d) (none_then ds)

pub list_data : (list : Value) → is_list_value list ≡ true → data_of list ≡ array (list_items list)
list_data (Text t) h = absurd (false≢true h)
list_data (Long n) h = absurd (false≢true h)
list_data (Truth b) h = absurd (false≢true h)
list_data (Texts ts) h = refl
list_data (Longs ns) h = refl
list_data (Truths bs) h = refl

pub one_more_item : (f g : Items → Items) (d : Data) (o : Option (Items × List Token)) → ((rest : Items) → g rest ≡ f (item d rest)) → parse_map f (parse_map (item d) o) ≡ parse_map g o
one_more_item f g d None e = refl
one_more_item f g d (Some p) e = ap (λ ds. Some (ds, p.1)) (sym (e p.0))

pub item_made : (list : Value) (t : Token) (x : Data) (found : Option Value) → token_data t ≡ Some x → MatchOption found (MixesWith list x) (HasItemMore list x) → MatchOption found (Mixes list t) (AddsToken list t)
item_made list t x None e made = token_mixes list t x e made
item_made list t x (Some more) e made = (x, e, made)

-- a list that ends with an item that is none has a fault
pub unfit_made : (depth n : ℕ) (all left rest : List Token) (list : Value) (t : Token) (found : Option Part) → items_of_tokens depth all ≡ parse_map (items_then (list_items list)) (items_within n depth (t ∷ left)) → Mixes list t
    → EndsUnfit n depth (t ∷ left) rest found → ReadsItemsIfThere depth all rest found
unfit_made depth n all left rest list t None so_far mixes none = so_far ∙ ap (parse_map (items_then (list_items list))) none
unfit_made depth n all left rest list t (Some made) so_far mixes (is, d, r, first, ds, ends) =
    let items = items_then (list_items list) (item d ds) in
    (items, so_far ∙ ap (parse_map (items_then (list_items list))) ends, subst (λ p. IsValuePart p (array items)) (sym is) (some_map (array_cause items) (mixes depth left r d first ds)))
  where
    some_map : (o : Option Cause) → is_some o ≡ true → is_some (option_map here o) ≡ true
    some_map None h = absurd (false≢true h)
    some_map (Some c) h = refl

-- the last item of a list that has a value
pub list_made : (depth n : ℕ) (all left rest : List Token) (list : Value) → items_of_tokens depth all ≡ parse_map (items_then (list_items list)) (items_within n depth left) → IsList list → items_within n depth left ≡ Some (no_items, rest)
    → ReadsItems depth all rest (part.Value list)
list_made depth n all left rest list so_far is ends =
    (items_then (list_items list) no_items, so_far ∙ ap (parse_map (items_then (list_items list))) ends, (sym (list_data list is.0 ∙ ap array (sym (none_then (list_items list)))), is.1, is.2))

-- the list that is made of an array
pub array_made : (depth : ℕ) (ts rest : List Token) (found : Option Part) → 0 < depth → ReadsItemsIfThere (depth - 1) ts rest found
    → ReadsValueIfThere depth (Token.begin_array ∷ ts) rest found
array_made depth ts rest None h none = array_in depth ts h ∙ ap (parse_map array) none
array_made depth ts rest (Some made) h (ds, read, is) = (array ds, array_in depth ts h ∙ ap (parse_map array) read, is)

pub number_made : (depth : ℕ) (s : List ℕ) (ts : List Token) (found : Option Part) → MatchOption found (number_of s ≡ None) (IsNumberPart (number_of s))
    → ReadsValueIfThere depth (Token.number s ∷ ts) ts found
number_made depth s ts None none = no_number depth s ts none
number_made depth s ts (Some made) (n, some, is) = (number n, one_value depth (Token.number s) ts (number n) (ap (option_map number) some), is)
