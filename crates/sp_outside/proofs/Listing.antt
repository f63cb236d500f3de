-- What a list of the names of a set gives: names in their order, after one, with a prefix.
use Rattle.std.proofs.Common.{◌≡◌, ◌≤◌, ◌<◌, ℕ, zero, suc, Bool, true, false, ◌&&◌, T, List, [], ◌∷◌, ◌++◌, map, take, length, get_or, cond, refl, sym, ◌∙◌, ap, subst, arith}
use Rattle.std.specs.Prelude.{string_bytes, string_cmp, IsTrue, IsUtf8}
use Rattle.std.specs.Borrow.{Bor}
use Rattle.std.specs.List.{filter, All, AllByRecursion}
use Rattle.std.specs.List.Sorted.{IsStrictlySortedBy}
use Rattle.std.specs.Map.{keys_of}
use Rattle.std.specs.Map.Iter.{deref_pair}
use Rattle.std.specs.BTreeMap.Range.{range_contains}
use Rattle.std.specs.Ordering.{is_le, is_lt}
use Rattle.std.specs.declared.cmp.Ordering.TheVariants.{Less}
use Rattle.std.specs.declared.ops.Bound.{Bound}
use Rattle.std.specs.declared.ops.Bound.TheVariants.{Included, Excluded, Unbounded}
use Rattle.std.specs.declared.string.String.{String}
use Rattle.std.specs.declared.alloc.Global.{Global}
use Rattle.std.specs.Cmp.Lexicographic.{nat_list_cmp_total}
use Rattle.std.specs.FinMap.{FinMap, keys, entries, entries_sorted, from_sorted, get-from_entries, get-from_sorted, entries-from_sorted, same_map}
use Rattle.std.specs.FinMap.Entries.{is_sorted, below_all}
use Rattle.std.proofs.lemmas.Bool.{false_from_ne_true, true≢false}
use Rattle.std.proofs.lemmas.Str.{IsUtf8-string_bytes}
use Rattle.std.proofs.Math.Seq.{get_or-append_seam}
use Rattle.std.proofs.lemmas.List.{append-nil, length-append, map-append, take_all, take_at, length-take}
use Rattle.std.proofs.lemmas.List.Kept.{IsStrictlySortedBy-filter}
use Rattle.std.proofs.lemmas.List.Elements.{filter-append, filter_passes, All-filter, All-take}
use Rattle.sp_base.specs.Names.{by_name}
use Rattle.sp_base.proofs.BoolLemmas.{T_both, T_first, T_second, and_first, and_second, and_true}
use Rattle.sp_base.proofs.OrderingLemmas.{T_from_less, less_from_T, less_from_test}
use Rattle.sp_outside.specs.Files.{IsName, IsListing, has_prefix, names_from}
use Rattle.sp_outside.specs.NameEntries.{NameEntries, IsFirstPlace, entries_by_bytes, kept_by_name}
use Rattle.sp_outside.proofs.HeldNames.{same_name}
use Rattle.sp_outside.proofs.Prefixes.{after_both, rest_both, prefix_between, prefix_first}

-- the names of entries, in their order
abbrev pub names_of : {X : Type 0} → NameEntries X → List (List ℕ)
names_of held = map (λ e. string_bytes e.0) held

below : {X : Type 0} (key : String Global) (held : NameEntries X) → AllByRecursion (λ other. string_cmp key other ≡ Less) (keys_of held)
    → T (below_all by_name (string_bytes key) (entries_by_bytes held))
below key [] h = tt
below key (e ∷ held) h = T_both _ _ (T_from_less _ h.0) (below key held h.1)

sorted_named : {X : Type 0} (held : NameEntries X) → IsStrictlySortedBy string_cmp (keys_of held) → T (is_sorted by_name (entries_by_bytes held))
unfolding IsStrictlySortedBy
sorted_named [] h = tt
sorted_named (e ∷ held) h = T_both _ _ (below e.0 held h.0) (sorted_named held h.1)

entries_held : {X : Type 0} (held : NameEntries X) → IsStrictlySortedBy string_cmp (keys_of held) → entries (kept_by_name held) ≡ entries_by_bytes held
entries_held held rising =
    let sorted = sorted_named held rising in
    ap entries (same_map nat_list_cmp_total same_name (kept_by_name held) (from_sorted (entries_by_bytes held)) (λ q.
    get-from_entries nat_list_cmp_total (entries_by_bytes held) q ∙ sym (get-from_sorted by_name (entries_by_bytes held) q sorted)))
    ∙ entries-from_sorted by_name (entries_by_bytes held) sorted

named_names : {X : Type 0} (held : NameEntries X) → map (λ e. e.0) (entries_by_bytes held) ≡ names_of held
named_names [] = refl
named_names (e ∷ held) = ap (λ rest. string_bytes e.0 ∷ rest) (named_names held)

pub keys_held : {X : Type 0} (held : NameEntries X) → IsStrictlySortedBy string_cmp (keys_of held) → keys (kept_by_name held) ≡ names_of held
keys_held {X} held rising = ap (map (λ (e : List ℕ × X). e.0)) (entries_held held rising) ∙ named_names held

pub sizes_held : {X : Type 0} (held : NameEntries X) → All (λ key. IsName (string_bytes key)) (keys_of held) → All IsName (names_of held)
sizes_held [] h k d lt = absurd (omega (arith, lt))
sizes_held (e ∷ held) h zero d lt = h zero e.0 (omega arith)
sizes_held (e ∷ held) h (suc k) d lt = sizes_held held (λ j x l. h (suc j) x (omega (arith, l))) k d (omega (arith, lt))

-- names are texts
pub texts_held : {X : Type 0} (held : NameEntries X) → All IsUtf8 (names_of held)
texts_held [] k d lt = absurd (omega (arith, lt))
texts_held (e ∷ held) zero d lt = IsUtf8-string_bytes e.0
texts_held (e ∷ held) (suc k) d lt = texts_held held k d (omega (arith, lt))

abbrev in_range : {X : Type 0} → Bound (String Global) → String Global × X → Bool
in_range start e = range_contains string_cmp start Unbounded e.0

abbrev pub wanted : List ℕ → List ℕ → List ℕ → Bool
wanted prefix after name = has_prefix prefix name && is_lt (by_name after name)

-- of the names with the prefix those are after a name that stand from the first place on
same_true : (a b c : Bool) → (a ≡ true → b ≡ c) → a && b ≡ a && c
same_true true b c e = e refl
same_true false b c e = refl

from_place : (prefix after : List ℕ) (start : Bound (String Global)) → IsFirstPlace prefix after start → (key : String Global)
    → wanted prefix after (string_bytes key) ≡ has_prefix prefix (string_bytes key) && range_contains string_cmp start Unbounded key
from_place prefix after (Included place) is key = same_true (has_prefix prefix (string_bytes key)) _ _ (λ has.
    let le = prefix_first prefix (string_bytes key) has in
    after_both after prefix (string_bytes key) (by_name prefix (string_bytes key)) refl is.1 le
    ∙ sym (and_true (is_le (string_cmp place key)) ∙ ap (λ p. is_le (by_name p (string_bytes key))) is.0 ∙ le))
from_place prefix after (Excluded place) is key = same_true (has_prefix prefix (string_bytes key)) _ _ (λ has.
    sym (and_true (is_lt (string_cmp place key)) ∙ ap (λ p. is_lt (by_name p (string_bytes key))) is.0))
from_place prefix after Unbounded is key = absurd is

-- from the first place on no name is before the prefix
place_first : (prefix after : List ℕ) (start : Bound (String Global)) → IsFirstPlace prefix after start → (key : String Global)
    → range_contains string_cmp start Unbounded key ≡ true → is_le (by_name prefix (string_bytes key)) ≡ true
place_first prefix after (Included place) is key e =
    sym (ap (λ p. is_le (by_name p (string_bytes key))) is.0) ∙ and_first _ _ e
place_first prefix after (Excluded place) is key e =
    rest_both after prefix (string_bytes key) (by_name after prefix) refl is.1
    (sym (ap (λ p. is_lt (by_name p (string_bytes key))) is.0) ∙ and_first _ _ e)
place_first prefix after Unbounded is key e = absurd is

ranged : {X : Type 0} (prefix after : List ℕ) (start : Bound (String Global)) → IsFirstPlace prefix after start → (held : NameEntries X)
    → filter (wanted prefix after) (names_of held) ≡ filter (has_prefix prefix) (names_of (filter (in_range start) held))
ranged prefix after start is [] = refl
ranged prefix after start is (e ∷ held) =
    let name = string_bytes e.0 in
    let left = filter (wanted prefix after) (names_of held) in
    let rest = filter (in_range start) held in
    let so_far = ranged prefix after start is held in
    ap (λ b. cond b (name ∷ left) left) (from_place prefix after start is e.0)
    ∙ elim (range_contains string_cmp start Unbounded e.0) as (λ l. cond (has_prefix prefix name && l) (name ∷ left) left
    ≡ filter (has_prefix prefix) (names_of (cond l (e ∷ rest) rest))) [
      | true ↦ elim (has_prefix prefix name) as (λ p. cond (p && true) (name ∷ left) left
          ≡ cond p (name ∷ filter (has_prefix prefix) (names_of rest)) (filter (has_prefix prefix) (names_of rest))) [
            | true ↦ ap (λ names. name ∷ names) so_far
            | false ↦ so_far
          ]
      | false ↦ elim (has_prefix prefix name) as (λ p. cond (p && false) (name ∷ left) left ≡ filter (has_prefix prefix) (names_of rest)) [
        | true ↦ so_far
        | false ↦ so_far
      ]
    ]

-- the names wanted are those with the prefix among the names of the range
pub after_held : {X : Type 0} (prefix after : List ℕ) (start : Bound (String Global)) (held range : NameEntries X) → IsStrictlySortedBy string_cmp (keys_of held)
    → IsFirstPlace prefix after start → range ≡ filter (in_range start) held
    → names_from (keys (kept_by_name held)) prefix after ≡ filter (has_prefix prefix) (names_of range)
after_held prefix after start held range rising is ranges =
    ap (filter (wanted prefix after)) (keys_held held rising)
    ∙ ranged prefix after start is held ∙ ap (λ r. filter (has_prefix prefix) (names_of r)) (sym ranges)

-- what a loop over a range has yielded
abbrev pub Seen : Type 0 → Type 0
Seen X = List (Bor (String Global) × Bor X)

abbrev pub name_in : {X : Type 0} → Bor (String Global) × Bor X → List ℕ
name_in item = string_bytes item.0.now

pub seen : {X : Type 0} (items : Seen X) → map name_in items ≡ names_of (map deref_pair items)
seen [] = refl
seen (item ∷ items) = ap (λ rest. name_in item ∷ rest) (seen items)

-- a loop over all entries takes one more name
pub one_named : {X : Type 0} (items : Seen X) (item : Bor (String Global) × Bor X) (names : List (List ℕ)) → names ≡ map name_in items
    → names ++ name_in item ∷ [] ≡ map name_in (items ++ item ∷ [])
one_named items item names is = ap (λ ns. ns ++ name_in item ∷ []) is ∙ sym (map-append name_in items (item ∷ []))

with_last : (b : Bool) (names : List (List ℕ)) (name : List ℕ) → names ++ cond b (name ∷ []) [] ≡ cond b (names ++ name ∷ []) names
with_last true names name = refl
with_last false names name = append-nil names

-- a loop over the range takes one more name, where it has the prefix
pub one_more : {X : Type 0} (prefix : List ℕ) (items : Seen X) (item : Bor (String Global) × Bor X) (names : List (List ℕ))
    → names ≡ filter (has_prefix prefix) (map name_in items)
    → filter (has_prefix prefix) (map name_in (items ++ item ∷ [])) ≡ cond (has_prefix prefix (name_in item)) (names ++ name_in item ∷ []) names
one_more prefix items item names is =
    ap (filter (has_prefix prefix)) (map-append name_in items (item ∷ []))
    ∙ filter-append (has_prefix prefix) (map name_in items) (name_in item ∷ [])
    ∙ ap (λ ns. ns ++ filter (has_prefix prefix) (name_in item ∷ [])) (sym is)
    ∙ with_last (has_prefix prefix (name_in item)) names (name_in item)

-- a loop that ends with as many names as were asked for
pub enough : {X : Type 0} (prefix : List ℕ) (range rest : NameEntries X) (items : Seen X) (names : List (List ℕ)) (most : ℕ) → range ≡ map deref_pair items ++ rest
    → names ≡ filter (has_prefix prefix) (map name_in items) → length names ≤ most → most ≤ length names
    → names ≡ take most (filter (has_prefix prefix) (names_of range))
enough {X} prefix range rest items names most parts is few many =
    sym (ap (λ (r : NameEntries X). take most (filter (has_prefix prefix) (names_of r))) parts
    ∙ ap (λ ns. take most (filter (has_prefix prefix) ns)) (map-append (λ (e : String Global × X). string_bytes e.0) (map deref_pair items) rest)
    ∙ ap (take most) (filter-append (has_prefix prefix) (names_of (map deref_pair items)) (names_of rest))
    ∙ ap (λ ns. take most (ns ++ filter (has_prefix prefix) (names_of rest))) (sym (is ∙ ap (filter (has_prefix prefix)) (seen items)))
    ∙ take_at names (filter (has_prefix prefix) (names_of rest)) most (omega (arith, few, many)))

-- a loop that ends with the range
pub all_names : {X : Type 0} (prefix : List ℕ) (range : NameEntries X) (items : Seen X) (names : List (List ℕ)) (most : ℕ) → map deref_pair items ≡ range
    → names ≡ filter (has_prefix prefix) (map name_in items) → length names ≤ most
    → names ≡ take most (filter (has_prefix prefix) (names_of range))
all_names {X} prefix range items names most parts is few =
    let whole : names ≡ filter (has_prefix prefix) (names_of range) = is ∙ ap (filter (has_prefix prefix)) (seen items ∙ ap names_of parts) in
    whole ∙ sym (take_all most (filter (has_prefix prefix) (names_of range)) (subst (λ (ns : List (List ℕ)). length ns ≤ most) whole few))

-- the keys of a range rise
range_keys : {X : Type 0} (start : Bound (String Global)) (held : NameEntries X) → keys_of (filter (in_range start) held) ≡ filter (range_contains string_cmp start Unbounded) (keys_of held)
range_keys start [] = refl
range_keys start (e ∷ held) =
    elim (range_contains string_cmp start Unbounded e.0) as (λ b. keys_of (cond b (e ∷ filter (in_range start) held) (filter (in_range start) held))
    ≡ cond b (e.0 ∷ filter (range_contains string_cmp start Unbounded) (keys_of held)) (filter (range_contains string_cmp start Unbounded) (keys_of held))) [
      | true ↦ ap (λ keys. e.0 ∷ keys) (range_keys start held)
      | false ↦ range_keys start held
    ]

rest_above : {X : Type 0} (seen : NameEntries X) (item : String Global × X) (rest : NameEntries X) → IsStrictlySortedBy string_cmp (keys_of (seen ++ item ∷ rest))
    → AllByRecursion (λ other. string_cmp item.0 other ≡ Less) (keys_of rest)
unfolding IsStrictlySortedBy
rest_above [] item rest h = h.0
rest_above (e ∷ seen) item rest h = rest_above seen item rest h.1

-- after a name that isn't before the prefix and doesn't begin with it no name does
none_after : {X : Type 0} (prefix : List ℕ) (item : String Global × X) (rest : NameEntries X) → is_le (by_name prefix (string_bytes item.0)) ≡ true
    → has_prefix prefix (string_bytes item.0) ≡ false → AllByRecursion (λ other. string_cmp item.0 other ≡ Less) (keys_of rest)
    → filter (has_prefix prefix) (names_of rest) ≡ []
none_after prefix item [] le lacks above = refl
none_after prefix item (e ∷ rest) le lacks above =
    let none : has_prefix prefix (string_bytes e.0) ≡ false = false_from_ne_true _ (λ has.
    true≢false (sym (prefix_between prefix (string_bytes item.0) (string_bytes e.0) le (ap is_lt above.0) has) ∙ lacks)) in
    ap (λ b. cond b (string_bytes e.0 ∷ filter (has_prefix prefix) (names_of rest)) (filter (has_prefix prefix) (names_of rest))) none
    ∙ none_after prefix item rest le lacks above.1

in_seen : {X : Type 0} (start : Bound (String Global)) (held seen : NameEntries X) (item : String Global × X) (rest : NameEntries X)
    → filter (in_range start) held ≡ seen ++ item ∷ rest → in_range start item ≡ true
in_seen {X} start held seen item rest parts =
    let passes = filter_passes (in_range start) held (length seen) item
    (subst (λ (r : NameEntries X). length seen < length r) (sym parts) (omega (arith, length-append seen (item ∷ rest)))) in
    sym (ap (in_range start) (ap (λ (r : NameEntries X). get_or r (length seen) item) parts ∙ get_or-append_seam seen item rest item)) ∙ passes

-- a loop that ends at a name that doesn't begin with the prefix
pub lacking : {X : Type 0} (prefix after : List ℕ) (start : Bound (String Global)) (held range : NameEntries X) (items : Seen X) (item : String Global × X) (rest : NameEntries X) (names : List (List ℕ)) (most : ℕ)
    → IsStrictlySortedBy string_cmp (keys_of held) → IsFirstPlace prefix after start → range ≡ filter (in_range start) held
    → range ≡ map deref_pair items ++ item ∷ rest → has_prefix prefix (string_bytes item.0) ≡ false
    → names ≡ filter (has_prefix prefix) (map name_in items) → length names ≤ most
    → names ≡ take most (filter (has_prefix prefix) (names_of range))
lacking {X} prefix after start held range items item rest names most rising place ranges parts lacks is few =
    let seen_items = map deref_pair items in
    let cut : filter (in_range start) held ≡ seen_items ++ item ∷ rest = sym ranges ∙ parts in
    let sorted : IsStrictlySortedBy string_cmp (keys_of (seen_items ++ item ∷ rest)) =
    subst (λ (r : NameEntries X). IsStrictlySortedBy string_cmp (keys_of r)) cut
    (subst (IsStrictlySortedBy string_cmp) (sym (range_keys start held)) (IsStrictlySortedBy-filter string_cmp (range_contains string_cmp start Unbounded) (keys_of held) rising)) in
    let le = place_first prefix after start place item.0 (in_seen start held seen_items item rest cut) in
    let none : filter (has_prefix prefix) (names_of (item ∷ rest)) ≡ [] =
    ap (λ b. cond b (string_bytes item.0 ∷ filter (has_prefix prefix) (names_of rest)) (filter (has_prefix prefix) (names_of rest))) lacks
    ∙ none_after prefix item rest le lacks (rest_above seen_items item rest sorted) in
    let whole : names ≡ filter (has_prefix prefix) (names_of range) =
    is ∙ ap (filter (has_prefix prefix)) (seen items) ∙ sym (ap (filter (has_prefix prefix)) (ap names_of parts
    ∙ map-append (λ (e : String Global × X). string_bytes e.0) seen_items (item ∷ rest))
    ∙ filter-append (has_prefix prefix) (names_of seen_items) (names_of (item ∷ rest))
    ∙ ap (λ ns. filter (has_prefix prefix) (names_of seen_items) ++ ns) none
    ∙ append-nil (filter (has_prefix prefix) (names_of seen_items))) in
    whole ∙ sym (take_all most (filter (has_prefix prefix) (names_of range)) (subst (λ (ns : List (List ℕ)). length ns ≤ most) whole few))

-- ---- what every listing is

recursion : {X : Type 0} (P : X → Type 0) (xs : List X) → All P xs → AllByRecursion P xs
recursion P [] h = tt
recursion P (x ∷ xs) h = (h zero x (omega arith), recursion P xs (λ k d lt. h (suc k) d (omega (arith, lt))))

all_above : {X : Type 0} (name : List ℕ) (es : List (List ℕ × X)) → T (below_all by_name name es) → AllByRecursion (λ other. by_name name other ≡ Less) (map (λ e. e.0) es)
all_above name [] h = tt
all_above name (e ∷ es) h = (less_from_T _ (T_first _ _ h), all_above name es (T_second _ _ h))

pub rises : {X : Type 0} (es : List (List ℕ × X)) → T (is_sorted by_name es) → IsStrictlySortedBy by_name (map (λ e. e.0) es)
unfolding IsStrictlySortedBy
rises [] h = tt
rises (e ∷ es) h = (all_above e.0 es (T_first _ _ h), rises es (T_second _ _ h))

above_take : (name : List ℕ) (n : ℕ) (names : List (List ℕ)) → AllByRecursion (λ other. by_name name other ≡ Less) names → AllByRecursion (λ other. by_name name other ≡ Less) (take n names)
above_take name zero names h = tt
above_take name (suc n) [] h = tt
above_take name (suc n) (other ∷ names) h = (h.0, above_take name n names h.1)

take_rises : (n : ℕ) (names : List (List ℕ)) → IsStrictlySortedBy by_name names → IsStrictlySortedBy by_name (take n names)
unfolding IsStrictlySortedBy
take_rises zero names h = tt
take_rises (suc n) [] h = tt
take_rises (suc n) (name ∷ names) h = (above_take name n names h.0, take_rises n names h.1)

begins : (after : List ℕ) (names : List (List ℕ)) → AllByRecursion (λ other. by_name after other ≡ Less) names → IsStrictlySortedBy by_name names → IsStrictlySortedBy by_name (after ∷ names)
unfolding IsStrictlySortedBy
begins after names above rest = (above, rest)

pub listing : {X : Type 0} (kept : FinMap by_name X) (prefix after : List ℕ) (most : ℕ) → All IsName (keys kept) → All IsUtf8 (keys kept)
    → IsListing prefix after most (take most (names_from (keys kept) prefix after))
listing kept prefix after most sizes texts =
    let names = names_from (keys kept) prefix after in
    let passes = filter_passes (wanted prefix after) (keys kept) in
    record {
      rising = begins after (take most names)
          (recursion _ (take most names) (All-take (λ name. by_name after name ≡ Less) most names (λ k d lt. less_from_test _ (and_second _ _ (passes k d lt)))))
          (take_rises most names (IsStrictlySortedBy-filter by_name (wanted prefix after) (keys kept) (rises (entries kept) (entries_sorted kept))));
      prefixed = All-take (λ name. IsTrue (has_prefix prefix name)) most names (λ k d lt. and_first _ _ (passes k d lt));
      sizes = All-take IsName most names (All-filter (wanted prefix after) IsName (keys kept) sizes);
      texts = All-take IsUtf8 most names (All-filter (wanted prefix after) IsUtf8 (keys kept) texts);
      few = omega (arith, length-take most names);
    }
