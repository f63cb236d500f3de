-- The text is read as the JSON that it was written from.
use Rattle.std.proofs.Common.{◌≡◌, ◌+◌, ◌≤◌, ◌^◌, ℕ, zero, suc, ℤ, pos, negsuc, List, [], ◌∷◌, true, Option, Some, None, is_some, refl, sym, ◌∙◌, ap, ⊎_elim, arith, append-nil}
use Rattle.std.specs.Prelude.{option_map, option_and_then, Result, Ok, Err}
use Rattle.std.specs.FinMap.Entries.{find}
use Rattle.std.specs.List.{list_all}
use Rattle.std.proofs.lemmas.Bool.{ltb-true, and_parts, cases_lt}
use Rattle.json.specs.Json.{Json, boolean, string, Members, no_members, value, if_last, max_depth, document}
use Rattle.json.specs.Lex.{tokens}
use Rattle.json.specs.Tree.{json_tokens, depth, members_depth, HasNumbers, ItemsHaveNumbers, MembersHaveNumbers}
use Rattle.json.proofs.Printed.Decimals.{IsNumber-signed_decimal}
use Rattle.json.proofs.Printed.Trees.{value-json_tokens, document-print}
use Rattle.sp_base.specs.Names.{by_name}
use Rattle.sp_base.specs.Paths.{child_of}
use Rattle.sp_base.specs.declared.path.PathFault.{PathFault}
use Rattle.sp_base.specs.declared.value.Value.{Value}
use Rattle.sp_base.specs.declared.value.Value.TheVariants.{Text, Long, Truth, Texts, Longs, Truths}
use Rattle.resource_tree.specs.Seen.{Resource, Seen}
use Rattle.property_json.specs.PropertyJson.{fits_i64, has_longs, items_of, json_of_long, json_of_value, members_before}
use Rattle.property_json.proofs.DepthLemmas.{value_depth}
use Rattle.get_servlet.specs.declared.kids.Kid.{Kid}
use Rattle.get_servlet.specs.Objects.{HasLongs, HaveLongs}
use Rattle.get_servlet.specs.Rendering.{make_kid, kid_seen, kid_of_name, shown_kid, kid_before, members_of_kids, resource_json, json_text}
use Rattle.get_servlet.proofs.DepthLemmas.{same_at, unless_property}

-- ---- the text is not too deep to be read

properties_depth : (ps : List (List ℕ × Value)) (ms : Members) (n : ℕ) → 1 ≤ n → members_depth ms ≤ n → members_depth (members_before ps ms) ≤ n
properties_depth [] ms n some h = h
properties_depth ((name, v) ∷ ps) ms n some h = omega (arith, some, value_depth v, properties_depth ps ms n some h)

kid_depth : (name : List ℕ) (json : List (List ℕ) → Resource → Json) (n : ℕ) → ((path : List (List ℕ)) (res : Resource) → depth (json path res) ≤ n) → (kid : Option Kid) (ms : Members)
    → members_depth ms ≤ n → members_depth (kid_before name json kid ms) ≤ n
kid_depth name json n each None ms h = h
kid_depth name json n each (Some kid) ms h = omega (arith, each kid.path kid.res, h)

kids_depth : (kid : List ℕ → Option Kid) (json : List (List ℕ) → Resource → Json) (n : ℕ) → ((path : List (List ℕ)) (res : Resource) → depth (json path res) ≤ n) → (names : List (List ℕ))
    → members_depth (members_of_kids kid json names) ≤ n
kids_depth kid json n each [] = omega arith
kids_depth kid json n each (name ∷ names) = kid_depth name json n each (kid name) (members_of_kids kid json names) (kids_depth kid json n each names)

depth_at : (seen : Seen) (levels : ℕ) (path : List (List ℕ)) (res : Resource) → depth (resource_json seen levels path res) ≤ levels + 2
unfolding resource_json
depth_at seen zero path res = let within = properties_depth res.props no_members 1 (omega arith) (omega arith) in omega (arith, within)
depth_at seen (suc levels) path res =
    let kids = kids_depth (shown_kid seen path res) (resource_json seen levels) (levels + 2) (depth_at seen levels) res.kids in
    let within = properties_depth res.props (members_of_kids (shown_kid seen path res) (resource_json seen levels) res.kids) (levels + 2) (omega arith) kids in
    omega (arith, within)

-- whatever the levels that are asked for
shallow : (seen : Seen) (levels : ℕ) (path : List (List ℕ)) (res : Resource) → depth (resource_json seen levels path res) ≤ 128
shallow seen levels path res =
    ⊎_elim (λ few. omega (arith, few, depth_at seen levels path res))
    (λ many. omega (arith, ap depth (same_at seen levels 64 path res (omega (arith, many)) (omega arith)), depth_at seen 64 path res))
    (cases_lt levels 64)

-- the tokens are those of the JSON, so the text is that JSON
pub reads_back : (seen : Seen) (levels : ℕ) (path : List (List ℕ)) (res : Resource) (text : List ℕ) → tokens text ≡ json_tokens (resource_json seen levels path res)
    → document text ≡ Some (resource_json seen levels path res)
reads_back seen levels path res text is =
    let json = resource_json seen levels path res in
    ap (option_and_then (λ p. if_last p.0 p.1))
    (ap (value max_depth) (is ∙ sym (append-nil (json_tokens json))) ∙ value-json_tokens json max_depth [] (shallow seen levels path res))

-- ---- each number can be printed

long_number : (n : ℤ) → fits_i64 n ≡ true → HasNumbers (json_of_long n)
long_number (pos n) h = let lt = ltb-true n (2 ^ 63) h in IsNumber-signed_decimal (pos n) (omega (arith, lt))
long_number (negsuc n) h = let lt = ltb-true n (2 ^ 63) h in IsNumber-signed_decimal (negsuc n) (omega (arith, lt))

items_numbers : {A : Type 0} (f : A → Json) → ((x : A) → HasNumbers (f x)) → (xs : List A) → ItemsHaveNumbers (items_of f xs)
items_numbers f each [] = tt
items_numbers f each (x ∷ xs) = (each x, items_numbers f each xs)

longs_numbers : (ns : List ℤ) → list_all fits_i64 ns ≡ true → ItemsHaveNumbers (items_of json_of_long ns)
longs_numbers [] h = tt
longs_numbers (n ∷ ns) h = let parts = and_parts (fits_i64 n) (list_all fits_i64 ns) h in (long_number n parts.0, longs_numbers ns parts.1)

value_numbers : (v : Value) → has_longs v ≡ true → HasNumbers (json_of_value v)
value_numbers (Text t) h = tt
value_numbers (Long n) h = long_number n h
value_numbers (Truth b) h = tt
value_numbers (Texts ts) h = items_numbers string (λ x. tt) ts
value_numbers (Longs ns) h = longs_numbers ns h
value_numbers (Truths bs) h = items_numbers boolean (λ x. tt) bs

properties_numbers : (ps : List (List ℕ × Value)) (ms : Members) → list_all (λ p. has_longs p.1) ps ≡ true → MembersHaveNumbers ms → MembersHaveNumbers (members_before ps ms)
properties_numbers [] ms h rest = rest
properties_numbers ((name, v) ∷ ps) ms h rest =
    let parts = and_parts (has_longs v) (list_all (λ p. has_longs p.1) ps) h in (value_numbers v parts.0, properties_numbers ps ms parts.1 rest)

-- a kid is seen
seen_kid : (found : Option Resource) (path : List (List ℕ)) (kid : Kid) → option_map (make_kid path) found ≡ Some kid → found ≡ Some kid.res
seen_kid None path kid e = absurd (cc)
seen_kid (Some res) path kid e = let same : make_kid path res ≡ kid = cc in ap (λ k. Some k.res) same

seen_longs : (seen : Seen) → HaveLongs seen → (made : Result (List (List ℕ)) PathFault) (kid : Kid) → kid_seen seen made ≡ Some kid → HasLongs kid.res
seen_longs seen all (Err fault) kid e = absurd (cc)
seen_longs seen all (Ok path) kid e = all path kid.res (seen_kid (seen path) path kid e)

kid_longs : (seen : Seen) → HaveLongs seen → (path : List (List ℕ)) (res : Resource) (name : List ℕ) (kid : Kid) → shown_kid seen path res name ≡ Some kid → HasLongs kid.res
unfolding shown_kid kid_of_name
kid_longs seen all path res name kid e =
    seen_longs seen all (child_of path name) kid (unless_property (is_some (find by_name name res.props)) (kid_seen seen (child_of path name)) kid e)

kid_numbers : (name : List ℕ) (json : List (List ℕ) → Resource → Json) (kid : Option Kid) (ms : Members) → ((k : Kid) → kid ≡ Some k → HasNumbers (json k.path k.res))
    → MembersHaveNumbers ms → MembersHaveNumbers (kid_before name json kid ms)
kid_numbers name json None ms each rest = rest
kid_numbers name json (Some kid) ms each rest = (each kid refl, rest)

kids_numbers : (kid : List ℕ → Option Kid) (json : List (List ℕ) → Resource → Json) (names : List (List ℕ))
    → ((name : List ℕ) (k : Kid) → kid name ≡ Some k → HasNumbers (json k.path k.res)) → MembersHaveNumbers (members_of_kids kid json names)
kids_numbers kid json [] each = tt
kids_numbers kid json (name ∷ names) each = kid_numbers name json (kid name) (members_of_kids kid json names) (each name) (kids_numbers kid json names each)

has_numbers : (seen : Seen) → HaveLongs seen → (levels : ℕ) (path : List (List ℕ)) (res : Resource) → HasLongs res → HasNumbers (resource_json seen levels path res)
unfolding resource_json
has_numbers seen all zero path res longs = properties_numbers res.props no_members longs tt
has_numbers seen all (suc levels) path res longs =
    properties_numbers res.props (members_of_kids (shown_kid seen path res) (resource_json seen levels) res.kids) longs
    (kids_numbers (shown_kid seen path res) (resource_json seen levels) res.kids (λ name kid is. has_numbers seen all levels kid.path kid.res (kid_longs seen all path res name kid is)))

pub text_reads_back : (seen : Seen) (levels : ℕ) (res : Resource) → HasLongs res → HaveLongs seen → document (json_text seen levels res) ≡ Some (resource_json seen levels res.path res)
unfolding json_text
text_reads_back seen levels res longs all =
    document-print (resource_json seen levels res.path res) (has_numbers seen all levels res.path res longs) (shallow seen levels res.path res)
