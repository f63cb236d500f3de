-- The members of a node that was written, as they are read.
use Rattle.std.proofs.Common.{◌≡◌, ℕ, Bool, true, false, cond, ◌&&◌, ◌||◌, T, ⊎_elim, List, [], ◌∷◌, Option, Some, None, option_map, is_some, if◌then◌else◌, refl, sym, ap, ◌∙◌}
use Rattle.std.specs.Prelude.{option_and_then}
use Rattle.std.specs.Cmp.{tied_itself}
use Rattle.std.specs.Cmp.Lexicographic.{nat_list_cmp_total, same_text}
use Rattle.std.specs.FinMap.Entries.{find, is_sorted, below_all}
use Rattle.std.specs.List.{AllByRecursion, list_any, list_all}
use Rattle.std.specs.Option.{option_or}
use Rattle.std.specs.Ordering.{is_eq, is_lt, eq_by_cmp}
use Rattle.std.specs.declared.cmp.Ordering.{Ordering}
use Rattle.std.specs.declared.cmp.Ordering.TheVariants.{Less, Equal, Greater}
use Rattle.std.specs.Str.{bytes_eq}
use Rattle.std.proofs.lemmas.Bool.{and_from, and_parts, cases_Bool, or_left, or_right}
use Rattle.json.specs.Json as json
use Rattle.serde_json.specs.Data.{Data, array, string, Members, no_members, put}
use Rattle.serde_json.specs.Find.{get_member}
use Rattle.serde_json.specs.Read.{of_json, of_members}
use Rattle.sp_base.specs.Names.{by_name}
use Rattle.sp_base.specs.Paths.{seg_ok}
use Rattle.sp_base.specs.declared.value.Value.{Value}
use Rattle.sp_base.proofs.BoolLemmas.{T_first, T_second}
use Rattle.resource_tree.specs.declared.nodes.Node.{Node}
use Rattle.property_json.specs.PropertyJson.{has_longs, members_before}
use Rattle.content_json.specs.Names.{order_name, is_order, is_content_name}
use Rattle.content_json.specs.Written.{order_before, kids_json, has_no_colon, keeps_kind}
use Rattle.content_json.proofs.Under.{bytes_eq_itself}
use Rattle.content_json.specs.Members.{AreSorted, AllMembers}
use Rattle.content_json.proofs.InsertLemmas.{tie_is, get-put, sorted-insert_all, all-insert_all, insert_all}
use Rattle.content_json.specs.Parts.{items_from, data_of}
use Rattle.content_json.proofs.ValueLemmas.{texts_are, value_is}

abbrev pub prop_entries : List (List ℕ × Value) → List (List ℕ × Data)
prop_entries [] = []
prop_entries (p ∷ ps) = (p.0, data_of p.1) ∷ prop_entries ps

abbrev pub order_entries : List (List ℕ) → List (List ℕ × Data)
order_entries [] = []
order_entries (k ∷ ks) = (order_name, array (items_from string (k ∷ ks))) ∷ []

abbrev pub kid_entries : (List ℕ → Data) → List (List ℕ) → List (List ℕ × Data)
kid_entries f [] = []
kid_entries f (k ∷ ks) = (k, f k) ∷ kid_entries f ks

-- the properties, then `:order`, then the kids
abbrev pub members_of : (List ℕ → Data) → Node → Members
members_of f node = insert_all (kid_entries f node.kids) (insert_all (order_entries node.kids) (insert_all (prop_entries node.props) no_members))

-- ---- reading gives these members

props_read : (ps : List (List ℕ × Value)) (ms : json.Members) (found : Members) → list_all (λ p. has_longs p.1) ps ≡ true
    → of_members (members_before ps ms) found ≡ of_members ms (insert_all (prop_entries ps) found)
props_read [] ms found h = refl
props_read ((name, value) ∷ ps) ms found h =
    let parts = and_parts (has_longs value) (list_all (λ p. has_longs p.1) ps) h in
    ap (option_and_then (λ d. of_members (members_before ps ms) (put name d found))) (value_is value parts.0)
    ∙ props_read ps ms (put name (data_of value) found) parts.1

order_read : (ks : List (List ℕ)) (ms : json.Members) (found : Members) → of_members (order_before ks ms) found ≡ of_members ms (insert_all (order_entries ks) found)
order_read [] ms found = refl
order_read (k ∷ ks) ms found = ap (λ o. option_and_then (λ d. of_members ms (put order_name d found)) (option_map array o)) (texts_are (k ∷ ks))

kids_read : (js : List ℕ → json.Json) (f : List ℕ → Data) (ks : List (List ℕ)) (found : Members) → ((k : List ℕ) → list_any (bytes_eq k) ks ≡ true → of_json (js k) ≡ Some (f k))
    → of_members (kids_json js ks) found ≡ Some (insert_all (kid_entries f ks) found)
kids_read js f [] found each = refl
kids_read js f (k ∷ ks) found each =
    ap (option_and_then (λ d. of_members (kids_json js ks) (put k d found))) (each k (or_left (bytes_eq k k) (list_any (bytes_eq k) ks) (bytes_eq_itself k)))
    ∙ kids_read js f ks (put k (f k) found) (λ q h. each q (or_right (bytes_eq q k) (list_any (bytes_eq q) ks) h))

pub members_read : (js : List ℕ → json.Json) (f : List ℕ → Data) (node : Node) → list_all (λ p. has_longs p.1) node.props ≡ true
    → ((k : List ℕ) → list_any (bytes_eq k) node.kids ≡ true → of_json (js k) ≡ Some (f k))
    → of_members (members_before node.props (order_before node.kids (kids_json js node.kids))) no_members ≡ Some (members_of f node)
members_read js f node longs each =
    props_read node.props (order_before node.kids (kids_json js node.kids)) no_members longs
    ∙ order_read node.kids (kids_json js node.kids) (insert_all (prop_entries node.props) no_members)
    ∙ kids_read js f node.kids (insert_all (order_entries node.kids) (insert_all (prop_entries node.props) no_members)) each

pub members_sorted : (f : List ℕ → Data) (node : Node) → AreSorted (members_of f node)
members_sorted f node = sorted-insert_all (kid_entries f node.kids) _ (sorted-insert_all (order_entries node.kids) _ (sorted-insert_all (prop_entries node.props) no_members tt))

-- ---- each is a property, `:order` or a kid

pub data IsMember (f : List ℕ → Data) (node : Node) (name : List ℕ) (d : Data) : Type 0 where
  prop : (value : Value) → d ≡ data_of value → is_content_name name ≡ true → has_longs value ≡ true → IsMember f node name d
  order : name ≡ order_name → IsMember f node name d
  kid : list_any (bytes_eq name) node.kids ≡ true → d ≡ f name → IsMember f node name d

-- what holds of the names that are found holds of each
names_hold : (Q : List ℕ → Type 0) (ps : List (List ℕ × Value)) → ((q : List ℕ) → is_some (find by_name q ps) ≡ true → Q q) → AllByRecursion (λ p. Q p.0) ps
names_hold Q [] gives = tt
names_hold Q (p ∷ ps) gives = (
  gives p.0 (ap (λ o. is_some (cond (is_eq o) (Some p.1) (find by_name p.0 ps))) (tied_itself nat_list_cmp_total p.0)),
  names_hold Q ps (λ q h. gives q (elim (eq_by_cmp by_name q p.0) as (λ t. is_some (cond t (Some p.1) (find by_name q ps)) ≡ true) [ true ↦ refl | false ↦ h ])),
)

props_are : (f : List ℕ → Data) (node : Node) (ps : List (List ℕ × Value)) → AllByRecursion (λ p. seg_ok p.0 ≡ true) ps → list_all (λ p. has_longs p.1) ps ≡ true
    → list_all (λ p. has_no_colon p.0 && keeps_kind p.1) ps ≡ true → AllByRecursion (λ e. IsMember f node e.0 e.1) (prop_entries ps)
props_are f node [] named longs plain = tt
props_are f node (p ∷ ps) named longs plain =
    let l = and_parts (has_longs p.1) (list_all (λ p. has_longs p.1) ps) longs in
    let k = and_parts (has_no_colon p.0 && keeps_kind p.1) (list_all (λ p. has_no_colon p.0 && keeps_kind p.1) ps) plain in
    (prop p.1 refl (and_from (seg_ok p.0) (has_no_colon p.0) named.0 (and_parts (has_no_colon p.0) (keeps_kind p.1) k.0).0) l.0, props_are f node ps named.1 l.1 k.1)

order_is : (f : List ℕ → Data) (node : Node) (ks : List (List ℕ)) → AllByRecursion (λ e. IsMember f node e.0 e.1) (order_entries ks)
order_is f node [] = tt
order_is f node (k ∷ ks) = (order refl, tt)

kids_are : (f : List ℕ → Data) (node : Node) (ks : List (List ℕ)) → ((k : List ℕ) → list_any (bytes_eq k) ks ≡ true → list_any (bytes_eq k) node.kids ≡ true)
    → AllByRecursion (λ e. IsMember f node e.0 e.1) (kid_entries f ks)
kids_are f node [] within = tt
kids_are f node (k ∷ ks) within =
    (kid (within k (or_left (bytes_eq k k) (list_any (bytes_eq k) ks) (bytes_eq_itself k))) refl, kids_are f node ks (λ q h. within q (or_right (bytes_eq q k) (list_any (bytes_eq q) ks) h)))

pub members_are : (f : List ℕ → Data) (node : Node) → ((q : List ℕ) → is_some (find by_name q node.props) ≡ true → seg_ok q ≡ true) → list_all (λ p. has_longs p.1) node.props ≡ true
    → list_all (λ p. has_no_colon p.0 && keeps_kind p.1) node.props ≡ true → AllMembers (IsMember f node) (members_of f node)
members_are f node names longs plain =
    all-insert_all (IsMember f node) (kid_entries f node.kids) _ (kids_are f node node.kids (λ k h. h))
    (all-insert_all (IsMember f node) (order_entries node.kids) _ (order_is f node node.kids)
    (all-insert_all (IsMember f node) (prop_entries node.props) no_members (props_are f node node.props (names_hold (λ q. seg_ok q ≡ true) node.props names) longs plain) tt))

-- ---- what is found under a name

get_kids : (f : List ℕ → Data) (ks : List (List ℕ)) (ms : Members) (q : List ℕ)
    → get_member q (insert_all (kid_entries f ks) ms) ≡ (if list_any (bytes_eq q) ks then Some (f q) else get_member q ms)
get_kids f [] ms q = refl
get_kids f (k ∷ ks) ms q =
    get_kids f ks (put k (f k) ms) q ∙ ap (λ o. if list_any (bytes_eq q) ks then Some (f q) else o) (get-put q k (f k) ms)
    ∙ ⊎_elim (λ e. found (list_any (bytes_eq q) ks) e) (λ e. other (list_any (bytes_eq q) ks) e) (cases_Bool (bytes_eq q k))
  where
    found : (t : Bool) → bytes_eq q k ≡ true → (if t then Some (f q) else cond (bytes_eq q k) (Some (f k)) (get_member q ms)) ≡ (if bytes_eq q k || t then Some (f q) else get_member q ms)
    found true e = rw e refl
    found false e = rw e (ap (λ n. Some (f n)) (sym (same_text q k (sym e))))

    other : (t : Bool) → bytes_eq q k ≡ false → (if t then Some (f q) else cond (bytes_eq q k) (Some (f k)) (get_member q ms)) ≡ (if bytes_eq q k || t then Some (f q) else get_member q ms)
    other true e = rw e refl
    other false e = rw e refl

get_order : (ks : List (List ℕ)) (ms : Members) (q : List ℕ) → is_order q ≡ false → get_member q (insert_all (order_entries ks) ms) ≡ get_member q ms
get_order [] ms q e = refl
get_order (k ∷ ks) ms q e =
    let d = array (items_from string (k ∷ ks)) in get-put q order_name d ms ∙ ap (λ t. cond t (Some d) (get_member q ms)) e

get_order_name : (k : List ℕ) (ks : List (List ℕ)) (ms : Members) → get_member order_name (insert_all (order_entries (k ∷ ks)) ms) ≡ Some (array (items_from string (k ∷ ks)))
get_order_name k ks ms =
    let d = array (items_from string (k ∷ ks)) in get-put order_name order_name d ms ∙ ap (λ t. cond t (Some d) (get_member order_name ms)) (bytes_eq_itself order_name)

pub less_apart : (o : Ordering) → T (is_lt o) → is_eq o ≡ false
less_apart Less h = refl
less_apart Equal h = absurd h
less_apart Greater h = absurd h

pub find_below : {X : Type 0} (q : List ℕ) (es : List (List ℕ × X)) → T (below_all by_name q es) → find by_name q es ≡ None
find_below q [] h = refl
find_below q (e ∷ es) h = ap (λ t. cond t (Some e.1) (find by_name q es)) (less_apart (by_name q e.0) (T_first _ _ h)) ∙ find_below q es (T_second _ _ h)

get_props : (ps : List (List ℕ × Value)) (ms : Members) (q : List ℕ) → T (is_sorted by_name ps)
    → get_member q (insert_all (prop_entries ps) ms) ≡ option_or (option_map data_of (find by_name q ps)) (get_member q ms)
get_props [] ms q h = refl
get_props (p ∷ ps) ms q h =
    let d = data_of p.1 in
    let rest = find by_name q ps in
    get_props ps (put p.0 d ms) q (T_second (below_all by_name p.0 ps) (is_sorted by_name ps) h)
    ∙ ap (option_or (option_map data_of rest)) (get-put q p.0 d ms)
    ∙ ⊎_elim
    (λ e. let none : rest ≡ None = ap (λ n. find by_name n ps) (same_text q p.0 (sym e)) ∙ find_below p.0 ps (T_first (below_all by_name p.0 ps) (is_sorted by_name ps) h) in
    ap (λ o. option_or (option_map data_of o) (cond (bytes_eq q p.0) (Some d) (get_member q ms))) none ∙ ap (λ t. cond t (Some d) (get_member q ms)) e
    ∙ sym (ap (λ t. option_or (option_map data_of (cond t (Some p.1) rest)) (get_member q ms)) (tie_is q p.0 ∙ e)))
    (λ e. ap (λ t. option_or (option_map data_of rest) (cond t (Some d) (get_member q ms))) e
    ∙ sym (ap (λ t. option_or (option_map data_of (cond t (Some p.1) rest)) (get_member q ms)) (tie_is q p.0 ∙ e)))
    (cases_Bool (bytes_eq q p.0))

pub option_or-none : {A : Type 0} (o : Option A) → option_or o None ≡ o
option_or-none None = refl
option_or-none (Some x) = refl

-- a kid
pub get_kid : (f : List ℕ → Data) (node : Node) (q : List ℕ) → list_any (bytes_eq q) node.kids ≡ true → get_member q (members_of f node) ≡ Some (f q)
get_kid f node q h =
    let ms = insert_all (order_entries node.kids) (insert_all (prop_entries node.props) no_members) in
    get_kids f node.kids ms q ∙ ap (λ t. if t then Some (f q) else get_member q ms) h

-- a property
pub get_prop : (f : List ℕ → Data) (node : Node) (q : List ℕ) → T (is_sorted by_name node.props) → list_any (bytes_eq q) node.kids ≡ false → is_order q ≡ false
    → get_member q (members_of f node) ≡ option_map data_of (find by_name q node.props)
get_prop f node q sorted no_kid other =
    let props = insert_all (prop_entries node.props) no_members in
    let ms = insert_all (order_entries node.kids) props in
    get_kids f node.kids ms q ∙ ap (λ t. if t then Some (f q) else get_member q ms) no_kid ∙ get_order node.kids props q other ∙ get_props node.props no_members q sorted
    ∙ option_or-none (option_map data_of (find by_name q node.props))

-- `:order`
pub get_order_some : (f : List ℕ → Data) (node : Node) (k : List ℕ) (ks : List (List ℕ)) → node.kids ≡ k ∷ ks → list_any (bytes_eq order_name) node.kids ≡ false
    → get_member order_name (members_of f node) ≡ Some (array (items_from string node.kids))
get_order_some f node k ks e no_kid =
    let props = insert_all (prop_entries node.props) no_members in
    let ms = insert_all (order_entries node.kids) props in
    get_kids f node.kids ms order_name ∙ ap (λ t. if t then Some (f order_name) else get_member order_name ms) no_kid
    ∙ ap (λ names. get_member order_name (insert_all (order_entries names) props)) e ∙ get_order_name k ks props ∙ ap (λ names. Some (array (items_from string names))) (sym e)

pub get_order_none : (f : List ℕ → Data) (node : Node) → T (is_sorted by_name node.props) → node.kids ≡ [] → find by_name order_name node.props ≡ None
    → get_member order_name (members_of f node) ≡ None
get_order_none f node sorted e none =
    let props = insert_all (prop_entries node.props) no_members in
    ap (λ names. get_member order_name (insert_all (kid_entries f names) (insert_all (order_entries names) props))) e
    ∙ get_props node.props no_members order_name sorted ∙ ap (λ o. option_or (option_map data_of o) None) none
