-- What is made of an object's members.
use Rattle.std.proofs.Common.{◌≡◌, ◌≢◌, ℕ, Bool, true, false, cond, not, ◌&&◌, ◌||◌, ⊎_elim, List, [], ◌∷◌, ◌++◌, filter, append_assoc, Option, Some, None, option_map, is_some, unwrap_or, if◌then◌else◌, Bor, nat_cmp, Less, Equal, Greater, refl, sym, ap, ◌∙◌, subst}
use Rattle.std.specs.Prelude.{⊤, option_and_then, MatchOption}
use Rattle.std.specs.BTreeMap.{insert_entry, is_at}
use Rattle.std.specs.Cmp.Lexicographic.{slice_cmp, same_text}
use Rattle.std.specs.FinMap.Entries as entries
use Rattle.std.specs.List.{list_any, filter_map}
use Rattle.std.specs.Map.{lookup}
use Rattle.std.specs.Option.{option_or, option_map_or}
use Rattle.std.specs.Ordering.{match_ordering, is_eq}
use Rattle.std.specs.Str.{bytes_eq}
use Rattle.std.specs.declared.cmp.Ordering.{Ordering}
use Rattle.std.proofs.lemmas.Bool.{cases_Bool, true≢false, false≢true, or_parts}
use Rattle.std.proofs.lemmas.List.{append-nil}
use Rattle.std.proofs.lemmas.List.Folds.{list_any-append}
use Rattle.serde_json.specs.Data.{Data, null, boolean, number, string, array, object, Items, no_items, item, Members, no_members, member, put}
use Rattle.serde_json.specs.Find.{as_str, as_array, get_member}
use Rattle.sp_base.specs.Names.{by_name}
use Rattle.sp_base.specs.Texts.{Properties}
use Rattle.sp_base.specs.declared.value.Value.{Value}
use Rattle.sp_base.specs.declared.value.Value.TheVariants.{Text, Long, Truth, Texts, Longs, Truths}
use Rattle.sp_base.proofs.PropertyLemmas.{same_name}
use Rattle.sp_base.proofs.BoolLemmas.{and_false, and_true}
use Rattle.sp_base.proofs.OptionLemmas.{is_some-option_map}
use Rattle.resource_tree.specs.Content.{Content, kid}
use Rattle.content_json.specs.declared.fault.Cause.{Cause}
use Rattle.content_json.specs.declared.kind.Kind.TheVariants as kind
use Rattle.content_json.specs.declared.part.Part.{Part}
use Rattle.content_json.specs.declared.part.Part.TheVariants as part
use Rattle.content_json.specs.Names.{order_name, is_order, is_content_name, has_bad_name, is_object, is_kid_member, kid_names, is_kid}
use Rattle.content_json.specs.Lists.{items_cause, array_cause, item_list, data_value}
use Rattle.content_json.specs.Faults.{here, own_fault, names_kids, is_good_order, has_good_order, fault_in, fault_below, in_member}
use Rattle.content_json.specs.Nodes.{order_names, kids_of, with_member, add_props, nodes_in, nodes_below, is_deeper, is_deeper_below}
use Rattle.content_json.specs.Steps.{member_nodes}
use Rattle.content_json.specs.Parts.{items_from, texts_array, is_unfit_value, may_stand, is_unfit_member, has_unfit, is_unfit_object, IsMemberPart, AreMemberParts, Lists, is_kid_part, kid_keys, listed_in}
use Rattle.content_json.proofs.ValueLemmas.{texts_back, value_back, value_faultless, value_no_object, value_no_nodes, value_shallow}

-- ---- one more member

pub parts-insert : (levels : ℕ) (path : List (List ℕ)) (k : Bor (List ℕ)) (p : Part) (d : Data) (es : List (Bor (List ℕ) × Part)) (ms : Members) → IsMemberPart levels path k.now p d
    → AreMemberParts levels path es ms → AreMemberParts levels path (insert_entry (λ j k. slice_cmp nat_cmp j.now k.now) es k p) (put k.now d ms)
parts-insert levels path k p d [] no_members is h = (refl, is, tt)
parts-insert levels path k p d [] (member l x ms) is h = absurd h
parts-insert levels path k p d (e ∷ es) no_members is h = absurd h
parts-insert levels path k p d (e ∷ es) (member l x ms) is h =
    let same : by_name k.now e.0.now ≡ by_name k.now l = ap (by_name k.now) h.0 in
    let more = insert_entry (λ j k. slice_cmp nat_cmp j.now k.now) es k p in
    subst (λ (o : Ordering). AreMemberParts levels path (match_ordering o ((k, p) ∷ e ∷ es) ((e.0, p) ∷ es) (e ∷ more)) (put k.now d (member l x ms))) (sym same)
    (elim (by_name k.now l) as (λ o. by_name k.now l ≡ o → AreMemberParts levels path (match_ordering o ((k, p) ∷ e ∷ es) ((e.0, p) ∷ es) (e ∷ more)) (match_ordering o (member k.now d (member l x ms)) (member l d ms) (member l x (put k.now d ms)))) [
      | Less ↦ λ _. (refl, is, h)
      | Equal ↦ λ tie. (h.0, subst (λ (n : List ℕ). IsMemberPart levels path n p d) (same_name k.now l tie) is, h.2)
      | Greater ↦ λ _. (h.0, h.1, parts-insert levels path k p d es ms is h.2)
    ] refl)

-- ---- the first member

pub first_part : (levels : ℕ) (path : List (List ℕ)) (e : Bor (List ℕ) × Part) (es : List (Bor (List ℕ) × Part)) (ms : Members) → AreMemberParts levels path (e ∷ es) ms
    → (d : Data) × (more : Members) × (ms ≡ member e.0.now d more) × IsMemberPart levels path e.0.now e.1 d × AreMemberParts levels path es more
first_part levels path e es no_members h = absurd h
first_part levels path e es (member l d ms) h = (d, ms, ap (λ n. member n d ms) (sym h.0), subst (λ (n : List ℕ). IsMemberPart levels path n e.1 d) (sym h.0) h.1, h.2)

pub no_part : (levels : ℕ) (path : List (List ℕ)) (ms : Members) → AreMemberParts levels path [] ms → ms ≡ no_members
no_part levels path no_members h = refl
no_part levels path (member l d ms) h = absurd h

-- ---- a member of a name

abbrev pub IsFound : ℕ → List (List ℕ) → List ℕ → Option Part → Option Data → Type 0
IsFound levels path q None None = ⊤
IsFound levels path q None (Some d) = ⊥
IsFound levels path q (Some p) None = ⊥
IsFound levels path q (Some p) (Some d) = IsMemberPart levels path q p d

pub part_found : (levels : ℕ) (path : List (List ℕ)) (q : List ℕ) (es : List (Bor (List ℕ) × Part)) (ms : Members) → AreMemberParts levels path es ms
    → IsFound levels path q (lookup (is_at (λ k. slice_cmp nat_cmp q k.now)) es) (get_member q ms)
part_found levels path q [] no_members h = tt
part_found levels path q [] (member l d ms) h = absurd h
part_found levels path q (e ∷ es) no_members h = absurd h
part_found levels path q (e ∷ es) (member l d ms) h =
    let same : by_name q e.0.now ≡ by_name q l = ap (by_name q) h.0 in
    let rest = lookup (is_at (λ k. slice_cmp nat_cmp q k.now)) es in
    subst (λ (o : Ordering). IsFound levels path q (cond (is_eq o) (Some e.1) rest) (get_member q (member l d ms))) (sym same)
    (elim (by_name q l) as (λ o. by_name q l ≡ o → IsFound levels path q (cond (is_eq o) (Some e.1) rest) (match_ordering o (get_member q ms) (Some d) (get_member q ms))) [
      | Less ↦ λ _. part_found levels path q es ms h.2
      | Equal ↦ λ tie. subst (λ (n : List ℕ). IsMemberPart levels path n e.1 d) (sym (same_name q l tie)) h.1
      | Greater ↦ λ _. part_found levels path q es ms h.2
    ] refl)

-- none of the members is unfit, so neither is one that is found
pub fit_found : (levels : ℕ) (q : List ℕ) (d : Data) (ms : Members) → has_unfit levels ms ≡ false → get_member q ms ≡ Some d → is_unfit_member levels q d ≡ false
fit_found levels q d no_members h e = absurd (cc)
fit_found levels q d (member l x ms) h e =
    let parts = or_parts (is_unfit_member levels l x) (has_unfit levels ms) h in
    elim (by_name q l) as (λ o. by_name q l ≡ o → match_ordering o (get_member q ms) (Some x) (get_member q ms) ≡ Some d → is_unfit_member levels q d ≡ false) [
      | Less ↦ λ _ found. fit_found levels q d ms parts.1 found
      | Equal ↦ λ tie found. (let is : x ≡ d = cc in subst (λ (n : List ℕ). is_unfit_member levels n d ≡ false) (sym (same_name q l tie)) (subst (λ (y : Data). is_unfit_member levels l y ≡ false) is parts.0))
      | Greater ↦ λ _ found. fit_found levels q d ms parts.1 found
    ] refl e

-- ---- kids

no_kid : (name : List ℕ) (d : Data) → is_object d ≡ false → false ≡ is_kid_member name d
no_kid name d e = sym (ap (λ b. not (is_order name) && b) e ∙ and_false (not (is_order name)))

unfit_order : (order stands unfit : Bool) → (not stands || unfit) ≡ true → (not stands || (if order then false else unfit)) ≡ false → order ≡ true
unfit_order true stands unfit g h = refl
unfit_order false stands unfit g h = absurd (true≢false (sym g ∙ h))

pub is_kid_made : (levels : ℕ) (path : List (List ℕ)) (name : List ℕ) (p : Part) (d : Data) → IsMemberPart levels path name p d → is_unfit_member levels name d ≡ false → is_kid_part name p ≡ is_kid_member name d
is_kid_made levels path name part.Nothing d h fit = no_kid name d (ap is_object h.1)
is_kid_made levels path name (part.Value v) d h fit = no_kid name d (ap is_object h.1.0 ∙ value_no_object v)
is_kid_made levels path name (part.Kid s) d h fit = sym (ap (λ x. not (is_order name) && is_object x) h.3 ∙ and_true (not (is_order name)))
is_kid_made levels path name part.Unfit d h fit = let order = unfit_order (is_order name) (may_stand name) (is_unfit_value levels d) h fit in sym (ap (λ b. not b && is_object d) order)

pub kid_keys_are : (levels : ℕ) (path : List (List ℕ)) (es : List (Bor (List ℕ) × Part)) (ms : Members) → AreMemberParts levels path es ms → has_unfit levels ms ≡ false → kid_keys es ≡ kid_names ms
kid_keys_are levels path [] no_members h fit = refl
kid_keys_are levels path [] (member l d ms) h fit = absurd h
kid_keys_are levels path (e ∷ es) no_members h fit = absurd h
kid_keys_are levels path (e ∷ es) (member l d ms) h fit =
    let parts = or_parts (is_unfit_member levels l d) (has_unfit levels ms) fit in
    let name = h.0 in
    let is = ap (λ n. is_kid_part n e.1) h.0 ∙ is_kid_made levels path l e.1 d h.1 parts.0 in
    let rest = kid_keys_are levels path es ms h.2 parts.1 in
    λ i. if is i then name i ∷ rest i else rest i

-- of a part that is found
pub is_kid_found : (levels : ℕ) (path : List (List ℕ)) (q : List ℕ) (o : Option Part) (ms : Members) → IsFound levels path q o (get_member q ms) → has_unfit levels ms ≡ false
    → option_map_or (is_kid_part q) o false ≡ (not (is_order q) && is_kid ms q)
is_kid_found levels path q o ms h fit =
    elim (get_member q ms) as (λ m. get_member q ms ≡ m → IsFound levels path q o m → option_map_or (is_kid_part q) o false ≡ (not (is_order q) && option_map_or is_object m false)) [
      | None ↦ λ _ found. absent o found
      | Some d ↦ λ is found. there o d is found
    ] refl h
  where
    absent : (o : Option Part) → IsFound levels path q o None → option_map_or (is_kid_part q) o false ≡ (not (is_order q) && false)
    absent None found = sym (and_false (not (is_order q)))
    absent (Some p) found = absurd found

    there : (o : Option Part) (d : Data) → get_member q ms ≡ Some d → IsFound levels path q o (Some d) → option_map_or (is_kid_part q) o false ≡ (not (is_order q) && is_object d)
    there None d is found = absurd found
    there (Some p) d is found = is_kid_made levels path q p d found (fit_found levels q d ms fit is)

-- ---- what `:order` lists

no_cause_of_names : (ms : Members) (before : List (List ℕ)) (ds : Items) → names_kids ms before ds ≡ true → items_cause kind.Text ds ≡ None
no_cause_of_names ms before no_items h = refl
no_cause_of_names ms before (item null ds) h = absurd (false≢true h)
no_cause_of_names ms before (item (boolean b) ds) h = absurd (false≢true h)
no_cause_of_names ms before (item (number n) ds) h = absurd (false≢true h)
no_cause_of_names ms before (item (string s) ds) h = no_cause_of_names ms (s ∷ before) ds (last (is_kid ms s) (not (list_any (λ other. bytes_eq other s) before)) (names_kids ms (s ∷ before) ds) h)
  where
    last : (a b c : Bool) → (a && b && c) ≡ true → c ≡ true
    last true true c g = g
    last true false c g = absurd (false≢true g)
    last false b c g = absurd (false≢true g)
no_cause_of_names ms before (item (array xs) ds) h = absurd (false≢true h)
no_cause_of_names ms before (item (object xs) ds) h = absurd (false≢true h)

no_cause_of_order : (ms : Members) (ds : Items) → names_kids ms [] ds ≡ true → array_cause ds ≡ None
no_cause_of_order ms no_items h = refl
no_cause_of_order ms (item null ds) h = absurd (false≢true h)
no_cause_of_order ms (item (boolean b) ds) h = absurd (false≢true h)
no_cause_of_order ms (item (number n) ds) h = absurd (false≢true h)
no_cause_of_order ms (item (string s) ds) h = no_cause_of_names ms [] (item (string s) ds) h
no_cause_of_order ms (item (array xs) ds) h = absurd (false≢true h)
no_cause_of_order ms (item (object xs) ds) h = absurd (false≢true h)

some_cause : (o : Option Cause) → (is_some (option_map here o) || false) ≡ true → o ≢ None
some_cause None h e = true≢false (sym h)
some_cause (Some c) h e = absurd (cc)

-- an unfit value of `:order` is none that is good
unfit_no_order : (levels : ℕ) (ms : Members) (d : Data) → is_unfit_value levels d ≡ true → is_good_order ms d ≡ false
unfit_no_order levels ms null h = refl
unfit_no_order levels ms (boolean b) h = refl
unfit_no_order levels ms (number n) h = refl
unfit_no_order levels ms (string s) h = refl
unfit_no_order levels ms (array ds) h =
    ⊎_elim (λ good. absurd (some_cause (array_cause ds) h (no_cause_of_order ms ds good))) (λ bad. bad) (cases_Bool (names_kids ms [] ds))
unfit_no_order levels ms (object xs) h = refl

no_order : (levels : ℕ) (path : List (List ℕ)) (ms : Members) (p : Part) (d : Data) → IsMemberPart levels path order_name p d → listed_in p ≡ None → is_good_order ms d ≡ false
no_order levels path ms part.Nothing d h none = ap (is_good_order ms) h.1
no_order levels path ms (part.Value (Text t)) d h none = ap (is_good_order ms) h.1.0
no_order levels path ms (part.Value (Long n)) d h none = ap (is_good_order ms) h.1.0
no_order levels path ms (part.Value (Truth b)) d h none = ap (is_good_order ms) h.1.0
no_order levels path ms (part.Value (Texts ts)) d h none = absurd (cc)
no_order levels path ms (part.Value (Longs [])) d h none = absurd (false≢true h.1.2)
no_order levels path ms (part.Value (Longs (n ∷ ns))) d h none = ap (is_good_order ms) h.1.0
no_order levels path ms (part.Value (Truths [])) d h none = absurd (false≢true h.1.2)
no_order levels path ms (part.Value (Truths (b ∷ bs))) d h none = ap (is_good_order ms) h.1.0
no_order levels path ms (part.Kid s) d h none = ap (is_good_order ms) h.3
no_order levels path ms part.Unfit d h none = unfit_no_order levels ms d h

pub order_absent : (levels : ℕ) (path : List (List ℕ)) (ms : Members) → IsFound levels path order_name None (get_member order_name ms) → Lists ms []
order_absent levels path ms h =
    elim (get_member order_name ms) as (λ m. IsFound levels path order_name None m → unwrap_or m (texts_array []) ≡ texts_array []) [ None ↦ λ _. refl | Some d ↦ λ found. absurd found ] h

pub order_bad : (levels : ℕ) (path : List (List ℕ)) (ms : Members) (p : Part) → IsFound levels path order_name (Some p) (get_member order_name ms) → listed_in p ≡ None → has_good_order ms ≡ false
order_bad levels path ms p h none =
    elim (get_member order_name ms) as (λ m. IsFound levels path order_name (Some p) m → option_map_or (is_good_order ms) m true ≡ false) [ None ↦ λ found. absurd found | Some d ↦ λ found. no_order levels path ms p d found none ] h

listed_array : (levels : ℕ) (path : List (List ℕ)) (p : Part) (d : Data) (names : List (List ℕ)) → IsMemberPart levels path order_name p d → listed_in p ≡ Some names → d ≡ texts_array names
listed_array levels path part.Nothing d names h e = absurd (cc)
listed_array levels path (part.Value (Text t)) d names h e = absurd (cc)
listed_array levels path (part.Value (Long n)) d names h e = absurd (cc)
listed_array levels path (part.Value (Truth b)) d names h e = absurd (cc)
listed_array levels path (part.Value (Texts ts)) d names h e = (let is : ts ≡ names = cc in h.1.0 ∙ ap texts_array is)
listed_array levels path (part.Value (Longs ns)) d names h e = absurd (cc)
listed_array levels path (part.Value (Truths bs)) d names h e = absurd (cc)
listed_array levels path (part.Kid s) d names h e = absurd (cc)
listed_array levels path part.Unfit d names h e = absurd (cc)

pub order_listed : (levels : ℕ) (path : List (List ℕ)) (ms : Members) (p : Part) (names : List (List ℕ)) → IsFound levels path order_name (Some p) (get_member order_name ms) → listed_in p ≡ Some names → Lists ms names
order_listed levels path ms p names h e =
    elim (get_member order_name ms) as (λ m. IsFound levels path order_name (Some p) m → unwrap_or m (texts_array []) ≡ texts_array names) [ None ↦ λ found. absurd found | Some d ↦ λ found. listed_array levels path p d names found e ] h

pub order_made : (levels : ℕ) (path : List (List ℕ)) (ms : Members) (p : Part) (found : Option (Bor (List (List ℕ)))) → option_map (λ names. names.now) found ≡ listed_in p → IsFound levels path order_name (Some p) (get_member order_name ms)
    → MatchOption found (has_good_order ms ≡ false) (λ names. Lists ms names.now)
order_made levels path ms p None is h = order_bad levels path ms p h (sym is)
order_made levels path ms p (Some names) is h = order_listed levels path ms p names.now h (sym is)

good_order : (ms : Members) (o : Option Data) (names : List (List ℕ)) → unwrap_or o (texts_array []) ≡ texts_array names → option_map_or (is_good_order ms) o true ≡ names_kids ms [] (items_from string names)
good_order ms None names e = ap (λ d. option_map_or (names_kids ms []) (as_array d) true) e
good_order ms (Some d) names e = ap (is_good_order ms) e

-- it is good where its names are kids
pub good_order_is : (ms : Members) (names : List (List ℕ)) → Lists ms names → has_good_order ms ≡ names_kids ms [] (items_from string names)
good_order_is ms names e = good_order ms (get_member order_name ms) names e

-- `:order` itself is none
pub order_no_kid : (ms : Members) (names : List (List ℕ)) → Lists ms names → is_kid ms order_name ≡ false
order_no_kid ms names e =
    elim (get_member order_name ms) as (λ m. unwrap_or m (texts_array []) ≡ texts_array names → option_map_or is_object m false ≡ false) [ None ↦ λ _. refl | Some d ↦ λ is. ap is_object is ] e

-- so the names of kids are those that it lists, and then the others
order_names_are : (o : Option Data) (names : List (List ℕ)) → unwrap_or o (texts_array []) ≡ texts_array names → filter_map as_str (item_list (unwrap_or (option_and_then as_array o) no_items)) ≡ names
order_names_are None names e = ap (λ d. filter_map as_str (item_list (unwrap_or (as_array d) no_items))) e ∙ texts_back names
order_names_are (Some d) names e = ap (λ x. filter_map as_str (item_list (unwrap_or (as_array x) no_items))) e ∙ texts_back names

pub listed_are : (ms : Members) (names : List (List ℕ)) → Lists ms names → order_names ms ≡ names
listed_are ms names e = order_names_are (get_member order_name ms) names e

-- ---- what a member adds

pub value_added : (levels : ℕ) (path : List (List ℕ)) (name : List ℕ) (v : Value) (d : Data) (props more : Properties) (nodes : Content) → is_order name ≡ false → IsMemberPart levels path name (part.Value v) d → more ≡ entries.put by_name name v props
    → (is_unfit_member levels name d ≡ false) × (more ≡ with_member name d props) × (nodes ≡ nodes ++ member_nodes path name d)
value_added levels path name v d props more nodes other h put =
    let fits : is_unfit_value levels d ≡ false = ap (is_unfit_value levels) h.1.0 ∙ rw (value_faultless v h.1.1, value_shallow levels v) refl in
    let value : data_value d ≡ Some v = ap data_value h.1.0 ∙ value_back v h.1.1 h.1.2 in
    let none : member_nodes path name d ≡ [] = rw other (ap (nodes_in (kid path name)) h.1.0 ∙ value_no_nodes (kid path name) v) in (
      rw (h.0, other) fits,
      put ∙ sym (rw (other, value) refl),
      sym (ap (λ ns. nodes ++ ns) none ∙ append-nil nodes),
    )

-- ---- an object is unfit where a member is, or its order is bad

some_or : {A : Type 0} (a b : Option A) → is_some (option_or a b) ≡ (is_some a || is_some b)
some_or None b = refl
some_or (Some x) b = refl

own : {A : Type 0} (bad good : Bool) (x y : A) → is_some (if bad then Some x else (if good then None else Some y)) ≡ (bad || not good)
own true good x y = refl
own false true x y = refl
own false false x y = refl

step : (order stands fault deep bad faults deeper rest : Bool) → rest ≡ ((bad || faults) || deeper)
    → ((not stands || (if order then false else (fault || deep))) || rest) ≡ (((not stands || bad) || ((if order then false else fault) || faults)) || ((if order then false else deep) || deeper))
step order stands fault deep bad faults deeper rest e = ap (λ r. (not stands || (if order then false else (fault || deep))) || r) e ∙ alike order stands fault deep bad faults deeper
  where
    alike : (order stands fault deep bad faults deeper : Bool)
        → ((not stands || (if order then false else (fault || deep))) || ((bad || faults) || deeper)) ≡ (((not stands || bad) || ((if order then false else fault) || faults)) || ((if order then false else deep) || deeper))
    alike order false fault deep bad faults deeper = refl
    alike true true fault deep bad faults deeper = refl
    alike false true fault deep true faults deeper = ends fault deep
      where
        ends : (fault deep : Bool) → ((fault || deep) || true) ≡ true
        ends true deep = refl
        ends false true = refl
        ends false false = refl
    alike false true true deep false faults deeper = refl
    alike false true false true false true deeper = refl
    alike false true false true false false deeper = refl
    alike false true false false false faults deeper = refl

member_faults : (order : Bool) (name : List ℕ) (d : Data) → is_some (if order then None else option_map (in_member name) (fault_in d)) ≡ (if order then false else is_some (fault_in d))
member_faults true name d = refl
member_faults false name d = is_some-option_map (in_member name) (fault_in d)

pub has_unfit_is : (levels : ℕ) (ms : Members) → has_unfit levels ms ≡ ((has_bad_name ms || is_some (fault_below ms)) || is_deeper_below levels ms)
has_unfit_is levels no_members = refl
has_unfit_is levels (member name d ms) =
    step (is_order name) (is_order name || is_content_name name) (is_some (fault_in d)) (is_deeper levels d) (has_bad_name ms) (is_some (fault_below ms)) (is_deeper_below levels ms) (has_unfit levels ms) (has_unfit_is levels ms)
    ∙ sym (ap (λ b. ((not (is_order name || is_content_name name) || has_bad_name ms) || b) || ((if is_order name then false else is_deeper levels d) || is_deeper_below levels ms))
    (some_or (if is_order name then None else option_map (in_member name) (fault_in d)) (fault_below ms) ∙ ap (λ b. b || is_some (fault_below ms)) (member_faults (is_order name) name d)))

moved : (bad good faults deeper : Bool) → (((bad || not good) || faults) || deeper) ≡ (((bad || faults) || deeper) || not good)
moved true good faults deeper = refl
moved false true true deeper = refl
moved false true false true = refl
moved false true false false = refl
moved false false true deeper = refl
moved false false false true = refl
moved false false false false = refl

pub unfit_object : (levels : ℕ) (ms : Members) → is_unfit_object levels ms ≡ (has_unfit levels ms || not (has_good_order ms))
unfit_object levels ms =
    ap (λ b. b || is_deeper_below levels ms) (some_or (own_fault ms) (fault_below ms) ∙ ap (λ b. b || is_some (fault_below ms)) (own (has_bad_name ms) (has_good_order ms) _ _))
    ∙ moved (has_bad_name ms) (has_good_order ms) (is_some (fault_below ms)) (is_deeper_below levels ms)
    ∙ ap (λ b. b || not (has_good_order ms)) (sym (has_unfit_is levels ms))

pub bad_order_unfit : (levels : ℕ) (ms : Members) → (has_unfit levels ms ≡ false → has_good_order ms ≡ false) → is_unfit_object levels ms ≡ true
bad_order_unfit levels ms h =
    unfit_object levels ms ∙ ⊎_elim (λ unfit. ap (λ b. b || not (has_good_order ms)) unfit) (λ fit. ap (λ b. has_unfit levels ms || not b) (h fit) ∙ or_end (has_unfit levels ms)) (cases_Bool (has_unfit levels ms))
  where
    or_end : (b : Bool) → (b || true) ≡ true
    or_end true = refl
    or_end false = refl

pub good_fits : (levels : ℕ) (ms : Members) → has_unfit levels ms ≡ false → has_good_order ms ≡ true → is_unfit_object levels ms ≡ false
good_fits levels ms fit good = unfit_object levels ms ∙ rw (fit, good) refl

-- ---- one name more of those that `:order` lists

pub bad_kid : (ms : Members) (before : List (List ℕ)) (name : List ℕ) (rest : Items) → (not (is_order name) && is_kid ms name) ≡ false → is_kid ms order_name ≡ false → names_kids ms before (item (string name) rest) ≡ false
bad_kid ms before name rest h order =
    let no : is_kid ms name ≡ false =
    ⊎_elim (λ is. ap (is_kid ms) (same_text name order_name (sym is)) ∙ order) (λ other. sym (ap (λ b. not b && is_kid ms name) other) ∙ h) (cases_Bool (is_order name)) in
    ap (λ b. b && not (list_any (λ other. bytes_eq other name) before) && names_kids ms (name ∷ before) rest) no

pub named_twice : (ms : Members) (before : List (List ℕ)) (name : List ℕ) (rest : Items) → list_any (λ other. bytes_eq other name) before ≡ true → names_kids ms before (item (string name) rest) ≡ false
named_twice ms before name rest h =
    let others = names_kids ms (name ∷ before) rest in
    let none : names_kids ms before (item (string name) rest) ≡ ((is_kid ms name && false) && others) = ap (λ b. (is_kid ms name && not b) && others) h in
    none ∙ ap (λ b. b && others) (and_false (is_kid ms name))

pub kid_of_both : (order kid : Bool) → (not order && kid) ≡ true → kid ≡ true
kid_of_both true kid h = absurd (false≢true h)
kid_of_both false kid h = h

or_at_end : (is set : Bool) → cond is true set ≡ (set || (is || false))
or_at_end true true = refl
or_at_end true false = refl
or_at_end false true = refl
or_at_end false false = refl

-- a set has one name more, and the list has it at its end
pub one_more_listed : (q name : List ℕ) (names : List (List ℕ)) (is set : Bool) → is ≡ bytes_eq q name → set ≡ list_any (bytes_eq q) names → cond is true set ≡ list_any (bytes_eq q) (names ++ name ∷ [])
one_more_listed q name names is set e has = or_at_end is set ∙ (λ i. has i || (e i || false)) ∙ sym (list_any-append (bytes_eq q) names (name ∷ []))

pub kids_are : (ms : Members) (names keys : List (List ℕ)) (set : List ℕ → Bool) → names ≡ order_names ms → ((q : List ℕ) → set q ≡ list_any (bytes_eq q) names) → keys ≡ kid_names ms
    → names ++ filter (λ name. not (set name)) keys ≡ kids_of ms
kids_are ms names keys set is has same = let each = λ (q : List ℕ). has q ∙ ap (list_any (bytes_eq q)) is in λ i. is i ++ filter (λ name. not (each name i)) (same i)

-- ---- one member more of those that are left

pub member_added : (levels : ℕ) (path : List (List ℕ)) (name : List ℕ) (d : Data) (more left ms : Members) (props now : Properties) (below lower : Content) → left ≡ member name d more
    → has_unfit levels ms ≡ has_unfit levels left → add_props props left ≡ add_props [] ms → below ++ nodes_below path left ≡ nodes_below path ms
    → is_unfit_member levels name d ≡ false → now ≡ with_member name d props → lower ≡ below ++ member_nodes path name d
    → (has_unfit levels ms ≡ has_unfit levels more) × (add_props now more ≡ add_props [] ms) × (lower ++ nodes_below path more ≡ nodes_below path ms)
member_added levels path name d more left ms props now below lower is unfit put nodes fit made grown = (
  unfit ∙ ap (has_unfit levels) is ∙ ap (λ b. b || has_unfit levels more) fit,
  ap (λ ps. add_props ps more) made ∙ ap (add_props props) (sym is) ∙ put,
  ap (λ ns. ns ++ nodes_below path more) grown ∙ append_assoc below (member_nodes path name d) (nodes_below path more) ∙ ap (λ l. below ++ nodes_below path l) (sym is) ∙ nodes,
)

pub unfit_here : (levels : ℕ) (name : List ℕ) (d : Data) (more left ms : Members) → left ≡ member name d more → has_unfit levels ms ≡ has_unfit levels left → is_unfit_member levels name d ≡ true → is_unfit_object levels ms ≡ true
unfit_here levels name d more left ms is unfit here =
    unfit_object levels ms ∙ ap (λ b. b || not (has_good_order ms)) (unfit ∙ ap (has_unfit levels) is ∙ ap (λ b. b || has_unfit levels more) here)
