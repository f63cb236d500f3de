-- What the laws say of content that is read.
use Rattle.std.proofs.Common.{◌≡◌, ℕ, T, Bool, true, false, not, filter, List, [], ◌∷◌, ◌++◌, Less, Option, Some, None, Result, Ok, Err, if◌then◌else◌, refl, sym, ap, ◌∙◌, subst}
use Rattle.std.specs.Prelude.{option_and_then}
use Rattle.std.specs.FinMap.Entries.{is_sorted, below_all}
use Rattle.std.specs.List.{list_any, AllByRecursion}
use Rattle.std.specs.List.Sorted.{IsStrictlySortedBy}
use Rattle.std.specs.Ordering.{is_lt}
use Rattle.std.specs.Str.{bytes_eq}
use Rattle.std.proofs.lemmas.List.Kept.{IsStrictlySortedBy-filter}
use Rattle.serde_json.specs.Data.{Data, null, boolean, number, string, array, object, Members, no_members, member}
use Rattle.sp_base.specs.Names.{by_name}
use Rattle.sp_base.proofs.BoolLemmas.{T_first, T_second}
use Rattle.sp_base.proofs.OrderingLemmas.{less_from_T}
use Rattle.resource_tree.specs.Content.{Content, IsGood, node_at}
use Rattle.content_json.specs.declared.fault.Found.{Found}
use Rattle.content_json.specs.declared.fault.ContentFault.{ContentFault}
use Rattle.content_json.specs.declared.fault.ContentFault.TheVariants.{TooBig}
use Rattle.content_json.specs.Faults.{fault_in}
use Rattle.content_json.specs.Names.{is_kid_member, kid_names}
use Rattle.content_json.specs.Nodes.{nodes_in, order_names, kids_of}
use Rattle.content_json.specs.ContentOf.{json_of, is_too_big, map_of, exceeds_limits, refused_by, unless_found, content_in, content}
use Rattle.content_json.specs.Ways.{way_end, node_of_value}
use Rattle.content_json.specs.Members.{AreSorted, entries_of}
use Rattle.content_json.proofs.InOrder.{IsInOrder, in_order_read}
use Rattle.content_json.proofs.WayLemmas.{node_at_way, in_order_at}
use Rattle.content_json.proofs.GoodLemmas.{map_at, good_content}
use Rattle.content_json.proofs.PathCount.{too_big_is}

refused : {A : Type 0} (tree : Content) (fault : ContentFault) → Err fault ≡ Ok tree → A
refused tree fault h = absurd (cc)

same_tree : (a b : Content) (read : Result Content ContentFault) → read ≡ Ok a → read ≡ Ok b → a ≡ b
same_tree a b read g h = cc

sized : (ms : Members) (tree : Content) (big : Bool) → is_too_big ms ≡ big → IsInOrder (object ms) → fault_in (object ms) ≡ None
    → (if big then Err TooBig else Ok (map_of (nodes_in [] (object ms)))) ≡ Ok tree → IsGood tree
sized ms tree true is in_order faultless h = refused tree TooBig h
sized ms tree false is in_order faultless h = subst IsGood (same_tree (map_of (nodes_in [] (object ms))) tree (Ok (map_of (nodes_in [] (object ms)))) refl h) (good_content ms in_order faultless is)

good_in : (o : Option Data) (tree : Content) → ((d : Data) → o ≡ Some d → IsInOrder d) → content_in o ≡ Ok tree → IsGood tree
good_in None tree in_order h = absurd (cc)
good_in (Some null) tree in_order h = absurd (cc)
good_in (Some (boolean b)) tree in_order h = absurd (cc)
good_in (Some (number n)) tree in_order h = absurd (cc)
good_in (Some (string s)) tree in_order h = absurd (cc)
good_in (Some (array ds)) tree in_order h = absurd (cc)
good_in (Some (object ms)) tree in_order h =
    elim (fault_in (object ms)) as (λ o. fault_in (object ms) ≡ o → unless_found o ms ≡ Ok tree → IsGood tree) [
      | None ↦ λ faultless g. sized ms tree (is_too_big ms) refl (in_order (object ms) refl) faultless g
      | Some found ↦ λ _ g. refused tree (refused_by found.cause found.place) g
    ] refl h

-- what is read is a good tree
pub good_tree : (bytes : List ℕ) (tree : Content) → content bytes ≡ Ok tree → IsGood tree
good_tree bytes tree h = good_in (json_of bytes) tree (in_order_read bytes) h

-- ---- the node at a path

-- what is read of an object, by its fault and its size
abbrev read_by : Option Found → Bool → Content → Result Content ContentFault
read_by (Some found) big tree = Err (refused_by found.cause found.place)
read_by None big tree = if big then Err TooBig else Ok tree

read_is : (fault : Option Found) (ms : Members) → unless_found fault ms ≡ read_by fault (is_too_big ms) (map_of (nodes_in [] (object ms)))
read_is None ms = refl
read_is (Some found) ms = refl

-- a value that reads to a tree
tree_in : (o : Option Data) (tree : Content) (top : Data) → ((d : Data) → o ≡ Some d → IsInOrder d) → content_in o ≡ Ok tree → o ≡ Some top → (tree ≡ map_of (nodes_in [] top)) × IsInOrder top
tree_in None tree top in_order h is = absurd (cc)
tree_in (Some null) tree top in_order h is = absurd (cc)
tree_in (Some (boolean b)) tree top in_order h is = absurd (cc)
tree_in (Some (number n)) tree top in_order h is = absurd (cc)
tree_in (Some (string s)) tree top in_order h is = absurd (cc)
tree_in (Some (array ds)) tree top in_order h is = absurd (cc)
tree_in (Some (object ms)) tree top in_order h is =
    let same : object ms ≡ top = same_value (object ms) top is in
    (sym (by (fault_in (object ms)) (is_too_big ms) (sym (read_is (fault_in (object ms)) ms) ∙ h)) ∙ ap (λ d. map_of (nodes_in [] d)) same, subst IsInOrder same (in_order (object ms) refl))
  where
    same_value : (a b : Data) → Some a ≡ Some b → a ≡ b
    same_value a b e = cc

    by : (fault : Option Found) (big : Bool) → read_by fault big (map_of (nodes_in [] (object ms))) ≡ Ok tree → map_of (nodes_in [] (object ms)) ≡ tree
    by (Some found) big g = refused tree (refused_by found.cause found.place) g
    by None true g = refused tree TooBig g
    by None false g = same_tree (map_of (nodes_in [] (object ms))) tree (Ok (map_of (nodes_in [] (object ms)))) refl g

pub node_at_path : (bytes : List ℕ) (tree : Content) (top : Data) (path : List (List ℕ)) → content bytes ≡ Ok tree → json_of bytes ≡ Some top → node_at tree path ≡ option_and_then node_of_value (way_end path top)
node_at_path bytes tree top path h is =
    let found = tree_in (json_of bytes) tree top (in_order_read bytes) h is in
    ap (λ t. node_at t path) found.0 ∙ map_at (nodes_in [] top) path ∙ node_at_way [] path top found.1

-- what reads to a tree is in order
pub in_order_top : (bytes : List ℕ) (tree : Content) (top : Data) → content bytes ≡ Ok tree → json_of bytes ≡ Some top → IsInOrder top
in_order_top bytes tree top h is = (tree_in (json_of bytes) tree top (in_order_read bytes) h is).1

-- ---- the size

pub size_by_paths : (bytes : List ℕ) (ms : Members) → json_of bytes ≡ Some (object ms) → fault_in (object ms) ≡ None
    → content bytes ≡ (if exceeds_limits (map_of (nodes_in [] (object ms))) then Err TooBig else Ok (map_of (nodes_in [] (object ms))))
size_by_paths bytes ms is faultless =
    ap content_in is ∙ ap (λ o. unless_found o ms) faultless
    ∙ ap (λ b. if b then Err TooBig else Ok (map_of (nodes_in [] (object ms)))) (too_big_is ms (in_order_read bytes (object ms) is))

-- ---- kids that `:order` doesn't name

names_after : (name : List ℕ) (ms : Members) → T (below_all by_name name (entries_of ms)) → AllByRecursion (λ k. by_name name k ≡ Less) (kid_names ms)
names_after name no_members h = tt
names_after name (member k d ms) h =
    let rest = names_after name ms (T_second (is_lt (by_name name k)) (below_all by_name name (entries_of ms)) h) in
    let here = less_from_T (by_name name k) (T_first (is_lt (by_name name k)) (below_all by_name name (entries_of ms)) h) in
    elim (is_kid_member k d) as (λ t. AllByRecursion (λ n. by_name name n ≡ Less) (if t then k ∷ kid_names ms else kid_names ms)) [
      | true ↦ (here, rest)
      | false ↦ rest
    ]

names_sorted : (ms : Members) → AreSorted ms → IsStrictlySortedBy by_name (kid_names ms)
unfolding IsStrictlySortedBy
names_sorted no_members h = tt
names_sorted (member k d ms) h =
    let rest = names_sorted ms (T_second (below_all by_name k (entries_of ms)) (is_sorted by_name (entries_of ms)) h) in
    elim (is_kid_member k d) as (λ t. IsStrictlySortedBy by_name (if t then k ∷ kid_names ms else kid_names ms)) [
      | true ↦ (names_after k ms (T_first (below_all by_name k (entries_of ms)) (is_sorted by_name (entries_of ms)) h), rest)
      | false ↦ rest
    ]

pub others_in_order : (bytes : List ℕ) (top : Data) (way : List (List ℕ)) (ms : Members) → json_of bytes ≡ Some top → way_end way top ≡ Some (object ms)
    → (others : List (List ℕ)) × (kids_of ms ≡ order_names ms ++ others) × IsStrictlySortedBy by_name others
others_in_order bytes top way ms is at =
    let unnamed = λ (name : List ℕ). not (list_any (bytes_eq name) (order_names ms)) in
    (filter unnamed (kid_names ms), refl, IsStrictlySortedBy-filter by_name unnamed (kid_names ms) (names_sorted ms (in_order_at way top (object ms) (in_order_read bytes top is) at).0))
