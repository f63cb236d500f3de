-- Content is too big exactly where its tree exceeds the limits.
use Rattle.std.proofs.Common.{◌≡◌, ℕ, zero, suc, ◌+◌, ◌-◌, Bool, true, false, cond, ◌||◌, T, List, [], ◌∷◌, ◌++◌, length, length-append, nat_lt, Option, None, is_some, if◌then◌else◌, refl, sym, ap, ◌∙◌, arith, append_assoc}
use Rattle.std.specs.Prelude.{⊤, option_and_then}
use Rattle.std.specs.FinMap.Entries.{by_order, put, is_sorted, below_all, length-put}
use Rattle.std.specs.List.{list_any, AllByRecursion}
use Rattle.std.specs.Option.{option_or}
use Rattle.std.specs.declared.cmp.Ordering.TheVariants.{Less, Equal, Greater}
use Rattle.std.proofs.lemmas.Bool.{lt-ltb, le-ltb, ne_eqb}
use Rattle.std.proofs.lemmas.List.Folds.{list_any-append}
use Rattle.serde_json.specs.Data.{Data, null, boolean, number, string, array, object, Members, no_members, member}
use Rattle.sp_base.specs.Names.{by_name}
use Rattle.sp_base.proofs.BoolLemmas.{T_first, T_second, or_swapped}
use Rattle.sp_base.proofs.OrderingLemmas.{by_path_exact, by_path_total}
use Rattle.resource_tree.specs.declared.nodes.Node.{Node}
use Rattle.resource_tree.specs.Content.{Content, by_path, node_at, kid}
use Rattle.content_json.specs.Names.{is_order}
use Rattle.content_json.specs.Nodes.{nodes_in, nodes_below, is_deeper, is_deeper_below, count_below}
use Rattle.content_json.specs.Steps.{is_at_or_below}
use Rattle.content_json.specs.Ways.{way_end, node_of_value}
use Rattle.content_json.specs.ContentOf.{map_of, is_too_big, exceeds_limits}
use Rattle.content_json.proofs.Under.{is_at_or_below_itself, is_at_or_below-parent}
use Rattle.content_json.proofs.NodeLemmas.{node_at-append, none_at_parent}
use Rattle.content_json.proofs.BelowLemmas.{is_at_or_below_split}
use Rattle.content_json.proofs.MapLemmas.{find_in_map, map_sorted}
use Rattle.content_json.proofs.SizeLemmas.{length-nodes_in}
use Rattle.content_json.specs.Members.{AreSorted, entries_of}
use Rattle.content_json.proofs.ReturnNodes.{get_below}
use Rattle.content_json.proofs.InOrder.{IsInOrder, AreInOrder}
use Rattle.content_json.proofs.WayLemmas.{node_below_way}

-- ---- a path of the map is one of the nodes'

or_twice : (a b : Bool) → (a || b) ≡ (a || (a || b))
or_twice true b = refl
or_twice false b = refl

any_put : (p : List (List ℕ) → Bool) (path : List (List ℕ)) (node : Node) (nodes : Content) → list_any (λ e. p e.0) (put by_path path node nodes) ≡ (p path || list_any (λ e. p e.0) nodes)
any_put p path node [] = refl
any_put p path node (e ∷ nodes) =
    let rest = list_any (λ e. p e.0) nodes in
    elim (by_path path e.0) as (λ o. by_path path e.0 ≡ o → list_any (λ e. p e.0) (by_order o ((path, node) ∷ e ∷ nodes) ((e.0, node) ∷ nodes) (e ∷ put by_path path node nodes)) ≡ (p path || (p e.0 || rest))) [
      | Less ↦ λ _. refl
      | Equal ↦ λ tie. or_twice (p e.0) rest ∙ ap (λ q. p q || (p e.0 || rest)) (sym (by_path_exact path e.0 tie))
      | Greater ↦ λ _. ap (λ b. p e.0 || b) (any_put p path node nodes) ∙ or_swapped (p e.0) (p path) rest
    ] refl

any_path : (p : List (List ℕ) → Bool) (nodes : Content) → list_any (λ e. p e.0) (map_of nodes) ≡ list_any (λ e. p e.0) nodes
any_path p [] = refl
any_path p (e ∷ nodes) = any_put p e.0 e.1 (map_of nodes) ∙ ap (λ b. p e.0 || b) (any_path p nodes)

-- ---- as many paths as nodes

-- no path stands twice
abbrev AreApart : Content → Type 0
AreApart [] = ⊤
AreApart (e ∷ nodes) = (node_at nodes e.0 ≡ None) × AreApart nodes

map_length : (nodes : Content) → AreApart nodes → length (map_of nodes) ≡ length nodes
map_length [] h = refl
map_length (e ∷ nodes) h =
    length-put by_path by_path_total e.0 e.1 (map_of nodes) (map_sorted nodes)
    ∙ ap (λ o. cond (is_some o) (length (map_of nodes)) (length (map_of nodes) + 1)) (find_in_map e.0 nodes ∙ h.0)
    ∙ (let rest = map_length nodes h.1 in omega (arith, rest))

abbrev AreAt : List (List ℕ) → Content → Type 0
AreAt path nodes = AllByRecursion (λ e. is_at_or_below path e.0 ≡ true) nodes

all_at-append : (path : List (List ℕ)) (a b : Content) → AreAt path a → AreAt path b → AreAt path (a ++ b)
all_at-append path [] b g h = h
all_at-append path (e ∷ a) b g h = (g.0, all_at-append path a b g.1 h)

all_at-parent : (path : List (List ℕ)) (name : List ℕ) (nodes : Content) → AreAt (kid path name) nodes → AreAt path nodes
all_at-parent path name [] h = tt
all_at-parent path name (e ∷ nodes) h = (is_at_or_below-parent path e.0 name h.0, all_at-parent path name nodes h.1)

none_or : (P : Content → Type 0) (b : Bool) (nodes : Content) → P [] → P nodes → P (if b then [] else nodes)
none_or P true nodes g h = g
none_or P false nodes g h = h

mutual
  all_at_in : (path : List (List ℕ)) (d : Data) → AreAt path (nodes_in path d)
  all_at_in path null = tt
  all_at_in path (boolean b) = tt
  all_at_in path (number n) = tt
  all_at_in path (string s) = tt
  all_at_in path (array ds) = tt
  all_at_in path (object ms) = (is_at_or_below_itself path, all_at_below path ms)

  all_at_below : (path : List (List ℕ)) (ms : Members) → AreAt path (nodes_below path ms)
  all_at_below path no_members = tt
  all_at_below path (member name d ms) =
      all_at-append path (if is_order name then [] else nodes_in (kid path name) d) (nodes_below path ms)
      (none_or (AreAt path) (is_order name) (nodes_in (kid path name) d) tt (all_at-parent path name (nodes_in (kid path name) d) (all_at_in (kid path name) d)))
      (all_at_below path ms)

neither_at : (a b : Option Node) → a ≡ None → b ≡ None → option_or a b ≡ None
neither_at a b g h = rw (g, h) refl

apart-append : (a b : Content) → AreApart a → AreApart b → AllByRecursion (λ e. node_at b e.0 ≡ None) a → AreApart (a ++ b)
apart-append [] b g h apart = h
apart-append (e ∷ a) b g h apart = (node_at-append a b e.0 ∙ neither_at (node_at a e.0) (node_at b e.0) g.0 apart.0, apart-append a b g.1 h apart.1)

-- no node of later members is at or below an earlier one
none_of_later : (path : List (List ℕ)) (name : List ℕ) (ms : Members) (q : List (List ℕ)) → AreSorted ms → AreInOrder ms → T (below_all by_name name (entries_of ms)) → is_at_or_below (kid path name) q ≡ true → node_at (nodes_below path ms) q ≡ None
none_of_later path name ms q s h below under =
    let split = is_at_or_below_split (kid path name) q under in
    let place : q ≡ path ++ name ∷ split.0 = split.1 ∙ append_assoc path (name ∷ []) split.0 in
    ap (node_at (nodes_below path ms)) place ∙ node_below_way path name split.0 ms s h
    ∙ ap (λ o. option_and_then node_of_value (if is_order name then None else option_and_then (way_end split.0) o)) (get_below name ms below) ∙ nothing (is_order name)
  where
    nothing : (b : Bool) → option_and_then node_of_value (if b then None else None) ≡ None
    nothing true = refl
    nothing false = refl

none_of_all : (path : List (List ℕ)) (name : List ℕ) (ms : Members) (nodes : Content) → AreSorted ms → AreInOrder ms → T (below_all by_name name (entries_of ms)) → AreAt (kid path name) nodes → AllByRecursion (λ e. node_at (nodes_below path ms) e.0 ≡ None) nodes
none_of_all path name ms [] s h below at = tt
none_of_all path name ms (e ∷ nodes) s h below at = (none_of_later path name ms e.0 s h below at.0, none_of_all path name ms nodes s h below at.1)

mutual
  apart_in : (path : List (List ℕ)) (d : Data) → IsInOrder d → AreApart (nodes_in path d)
  apart_in path null h = tt
  apart_in path (boolean b) h = tt
  apart_in path (number n) h = tt
  apart_in path (string s) h = tt
  apart_in path (array ds) h = tt
  apart_in path (object ms) h = (none_at_parent path ms, apart_below path ms h.0 h.1)

  apart_below : (path : List (List ℕ)) (ms : Members) → AreSorted ms → AreInOrder ms → AreApart (nodes_below path ms)
  apart_below path no_members s h = tt
  apart_below path (member name d ms) s h =
      let below = T_first (below_all by_name name (entries_of ms)) (is_sorted by_name (entries_of ms)) s in
      let rest = T_second (below_all by_name name (entries_of ms)) (is_sorted by_name (entries_of ms)) s in
      apart-append (if is_order name then [] else nodes_in (kid path name) d) (nodes_below path ms)
      (none_or AreApart (is_order name) (nodes_in (kid path name) d) tt (apart_in (kid path name) d h.0)) (apart_below path ms rest h.1)
      (none_or (AllByRecursion (λ e. node_at (nodes_below path ms) e.0 ≡ None)) (is_order name) (nodes_in (kid path name) d) tt (none_of_all path name ms (nodes_in (kid path name) d) rest h.1 below (all_at_in (kid path name) d)))

-- ---- a node is too deep where its path is too long

too_long_unless : (limit : ℕ) (b : Bool) (nodes : Content) (deep : Bool) → list_any (λ e. nat_lt limit (length e.0)) nodes ≡ deep → list_any (λ e. nat_lt limit (length e.0)) (if b then [] else nodes) ≡ (if b then false else deep)
too_long_unless limit true nodes deep h = refl
too_long_unless limit false nodes deep h = h

mutual
  deep_in : (limit levels : ℕ) (path : List (List ℕ)) (d : Data) → length path + levels ≡ suc limit → list_any (λ e. nat_lt limit (length e.0)) (nodes_in path d) ≡ is_deeper levels d
  deep_in limit levels path null h = refl
  deep_in limit levels path (boolean b) h = refl
  deep_in limit levels path (number n) h = refl
  deep_in limit levels path (string s) h = refl
  deep_in limit levels path (array ds) h = refl
  deep_in limit zero path (object ms) h = rw (lt-ltb limit (length path) (omega (arith, h))) refl
  deep_in limit (suc levels) path (object ms) h =
      let one : levels ≡ suc levels - 1 = omega arith in
      ap (λ b. b || list_any (λ e. nat_lt limit (length e.0)) (nodes_below path ms)) (le-ltb limit (length path) (omega (arith, h)))
      ∙ deep_below limit levels path ms (omega (arith, h)) ∙ ap (λ n. is_deeper_below n ms) one
      ∙ sym (ap (λ b. b || is_deeper_below (suc levels - 1) ms) (ne_eqb (suc levels) 0 (λ e. omega (arith, e))))

  deep_below : (limit levels : ℕ) (path : List (List ℕ)) (ms : Members) → length path + levels ≡ limit → list_any (λ e. nat_lt limit (length e.0)) (nodes_below path ms) ≡ is_deeper_below levels ms
  deep_below limit levels path no_members h = refl
  deep_below limit levels path (member name d ms) h =
      list_any-append (λ e. nat_lt limit (length e.0)) (if is_order name then [] else nodes_in (kid path name) d) (nodes_below path ms)
      ∙ ap (λ b. b || list_any (λ e. nat_lt limit (length e.0)) (nodes_below path ms)) (too_long_unless limit (is_order name) (nodes_in (kid path name) d) (is_deeper levels d) (deep_in limit levels (kid path name) d (omega (arith, h, length-append path (name ∷ [])))))
      ∙ ap (λ b. (if is_order name then false else is_deeper levels d) || b) (deep_below limit levels path ms h)

-- as many paths as are counted
pub map_size : (ms : Members) → IsInOrder (object ms) → length (map_of (nodes_in [] (object ms))) ≡ suc (count_below ms)
map_size ms h = map_length (nodes_in [] (object ms)) (apart_in [] (object ms) h) ∙ length-nodes_in [] (object ms)

pub too_big_is : (ms : Members) → IsInOrder (object ms) → is_too_big ms ≡ exceeds_limits (map_of (nodes_in [] (object ms)))
too_big_is ms h =
    let nodes = nodes_in [] (object ms) in
    let deep : is_deeper_below 64 ms ≡ list_any (λ e. nat_lt 64 (length e.0)) (map_of nodes) = sym (any_path (λ path. nat_lt 64 (length path)) nodes ∙ deep_in 64 65 [] (object ms) refl) in
    ap (λ n. nat_lt 200000 n || is_deeper_below 64 ms) (sym (map_size ms h)) ∙ ap (λ b. nat_lt 200000 (length (map_of nodes)) || b) deep
