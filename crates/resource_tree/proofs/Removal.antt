-- A tree stays a tree where a node and all below it are removal.
use Rattle.std.proofs.Common.{◌≡◌, ◌≢◌, ◌≤◌, ℕ, Bool, not, true, false, cond, ◌&&◌, List, [], ◌∷◌, refl, sym, ◌∙◌, ap, subst, ⊎_elim, Some, None, Option, length, arith}
use Rattle.std.specs.Prelude.{is_some, IsSome, unwrap_or, nat_eq}
use Rattle.std.specs.Cmp.Lexicographic.{pointwise}
use Rattle.std.specs.List.Sorted.{IsStrictlySortedBy}
use Rattle.std.specs.Map.{keys_of}
use Rattle.std.proofs.lemmas.Bool.{cases_Bool, true≢false, false≢true, and_parts}
use Rattle.std.proofs.lemmas.List.Filters.{length-filter_both}
use Rattle.sp_base.specs.Paths.{is_under}
use Rattle.resource_tree.specs.declared.nodes.Node.{Node}
use Rattle.resource_tree.specs.Content.{by_path, kid, has_kid, IsNodeOf, IsTree, IsGood, node_at, Content, empty_node, parent_of, name_of}
use Rattle.resource_tree.specs.Changes.{change_at, without_kid, removal, removal_at}
use Rattle.resource_tree.proofs.PathLemmas.{kid_parts, cases_path, same_path_self, same_path_apart, kid_parent}
use Rattle.resource_tree.proofs.NodeLookups.{node_at-change_at, length-change_at}
use Rattle.resource_tree.proofs.Creation.{some_from, node_unique, IsGood-from}
use Rattle.resource_tree.proofs.KidOrder.{IsDistinct-filter, list_any-other_kids}
use Rattle.resource_tree.proofs.Reordering.{CanMove, parent_there}
use Rattle.resource_tree.proofs.Under.{under_kid, under_first, under_sibling, under_own_kid}
use Rattle.resource_tree.proofs.Without.{node_at-without_under}

turned : (b : Bool) (o : Option Node) → cond (not b) o None ≡ cond b None o
turned true o = refl
turned false o = refl

pub node_at-removal : (tree : Content) (path q : List (List ℕ)) → node_at (removal tree path) q ≡ removal_at tree path q
node_at-removal tree path q =
    node_at-without_under (change_at tree (parent_of path) (without_kid (name_of path))) path q
    ∙ turned (is_under q path) _
    ∙ ap (λ o. cond (is_under q path) None o) (node_at-change_at tree (parent_of path) (without_kid (name_of path)) q)

-- the map without the paths under a kid, and with the node above not naming it
pub record Loses (at now : List (List ℕ) → Option Node) (above : List (List ℕ)) (name : List ℕ) (node : Node) : Type 0 where
  pub was : at above ≡ Some node
  pub there : now above ≡ Some (without_kid name node)
  pub gone : (q : List (List ℕ)) → is_under q (kid above name) ≡ true → now q ≡ None
  pub others : (q : List (List ℕ)) → is_under q (kid above name) ≡ false → q ≢ above → now q ≡ at q

module _ (at now : List (List ℕ) → Option Node) (above : List (List ℕ)) (name : List ℕ) (node : Node) (old : IsTree at) (loses : Loses at now above name node) where
  abbrev under : List (List ℕ) → Bool
  under q = is_under q (kid above name)

  -- a path that isn't under the kid is there as before
  kept : (q : List (List ℕ)) → under q ≡ false → is_some (now q) ≡ is_some (at q)
  kept q apart =
      ⊎_elim (λ e. ap is_some (ap now e ∙ loses.there) ∙ sym (ap is_some (ap at e ∙ loses.was))) (λ other. ap is_some (loses.others q apart other)) (cases_path q above)

  lost : (q : List (List ℕ)) → under q ≡ true → is_some (now q) ≡ false
  lost q is = ap is_some (loses.gone q is)

  apart_from : (q : List (List ℕ)) → IsSome (now q) → under q ≡ false
  apart_from q there = ⊎_elim (λ is. absurd (false≢true (sym (lost q is) ∙ there))) (λ apart. apart) (cases_Bool (under q))

  parents_now : (q : List (List ℕ)) (k : List ℕ) → IsSome (now (kid q k)) → IsSome (now q)
  parents_now q k there =
      let apart = apart_from (kid q k) there in
      let above_apart : under q ≡ false = ⊎_elim (λ is. absurd (true≢false (sym (under_kid (kid above name) q k is) ∙ apart))) (λ e. e) (cases_Bool (under q)) in
      kept q above_apart ∙ old.parents q k (sym (kept (kid q k) apart) ∙ there)

  -- the kids of a path other than the one above
  kids_other : (q : List (List ℕ)) (k : List ℕ) → under q ≡ false → q ≢ above → is_some (at (kid q k)) ≡ is_some (now (kid q k))
  kids_other q k apart other =
      ⊎_elim (λ is. absurd (other (kid_parent q above k name (under_first (kid above name) q k is apart)))) (λ e. sym (kept (kid q k) e)) (cases_Bool (under (kid q k)))

  other_node : (q : List (List ℕ)) (n : Node) → under q ≡ false → q ≢ above → at q ≡ Some n → IsNodeOf now q n
  other_node q n apart other is =
      let before = old.nodes q n is in
      record {
        is_a_path = before.is_a_path;
        kids = λ k. before.kids k ∙ kids_other q k apart other;
        distinct = before.distinct;
        apart = before.apart;
        names = before.names;
      }

  kids_above : (k : List ℕ) → has_kid (without_kid name node) k ≡ is_some (now (kid above k))
  kids_above k =
      list_any-other_kids name k node.kids
      ∙ ⊎_elim
      (λ is. let e : pointwise nat_eq name k ≡ true = sym (under_sibling above name k) ∙ is in ap (λ b. not b && has_kid node k) e ∙ sym (lost (kid above k) is))
      (λ apart. let e : pointwise nat_eq name k ≡ false = sym (under_sibling above name k) ∙ apart in ap (λ b. not b && has_kid node k) e ∙ (old.nodes above node loses.was).kids k ∙ sym (kept (kid above k) apart))
      (cases_Bool (under (kid above k)))

  above_node : IsNodeOf now above (without_kid name node)
  above_node =
      let before = old.nodes above node loses.was in
      record {
        is_a_path = before.is_a_path;
        kids = kids_above;
        distinct = IsDistinct-filter _ node.kids before.distinct;
        apart = λ k k_there. before.apart k (and_parts (not (pointwise nat_eq name k)) (has_kid node k) (sym (list_any-other_kids name k node.kids) ∙ k_there)).1;
        names = before.names;
      }

  nodes_now : (q : List (List ℕ)) (n : Node) → now q ≡ Some n → IsNodeOf now q n
  nodes_now q n is =
      let apart = apart_from q (ap is_some is) in
      ⊎_elim
      (λ e.
      let same : without_kid name node ≡ n = node_unique (without_kid name node) n _ _ loses.there is (ap now (sym e)) in
      subst (λ (x : Node). IsNodeOf now q x) same (subst (λ (r : List (List ℕ)). IsNodeOf now r (without_kid name node)) (sym e) above_node))
      (λ other. other_node q n apart other (sym (loses.others q apart other) ∙ is))
      (cases_path q above)

  root_now : IsSome (now [])
  root_now = kept [] (root_apart above) ∙ old.root
    where
      root_apart : (p : List (List ℕ)) → is_under [] (kid p name) ≡ false
      root_apart [] = refl
      root_apart (s ∷ p) = refl

  pub IsTree-lost : IsTree now
  IsTree-lost = record { root = root_now; parents = parents_now; nodes = nodes_now }

module _ (tree : Content) (path : List (List ℕ)) (good : IsTree (node_at tree)) (can : CanMove tree path) where
  abbrev above : Node
  above = unwrap_or (node_at tree (parent_of path)) empty_node

  above_is : node_at tree (parent_of path) ≡ Some above
  above_is = some_from _ empty_node (parent_there tree path good can)

  parts : kid (parent_of path) (name_of path) ≡ path
  parts = kid_parts path can.not_root

  under_is : (q : List (List ℕ)) (b : Bool) → is_under q (kid (parent_of path) (name_of path)) ≡ b → is_under q path ≡ b
  under_is q b e = ap (λ p. is_under q p) (sym parts) ∙ e

  loses : Loses (node_at tree) (node_at (removal tree path)) (parent_of path) (name_of path) above
  loses = record {
    was = above_is;
    there = node_at-removal tree path (parent_of path)
        ∙ (let apart = under_is (parent_of path) false (under_own_kid (parent_of path) (name_of path)) in let self = same_path_self (parent_of path) in rw (apart, self, above_is));
    gone = λ q is. node_at-removal tree path q ∙ (let under_path = under_is q true is in rw under_path);
    others = λ q apart other. node_at-removal tree path q ∙ (let beside = under_is q false apart in let elsewhere = same_path_apart (parent_of path) q (λ e. other (sym e)) in rw (beside, elsewhere));
  }

  pub IsTree-removal : IsTree (node_at (removal tree path))
  IsTree-removal = IsTree-lost (node_at tree) (node_at (removal tree path)) (parent_of path) (name_of path) above good loses

  pub length-removal : length (removal tree path) ≤ length tree
  length-removal =
      let both = length-filter_both (λ (e : List (List ℕ) × Node). not (is_under e.0 path)) (λ e. not (not (is_under e.0 path))) (λ e. refl) (change_at tree (parent_of path) (without_kid (name_of path))) in
      let same = length-change_at tree (parent_of path) (without_kid (name_of path)) in
      omega (arith, both, same)

-- the content without the node is good
pub IsGood-removal : (new tree : Content) (path : List (List ℕ)) → IsGood tree → CanMove tree path → new ≡ removal tree path → IsStrictlySortedBy by_path (keys_of new) → IsGood new
IsGood-removal new tree path good can same ordered =
    let fewer = length-removal tree path good.shape can in
    let most = good.size in
    IsGood-from new (removal tree path) same ordered (omega (arith, fewer, most)) (IsTree-removal tree path good.shape can)
