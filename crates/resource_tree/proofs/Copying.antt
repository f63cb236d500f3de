-- A tree stays a tree where a good part is put in it under a new path.
use Rattle.std.proofs.Common.{◌≡◌, ◌≢◌, ℕ, Bool, true, false, ◌||◌, List, [], ◌∷◌, ◌++◌, refl, sym, ◌∙◌, ap, subst, ⊎_elim, Some, None, Option}
use Rattle.std.specs.Prelude.{is_some, IsSome, IsTrue, nat_eq}
use Rattle.std.specs.Cmp.Lexicographic.{pointwise, nat_list_eq_equiv, same_text}
use Rattle.std.proofs.lemmas.Bool.{cases_Bool, or_cases, or_right}
use Rattle.std.proofs.lemmas.List.{append_assoc}
use Rattle.std.proofs.Math.Seq.{drop-append_seam}
use Rattle.std.proofs.lemmas.Map.Keys.{IsDistinct-push}
use Rattle.sp_base.specs.Paths.{is_path, is_under}
use Rattle.sp_base.proofs.BoolLemmas.{or_false}
use Rattle.resource_tree.specs.declared.nodes.Node.{Node}
use Rattle.resource_tree.specs.Content.{kid, has_kid, prop_at, IsNodeOf, IsTree}
use Rattle.resource_tree.specs.Changes.{with_kid}
use Rattle.resource_tree.specs.Moves.{path_there}
use Rattle.resource_tree.proofs.PathLemmas.{cases_path, kid_parent}
use Rattle.resource_tree.proofs.Creation.{has_kid-with_kid, node_unique}
use Rattle.resource_tree.proofs.PartLemmas.{under_split}
use Rattle.resource_tree.proofs.Under.{under_self, under_kid, under_first, under_sibling}

pub there-append : (source target rest : List (List ℕ)) → path_there source target (source ++ rest) ≡ target ++ rest
there-append source target rest = ap (λ r. target ++ r) (drop-append_seam source rest)

-- a kid's path at the target
pub there-kid : (source target q : List (List ℕ)) (k : List ℕ) → is_under q source ≡ true → path_there source target (kid q k) ≡ kid (path_there source target q) k
there-kid source target q k under =
    let split = under_split source q under in
    let first = ap (λ (p : List (List ℕ)). path_there source target (kid p k)) (sym split.whole) in
    let second = ap (path_there source target) (append_assoc source split.rest (k ∷ [])) in
    let third = there-append source target (split.rest ++ k ∷ []) in
    let fourth = sym (append_assoc target split.rest (k ∷ [])) in
    let fifth = ap (λ (p : List (List ℕ)). kid p k) (sym (there-append source target split.rest) ∙ ap (path_there source target) split.whole) in
    first ∙ second ∙ third ∙ fourth ∙ fifth

-- and there again
pub there-back : (source target q : List (List ℕ)) → is_under q target ≡ true → path_there source target (path_there target source q) ≡ q
there-back source target q under =
    let split = under_split target q under in
    ap (λ (p : List (List ℕ)). path_there source target (path_there target source p)) (sym split.whole)
    ∙ ap (path_there source target) (there-append target source split.rest)
    ∙ there-append source target split.rest
    ∙ split.whole

pub there-self : (source target : List (List ℕ)) → path_there target source target ≡ source
there-self source target =
    let nil : (p : List (List ℕ)) → p ++ [] ≡ p = append_nil in
    ap (path_there target source) (sym (nil target)) ∙ there-append target source [] ∙ nil source
  where
    append_nil : (p : List (List ℕ)) → p ++ [] ≡ p
    append_nil [] = refl
    append_nil (s ∷ p) = ap (λ r. s ∷ r) (append_nil p)

-- the map with a part of another under a kid of a node that names it last
pub record PutsPart (from at now : List (List ℕ) → Option Node) (source above : List (List ℕ)) (name : List ℕ) (node : Node) : Type 0 where
  pub part : IsSome (from source)
  pub fits : (q : List (List ℕ)) → is_under q (kid above name) ≡ true → IsSome (from (path_there (kid above name) source q)) → IsTrue (is_path q)
  pub was : at above ≡ Some node
  pub free : at (kid above name) ≡ None
  pub untaken : prop_at node name ≡ None
  pub there : now above ≡ Some (with_kid name node)
  pub below : (q : List (List ℕ)) → is_under q (kid above name) ≡ true → now q ≡ from (path_there (kid above name) source q)
  pub others : (q : List (List ℕ)) → is_under q (kid above name) ≡ false → q ≢ above → now q ≡ at q

module _ (from at now : List (List ℕ) → Option Node) (source above : List (List ℕ)) (name : List ℕ) (node : Node) (first : IsTree from) (old : IsTree at) (puts : PutsPart from at now source above name node) where
  abbrev target : List (List ℕ)
  target = kid above name

  abbrev under : List (List ℕ) → Bool
  under q = is_under q target

  kept : (q : List (List ℕ)) → under q ≡ false → is_some (now q) ≡ is_some (at q)
  kept q apart =
      ⊎_elim (λ e. ap is_some (ap now e ∙ puts.there) ∙ sym (ap is_some (ap at e ∙ puts.was))) (λ other. ap is_some (puts.others q apart other)) (cases_path q above)

  root_apart : (p : List (List ℕ)) → is_under [] (kid p name) ≡ false
  root_apart [] = refl
  root_apart (s ∷ p) = refl

  there_above : IsSome (now above)
  there_above = ap is_some puts.there

  kid_below : (q : List (List ℕ)) (k : List ℕ) → under q ≡ true → now (kid q k) ≡ from (kid (path_there target source q) k)
  kid_below q k is = puts.below (kid q k) (under_kid target q k is) ∙ ap from (there-kid target source q k is)

  parents_now : (q : List (List ℕ)) (k : List ℕ) → IsSome (now (kid q k)) → IsSome (now q)
  parents_now q k there =
      ⊎_elim
      (λ is. ap is_some (puts.below q is) ∙ first.parents (path_there target source q) k (sym (ap is_some (kid_below q k is)) ∙ there))
      (λ apart. ⊎_elim
      (λ is. ap (λ p. is_some (now p)) (kid_parent q above k name (under_first target q k is apart)) ∙ there_above)
      (λ beside. kept q apart ∙ old.parents q k (sym (kept (kid q k) beside) ∙ there))
      (cases_Bool (under (kid q k))))
      (cases_Bool (under q))

  part_node : (q : List (List ℕ)) (n : Node) → under q ≡ true → now q ≡ Some n → IsNodeOf now q n
  part_node q n is here =
      let there = sym (puts.below q is) ∙ here in
      let before = first.nodes (path_there target source q) n there in
      record {
        is_a_path = puts.fits q is (ap is_some there);
        kids = λ k. before.kids k ∙ sym (ap is_some (kid_below q k is));
        distinct = before.distinct;
        apart = before.apart;
        names = before.names;
      }

  kids_other : (q : List (List ℕ)) (k : List ℕ) → under q ≡ false → q ≢ above → is_some (at (kid q k)) ≡ is_some (now (kid q k))
  kids_other q k apart other =
      ⊎_elim (λ is. absurd (other (kid_parent q above k name (under_first target q k is apart)))) (λ e. sym (kept (kid q k) e)) (cases_Bool (under (kid q k)))

  other_node : (q : List (List ℕ)) (n : Node) → under q ≡ false → q ≢ above → at q ≡ Some n → IsNodeOf now q n
  other_node q n apart other is =
      let before = old.nodes q n is in
      record {
        is_a_path = before.is_a_path;
        kids = λ k. before.kids k ∙ kids_other q k apart other;
        distinct = before.distinct;
        apart = before.apart;
        names = before.names;
      }

  there_target : IsSome (now target)
  there_target = ap is_some (puts.below target (under_self target) ∙ ap from (there-self source target)) ∙ puts.part

  kids_above : (k : List ℕ) → has_kid (with_kid name node) k ≡ is_some (now (kid above k))
  kids_above k =
      ⊎_elim
      (λ e. has_kid-with_kid node name k ∙ or_right _ _ e ∙ sym (ap (λ s. is_some (now (kid above s))) (same_text k name (sym e)) ∙ there_target))
      (λ ne.
      let apart : under (kid above k) ≡ false = under_sibling above name k ∙ nat_list_eq_equiv.symm name k ∙ ne in
      has_kid-with_kid node name k ∙ ap (λ b. has_kid node k || b) ne ∙ or_false (has_kid node k) ∙ (old.nodes above node puts.was).kids k ∙ sym (kept (kid above k) apart))
      (cases_Bool (pointwise nat_eq k name))

  above_node : IsNodeOf now above (with_kid name node)
  above_node =
      let before = old.nodes above node puts.was in
      record {
        is_a_path = before.is_a_path;
        kids = kids_above;
        distinct = IsDistinct-push nat_list_eq_equiv node.kids name before.distinct (before.kids name ∙ ap is_some puts.free);
        apart = λ k there. ⊎_elim (λ k_old. before.apart k k_old) (λ k_new. ap (prop_at node) (same_text k name (sym k_new)) ∙ puts.untaken) (or_cases _ _ (sym (has_kid-with_kid node name k) ∙ there));
        names = before.names;
      }

  nodes_now : (q : List (List ℕ)) (n : Node) → now q ≡ Some n → IsNodeOf now q n
  nodes_now q n is =
      ⊎_elim
      (λ in_part. part_node q n in_part is)
      (λ apart. ⊎_elim
      (λ e.
      let same : with_kid name node ≡ n = node_unique (with_kid name node) n _ _ puts.there is (ap now (sym e)) in
      subst (λ (x : Node). IsNodeOf now q x) same (subst (λ (r : List (List ℕ)). IsNodeOf now r (with_kid name node)) (sym e) above_node))
      (λ other. other_node q n apart other (sym (puts.others q apart other) ∙ is))
      (cases_path q above))
      (cases_Bool (under q))

  pub IsTree-put_part : IsTree now
  IsTree-put_part = record { root = kept [] (root_apart above) ∙ old.root; parents = parents_now; nodes = nodes_now }
