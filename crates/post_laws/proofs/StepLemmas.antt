-- Steps one after another, lists of places, and what a content with other nodes over it leaves.
use Rattle.std.proofs.Common.{◌≡◌, ◌≢◌, ◌∙◌, ap, sym, refl, ℕ, List, [], ◌∷◌, ◌++◌, map, Option, Some, None, Bool, true, false, cond}
use Rattle.std.specs.Prelude.{IfOk, Ok, Err}
use Rattle.std.specs.List.{AllByRecursion}
use Rattle.std.proofs.lemmas.Bool.{true≢false, false_from_ne_true}
use Rattle.sp_base.specs.Paths.{is_path, is_under, path_or_none}
use Rattle.resource_tree.specs.declared.nodes.Node.{Node}
use Rattle.resource_tree.specs.declared.faults.TreeFault.{TreeFault}
use Rattle.resource_tree.specs.declared.patch.PatchNode.TheVariants as patch_node
use Rattle.resource_tree.specs.Content.{Content, kid, node_at, parent_of, same_path}
use Rattle.resource_tree.specs.Changes.{change_at}
use Rattle.resource_tree.specs.Moves.{path_there}
use Rattle.resource_tree.specs.Patches.{patching}
use Rattle.resource_tree.proofs.PathLemmas.{parent_of-kid}
use Rattle.resource_tree.proofs.NodeLookups.{node_at-change_at, node_at-insert_entry_other}
use Rattle.resource_tree.proofs.PartThere.{under_there}
use Rattle.resource_tree.proofs.Under.{under_first}
use Rattle.post_plan.specs.declared.spot.Spot.{Spot}
use Rattle.post_plan.specs.Spots.{full_path}
use Rattle.post_apply.specs.declared.fault.ApplyFault.{ApplyFault}
use Rattle.post_apply.specs.Carries.{unless}
use Rattle.post_apply.specs.Steps.{ApplyOutcome, changed_unless_fault, or_too_deep, path_of_spot}
use Rattle.post_apply.proofs.GoodLemmas.{okay}

-- ---- outcomes

pub any_is : {A : Type 0} (o : ApplyOutcome A) → IfOk o (λ (x : A). x ≡ x)
any_is (Ok x) = refl
any_is (Err e) = tt

pub when : {A : Type 0} (P : A → Type 0) (C : Type 0) (o : ApplyOutcome A) → (C → IfOk o P) → IfOk o (λ x. C → P x)
when P C (Ok x) so = so
when P C (Err e) so = tt

pub for_each : {A X : Type 0} (P : X → A → Type 0) (o : ApplyOutcome A) → ((x : X) → IfOk o (P x)) → IfOk o (λ a. (x : X) → P x a)
for_each P (Ok a) so = so
for_each P (Err e) so = tt

pub weaker : {A : Type 0} (P Q : A → Type 0) (o : ApplyOutcome A) → ((x : A) → P x → Q x) → IfOk o P → IfOk o Q
weaker P Q (Ok x) so p = so x p
weaker P Q (Err e) so p = tt

pub unless_holds : (P : Content → Type 0) (fault : Option TreeFault) (changed : Content) → (fault ≡ None → P changed) → IfOk (changed_unless_fault fault changed) P
unless_holds P None changed so = so refl
unless_holds P (Some fault) changed so = tt

pub unless_begun : (P : Content → Type 0) (fault : Option ApplyFault) (tree : Content) → P tree → IfOk (unless fault tree) P
unless_begun P None tree was = was
unless_begun P (Some fault) tree was = tt

-- ---- lists

pub all_split : {A : Type 0} (P : A → Type 0) (xs ys : List A) → AllByRecursion P (xs ++ ys) → AllByRecursion P xs × AllByRecursion P ys
all_split P [] ys all = (tt, all)
all_split P (x ∷ xs) ys all = let rest = all_split P xs ys all.1 in ((all.0, rest.0), rest.1)

pub all_of_map : {A B : Type 0} (P : B → Type 0) (f : A → B) (xs : List A) → AllByRecursion P (map f xs) → AllByRecursion (λ x. P (f x)) xs
all_of_map P f [] all = tt
all_of_map P f (x ∷ xs) all = (all.0, all_of_map P f xs all.1)

pub all_both : {A : Type 0} (P Q : A → Type 0) (xs : List A) → AllByRecursion P xs → AllByRecursion Q xs → AllByRecursion (λ x. P x × Q x) xs
all_both P Q [] one other = tt
all_both P Q (x ∷ xs) one other = ((one.0, other.0), all_both P Q xs one.1 other.1)

-- ---- places

pub deep_is : (path : List (List ℕ)) → IfOk (or_too_deep (path_or_none path)) (λ (p : List (List ℕ)). p ≡ path)
deep_is path = go (is_path path)
  where
    go : (b : Bool) → IfOk (or_too_deep (cond b (Some path) None)) (λ (p : List (List ℕ)). p ≡ path)
    go true = refl
    go false = tt

-- the path of a spot
pub full_spot : (node : List (List ℕ)) (spot : Spot) → IfOk (path_of_spot node spot) (λ (p : List (List ℕ)). p ≡ full_path node spot)
full_spot node spot = go spot.at_target
  where
    go : (b : Bool) → IfOk (cond b (or_too_deep (path_or_none (node ++ spot.path))) (okay spot.path)) (λ (p : List (List ℕ)). p ≡ cond b (node ++ spot.path) spot.path)
    go true = deep_is (node ++ spot.path)
    go false = refl

-- a kid of a path that is neither at or under a place nor its parent isn't at or under it either
pub kid_outside : (q place : List (List ℕ)) → is_under q place ≡ false → parent_of place ≢ q → (name : List ℕ) → is_under (kid q name) place ≡ false
kid_outside q place outside no_parent name = false_from_ne_true _ (λ is. no_parent (ap parent_of (sym (under_first place q name is outside)) ∙ parent_of-kid q name))

-- ---- other nodes of a content

pub other_change : (tree : Content) (path : List (List ℕ)) (change : Node → Node) (q : List (List ℕ)) → same_path path q ≡ false → node_at (change_at tree path change) q ≡ node_at tree q
other_change tree path change q other = node_at-change_at tree path change q ∙ (rw other)

-- what is at a goal and under it is nothing to other paths
pub beside_part : (from to r : List (List ℕ)) → is_under r to ≡ false → (es tree : Content)
    → node_at (patching tree (map (λ (e : List (List ℕ) × Node). (path_there from to e.0, patch_node.Node e.1)) es)) r ≡ node_at tree r
beside_part from to r outside [] tree = refl
beside_part from to r outside (e ∷ es) tree =
    beside_part from to r outside es _
    ∙ node_at-insert_entry_other tree (path_there from to e.0) e.1 r (λ is. true≢false (sym (under_there from to e.0) ∙ ap (λ (p : List (List ℕ)). is_under p to) (sym is) ∙ outside))
