-- Where a kid stands once it is moved.
use Rattle.std.proofs.Common.{◌≡◌, ◌++◌, ◌||◌, inl, inr, ℕ, Bool, true, false, not, cond, List, [], ◌∷◌, Option, None, Some, refl, sym, ◌∙◌, ap, subst}
use Rattle.std.specs.Prelude.{nat_eq}
use Rattle.std.specs.List.{AllByRecursion, IsDistinct, list_any}
use Rattle.std.specs.Cmp.Lexicographic.{nat_list_eq_equiv, pointwise, same_text}
use Rattle.std.proofs.lemmas.Bool.{or_from}
use Rattle.std.proofs.lemmas.List.Elements.{filter-append}
use Rattle.std.proofs.lemmas.Map.Keys.{IsDistinct-IsPermutation}
use Rattle.sp_base.proofs.TextLemmas.{text_itself}
use Rattle.overlay_merge.specs.Hiding.{merged_from}
use Rattle.overlay_merge.specs.Kids.{has_text, names_after_move}
use Rattle.overlay_merge.specs.Moves.{AreDistinct, IsNotMoved, UnmovedKidsAreDistinct, StandsBefore, without_name}
use Rattle.overlay_merge.proofs.KidLemmas.{are_nodes_merged}
use Rattle.overlay_merge.proofs.LawLemmas.{moved-reorders}
use Rattle.overlay_merge.proofs.MoveLemmas.{but, but_none, moved_at, moved_none, moved_nowhere, moved_same}
use Rattle.overlay_merge.proofs.OrderLemmas.{distinct_there}

-- where a name stands first
pub record FirstOf (name : List ℕ) (names : List (List ℕ)) : Type 0 where
  pub above : List (List ℕ)
  pub below : List (List ℕ)
  pub is : names ≡ above ++ name ∷ below
  pub lacks : list_any (pointwise nat_eq name) above ≡ false

first_of : (name : List ℕ) (names : List (List ℕ)) → list_any (pointwise nat_eq name) names ≡ true → FirstOf name names
first_of name [] e = absurd cc
first_of name (q ∷ names) e = go (pointwise nat_eq name q) refl e (λ f. first_of name names f)
  where
    go : (x : Bool) → pointwise nat_eq name q ≡ x → (x || list_any (pointwise nat_eq name) names) ≡ true → (list_any (pointwise nat_eq name) names ≡ true → FirstOf name names) → FirstOf name (q ∷ names)
    go true is f ih = record { above = []; below = names; is = ap (λ (n : List ℕ). n ∷ names) (sym (same_text name q (sym is))); lacks = refl }
    go false is f ih =
        let h = ih f in
        record { above = q ∷ h.above; below = h.below; is = ap (λ (rest : List (List ℕ)). q ∷ rest) h.is; lacks = or_from (pointwise nat_eq name q) (list_any (pointwise nat_eq name) h.above) is h.lacks }

all_lack : (name : List ℕ) (names : List (List ℕ)) → AllByRecursion (λ (y : List ℕ). pointwise nat_eq name y ≡ false) names → list_any (pointwise nat_eq name) names ≡ false
all_lack name [] all = refl
all_lack name (q ∷ names) all = or_from (pointwise nat_eq name q) (list_any (pointwise nat_eq name) names) all.0 (all_lack name names all.1)

-- a name that is there once isn't there below where it stands
once : (name : List ℕ) (above below : List (List ℕ)) → IsDistinct (pointwise nat_eq) (above ++ name ∷ below) → list_any (pointwise nat_eq name) below ≡ false
unfolding IsDistinct
once name [] below d = all_lack name below d.0
once name (q ∷ above) below d = once name above below d.1

but_again : (name : List ℕ) (names : List (List ℕ)) → list_any (pointwise nat_eq name) (but name names) ≡ false
but_again name [] = refl
but_again name (q ∷ names) = go (pointwise nat_eq name q) refl (but_again name names)
  where
    go : (x : Bool) → pointwise nat_eq name q ≡ x → list_any (pointwise nat_eq name) (but name names) ≡ false → list_any (pointwise nat_eq name) (cond (not x) (q ∷ but name names) (but name names)) ≡ false
    go true is ih = ih
    go false is ih = or_from (pointwise nat_eq name q) (list_any (pointwise nat_eq name) (but name names)) is ih

pub kid_stands : (name other : List ℕ) (names : List (List ℕ)) → AreDistinct names → pointwise nat_eq name other ≡ false → has_text names name ≡ true → has_text names other ≡ true
    → StandsBefore (names_after_move name (Some other) names) name other
kid_stands name other names distinct differ has_name has_other =
    let n = first_of name names has_name in
    let o = first_of other names has_other in
    let below = once name n.above n.below (subst (λ (ns : List (List ℕ)). IsDistinct (pointwise nat_eq) ns) n.is distinct) in
    record { above = but name o.above; below = but name o.below; is = moved_at name other names n.above n.below o.above o.below differ n.is n.lacks below o.is o.lacks; lacks_above = but_again name o.above; lacks_below = but_again name o.below }

but_twice : (name : List ℕ) (names : List (List ℕ)) → but name (but name names) ≡ but name names
but_twice name names = but_none name (but name names) (but_again name names)

pub others_stay : (name other : List ℕ) (names : List (List ℕ)) → AreDistinct names → pointwise nat_eq name other ≡ false → has_text names name ≡ true → has_text names other ≡ true
    → without_name name (names_after_move name (Some other) names) ≡ without_name name names
others_stay name other names distinct differ has_name has_other =
    let n = first_of name names has_name in
    let o = first_of other names has_other in
    let below = once name n.above n.below (subst (λ (ns : List (List ℕ)). IsDistinct (pointwise nat_eq) ns) n.is distinct) in
    let moved = moved_at name other names n.above n.below o.above o.below differ n.is n.lacks below o.is o.lacks in
    ap (but name) moved
    ∙ filter-append (λ (q : List ℕ). not (pointwise nat_eq name q)) (but name o.above) (name ∷ other ∷ but name o.below)
    ∙ ap (λ (b : Bool). but name (but name o.above) ++ cond (not b) (name ∷ but name (other ∷ but name o.below)) (but name (other ∷ but name o.below))) (text_itself name)
    ∙ ap (λ (b : Bool). but name (but name o.above) ++ cond (not b) (other ∷ but name (but name o.below)) (but name (but name o.below))) differ
    ∙ ap (λ (ns : List (List ℕ)). ns ++ other ∷ but name (but name o.below)) (but_twice name o.above)
    ∙ ap (λ (ns : List (List ℕ)). but name o.above ++ other ∷ ns) (but_twice name o.below)
    ∙ sym (ap (but name) o.is ∙ filter-append (λ (q : List ℕ). not (pointwise nat_eq name q)) o.above (other ∷ o.below) ∙ ap (λ (b : Bool). but name o.above ++ cond (not b) (other ∷ but name o.below) (but name o.below)) differ)

-- ---- what isn't moved, and names that are moved one after the other

pub not_moved : (name : List ℕ) (wish : Option (List ℕ)) (names : List (List ℕ)) → IsNotMoved names name wish → names_after_move name wish names ≡ names
unfolding names_after_move
not_moved name None names is = refl
not_moved name (Some other) names (inl same) = moved_same name other names same
not_moved name (Some other) names (inr (inl none)) = moved_none name other names none
not_moved name (Some other) names (inr (inr none)) = moved_nowhere name other names none

pub kids_differ : UnmovedKidsAreDistinct
kids_differ tree path good = distinct_there tree path (merged_from tree path) good.shape (are_nodes_merged tree path)

pub still_differ : (name : List ℕ) (wish : Option (List ℕ)) (names : List (List ℕ)) → AreDistinct names → AreDistinct (names_after_move name wish names)
still_differ name wish names distinct =
    IsDistinct-IsPermutation (pointwise nat_eq) nat_list_eq_equiv.symm names (names_after_move name wish names) (moved-reorders names name wish) distinct
