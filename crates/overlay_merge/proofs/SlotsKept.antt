-- The names in slots, as the code keeps them.
use Rattle.std.proofs.Common.{◌≡◌, ◌<◌, ◌++◌, ℕ, suc, Bool, false, List, [], ◌∷◌, Some, None, zero, take, get_or, reverse, append_assoc, append-nil, length, refl, sym, ◌∙◌, ap, subst, arith}
use Rattle.std.specs.Prelude.{nat_eq}
use Rattle.std.specs.List.{AllByRecursion, IsDistinct, list_any}
use Rattle.std.proofs.lemmas.Bool.{or_from}
use Rattle.std.proofs.lemmas.List.{reverse-append}
use Rattle.std.proofs.lemmas.Map.Keys.{apart_from_distinct}
use Rattle.std.specs.Cmp.Lexicographic.{nat_list_eq_equiv, pointwise}
use Rattle.overlay_merge.specs.Kids.{names_after_move}
use Rattle.overlay_merge.specs.declared.slots.Slots.{Slots}
use Rattle.overlay_merge.specs.Slots.{AreSlots, SlotsAreGood, IsPutIn, before_in, held_in, slot_name, names_in, names_of, slot_in, walk}
use Rattle.overlay_merge.proofs.MoveLemmas.{moved_none, moved_nowhere}
use Rattle.overlay_merge.proofs.SlotLemmas.{all_at, names_lack_unknown, put_before, put_last, reverse_one}

-- what a change leaves
pub record Kept (slots : Slots) (names : List (List ℕ)) : Type 0 where
  pub good : SlotsAreGood slots
  pub names_are : names_of slots ≡ names

kept : (new : Slots) (n : ℕ) (names : List (List ℕ)) → length new.before.items ≡ suc (length new.held.items) → length new.held.items ≡ suc n → AreSlots (before_in new) (held_in new) (slot_in new) (suc n)
    → names_in (held_in new) (slot_in new) (walk (before_in new) (suc n) 0) ≡ names → Kept new names
unfolding names_of
kept new n names size more good is = record {
  good = record { size = size; are = subst (AreSlots (before_in new) (held_in new) (slot_in new)) (sym more) good };
  names_are = ap (λ m. names_in (held_in new) (slot_in new) (walk (before_in new) m 0)) more ∙ is;
}

pub added : (old new : Slots) (name : List ℕ) → SlotsAreGood old → IsPutIn old new 0 name → length new.before.items ≡ suc (length new.held.items) → length new.held.items ≡ suc (length old.held.items)
    → list_any (pointwise nat_eq name) (names_of old) ≡ false → Kept new (names_of old ++ name ∷ [])
unfolding names_of
added old new name good put size more fresh =
    let p = put_last (before_in old) (held_in old) (slot_in old) (before_in new) (held_in new) (slot_in new) (length old.held.items) name good.are put fresh in
    kept new (length old.held.items) (names_of old ++ name ∷ []) size more p.good p.names_are

pub moved_before : (old new : Slots) (name other : List ℕ) (t u : ℕ) → SlotsAreGood old → IsPutIn old new t name → length new.before.items ≡ suc (length new.held.items) → length new.held.items ≡ suc (length old.held.items)
    → pointwise nat_eq name other ≡ false → slot_in old other ≡ Some t → slot_in old name ≡ Some u → Kept new (names_after_move name (Some other) (names_of old))
unfolding names_of
moved_before old new name other t u good put size more differ there_other there_name =
    let p = put_before (before_in old) (held_in old) (slot_in old) (before_in new) (held_in new) (slot_in new) (length old.held.items) name good.are other t u put differ there_other there_name in
    kept new (length old.held.items) (names_after_move name (Some other) (names_of old)) size more p.good p.names_are

pub name_unknown : (slots : Slots) (name other : List ℕ) → slot_in slots name ≡ None → names_of slots ≡ names_after_move name (Some other) (names_of slots)
unfolding names_of
name_unknown slots name other none =
    sym (moved_none name other (names_of slots) (names_lack_unknown (held_in slots) (slot_in slots) name (walk (before_in slots) (length slots.held.items) 0) none))

pub other_unknown : (slots : Slots) (name other : List ℕ) → slot_in slots other ≡ None → names_of slots ≡ names_after_move name (Some other) (names_of slots)
unfolding names_of
other_unknown slots name other none =
    sym (moved_nowhere name other (names_of slots) (names_lack_unknown (held_in slots) (slot_in slots) other (walk (before_in slots) (length slots.held.items) 0) none))

pub slot_within : (slots : Slots) (name : List ℕ) (t : ℕ) → SlotsAreGood slots → slot_in slots name ≡ Some t → t < length slots.before.items
slot_within slots name t good stands =
    let h = good.are.there name t stands in
    let at = all_at (λ s. (0 < s) × (s < suc (length slots.held.items))) t (walk (before_in slots) (length slots.held.items) 0) good.are.within h.1 in
    omega (arith, at.1, good.size)

-- ---- the reading of the names, from the last on

pub record Walked (slots : Slots) (left at : ℕ) (read : List (List ℕ)) : Type 0 where
  pub within : AllByRecursion (λ s. (0 < s) × (s < suc (length slots.held.items))) (walk (before_in slots) left at)
  pub at_is : at < length slots.before.items
  pub names_are : names_in (held_in slots) (slot_in slots) (walk (before_in slots) left at) ++ read ≡ names_of slots

pub steps : (slots : Slots) (left next at s : ℕ) (read : List (List ℕ)) → left ≡ suc next → s ≡ before_in slots at → Walked slots left at read
    → AllByRecursion (λ t. (0 < t) × (t < suc (length slots.held.items))) (s ∷ walk (before_in slots) next s)
steps slots left next at s read less is h =
    let Within = λ (t : ℕ). (0 < t) × (t < suc (length slots.held.items)) in
    subst (λ u. AllByRecursion Within (u ∷ walk (before_in slots) next u)) (sym is) (subst (λ m. AllByRecursion Within (walk (before_in slots) m at)) less h.within)

pub one_slot : (slots : Slots) (left next at s : ℕ) (read more names : List (List ℕ)) → SlotsAreGood slots → left ≡ suc next → s ≡ before_in slots at
    → read ≡ reverse names → more ≡ reverse (names ++ slot_name (held_in slots) (slot_in slots) s) → Walked slots left at read → Walked slots next s more
one_slot slots left next at s read more names good less is read_is more_is h =
    let ok = steps slots left next at s read less is h in
    let one = slot_name (held_in slots) (slot_in slots) s in
    let rest = names_in (held_in slots) (slot_in slots) (walk (before_in slots) next s) in
    let all = λ (m u : ℕ). names_in (held_in slots) (slot_in slots) (walk (before_in slots) m u) in
    let turned : more ≡ one ++ read = more_is ∙ reverse-append names one ∙ ap (λ l. l ++ reverse names) (reverse_one (held_in slots) (slot_in slots) s) ∙ ap (λ l. one ++ l) (sym read_is) in
    record {
      within = ok.1;
      at_is = omega (arith, ok.0.1, good.size);
      names_are = ap (λ l. rest ++ l) turned ∙ sym (append_assoc rest one read) ∙ ap (λ u. (all next u ++ slot_name (held_in slots) (slot_in slots) u) ++ read) is ∙ ap (λ m. all m at ++ read) (sym less) ∙ h.names_are;
    }

pub walk_begins : (slots : Slots) → SlotsAreGood slots → Walked slots (length slots.held.items) 0 []
unfolding names_of
walk_begins slots good = record {
  within = good.are.within;
  at_is = omega (arith, good.size);
  names_are = append-nil (names_in (held_in slots) (slot_in slots) (walk (before_in slots) (length slots.held.items) 0));
}

-- ---- names that differ

none_take : {X : Type 0} (test : X → Bool) (xs : List X) (i : ℕ) (d : X) → ((k : ℕ) → k < i → k < length xs → test (get_or xs k d) ≡ false) → list_any test (take i xs) ≡ false
none_take test xs zero d h = refl
none_take test [] (suc i) d h = refl
none_take test (x ∷ xs) (suc i) d h =
    or_from (test x) (list_any test (take i xs)) (h 0 (omega arith) (omega arith)) (none_take test xs i d (λ k low high. h (suc k) (omega (arith, low)) (omega (arith, high))))

-- none of the names before one is it
pub is_new : (names so_far : List (List ℕ)) (i : ℕ) (name : List ℕ) → IsDistinct (pointwise nat_eq) names → i < length names → name ≡ get_or names i name → so_far ≡ take i names → list_any (pointwise nat_eq name) so_far ≡ false
is_new names so_far i name distinct within item is =
    ap (list_any (pointwise nat_eq name)) is
    ∙ none_take (pointwise nat_eq name) names i name
    (λ k low high. nat_list_eq_equiv.symm name (get_or names k name) ∙ ap (λ q. pointwise nat_eq (get_or names k name) q) item ∙ apart_from_distinct (pointwise nat_eq) names k i name distinct low within)
