-- Names in slots, each of which knows the one before it: what the moving of kids keeps. A reader of Kids.antt needs none of it.
use Rattle.std.specs.Prelude.{◌≡◌, ◌≢◌, ◌==◌, ◌⊎◌, ◌<◌, ◌++◌, ℕ, suc, zero, Bool, true, false, nat_eq, fold, if◌then◌else◌, List, [], ◌∷◌, Option, Some, None, ◌-◌, length, slice_index, slice_index_or}
use Rattle.std.specs.List.{AllByRecursion}
use Rattle.std.specs.BTreeMap.{get_by}
use Rattle.std.specs.Ordering.{nat_cmp}
use Rattle.std.specs.Cmp.Lexicographic.{pointwise, slice_cmp}
use Rattle.sp_base.specs.Texts.{Text}
use Rattle.overlay_merge.specs.declared.order.KidMove.{KidMove}
use Rattle.overlay_merge.specs.declared.slots.Slots.{Slots}
use Rattle.overlay_merge.specs.Kids.{names_after_move, ordered_by}
use Rattle.resource_tree.specs.Content.{Content}
use Rattle.resource_tree.specs.Seen.{Resource}

-- n slots, each the one before the slot that was named last
abbrev pub walk : (ℕ → ℕ) → ℕ → ℕ → List ℕ
walk before zero at = []
walk before (suc n) at = before at ∷ walk before n (before at)

-- whether a name's slot is this one
abbrev pub is_slot : Option ℕ → ℕ → Bool
is_slot None s = false
is_slot (Some t) s = t == s

-- the name in a slot, unless it stands in another by now
abbrev pub slot_name : (ℕ → List ℕ) → (List ℕ → Option ℕ) → ℕ → List Text
slot_name held slot s = if is_slot (slot (held s)) s then held s ∷ [] else []

-- the names in slots, the last of which is named first
abbrev pub names_in : (ℕ → List ℕ) → (List ℕ → Option ℕ) → List ℕ → List Text
names_in held slot [] = []
names_in held slot (s ∷ slots) = names_in held slot slots ++ slot_name held slot s

-- a slot is among others
abbrev pub IsIn : ℕ → List ℕ → Type 0
IsIn t [] = ⊥
IsIn t (s ∷ slots) = (s ≡ t) ⊎ IsIn t slots

-- no slot is there twice
abbrev pub AreApart : List ℕ → Type 0
AreApart [] = Unit {0}
AreApart (s ∷ slots) = AllByRecursion (λ t. t ≢ s) slots × AreApart slots

-- what holds of n slots beside the first, which is before and after all others
pub record AreSlots (before : ℕ → ℕ) (held : ℕ → List ℕ) (slot : List ℕ → Option ℕ) (n : ℕ) : Type 0 where
  pub within : AllByRecursion (λ s. (0 < s) × (s < suc n)) (walk before n 0)
  pub apart : AreApart (walk before n 0)
  pub there : (name : List ℕ) (s : ℕ) → slot name ≡ Some s → (held s ≡ name) × IsIn s (walk before n 0)

-- One more name is put into a slot of its own, directly before a slot.
pub record IsPut (before : ℕ → ℕ) (held : ℕ → List ℕ) (slot : List ℕ → Option ℕ) (after : ℕ → ℕ) (holds : ℕ → List ℕ) (stands : List ℕ → Option ℕ) (n t : ℕ) (name : List ℕ) : Type 0 where
  pub to_new : after t ≡ suc n
  pub from_new : after (suc n) ≡ before t
  pub others : (s : ℕ) → s < suc n → s ≢ t → after s ≡ before s
  pub holds_new : holds (suc n) ≡ name
  pub holds_others : (s : ℕ) → 0 < s → s < suc n → holds s ≡ held s
  pub stands_new : (q : List ℕ) → pointwise nat_eq name q ≡ true → stands q ≡ Some (suc n)
  pub stands_others : (q : List ℕ) → pointwise nat_eq name q ≡ false → stands q ≡ slot q

-- ---- of the type in the code

-- the slot before each
abbrev pub before_in : Slots → ℕ → ℕ
before_in slots s = slice_index slots.before.items s

-- the name that was put into a slot
abbrev pub held_in : Slots → ℕ → List ℕ
held_in slots s = (slice_index_or slots.held.items (s - 1) (record { ref_ptr = (0, 0); now = [] })).now

-- the slot in which a name stands
abbrev pub slot_in : Slots → List ℕ → Option ℕ
slot_in slots name = get_by (λ k. slice_cmp nat_cmp name k.now) slots.places

-- the lists of the type are slots
pub record SlotsAreGood (slots : Slots) : Type 0 where
  pub size : length slots.before.items ≡ suc (length slots.held.items)
  pub are : AreSlots (before_in slots) (held_in slots) (slot_in slots) (length slots.held.items)

-- a name is put into a slot of its own there, directly before a slot
abbrev pub IsPutIn : Slots → Slots → ℕ → List ℕ → Type 0
IsPutIn old new t name = IsPut (before_in old) (held_in old) (slot_in old) (before_in new) (held_in new) (slot_in new) (length old.held.items) t name

-- the names in their order
unfoldable pub names_of : Slots → List Text
names_of slots = names_in (held_in slots) (slot_in slots) (walk (before_in slots) (length slots.held.items) 0)

-- names with moves made, one after the other
abbrev pub names_after_moves : List KidMove → List Text → List Text
names_after_moves moves names = fold (λ so_far (m : KidMove). names_after_move m.name.now (Some m.other.now) so_far) names moves

-- the move of a name comes last, if it wishes one
abbrev pub AddsMove : Text → Option Text → List KidMove → List KidMove → Type 0
AddsMove name wish old new = (names : List Text) → names_after_moves new names ≡ names_after_move name wish (names_after_moves old names)

-- the moves of a layer's kids come last
abbrev pub AddsMoves : Content → Resource → List KidMove → List KidMove → Type 0
AddsMoves tree layer old new = (names : List Text) → names_after_moves new names ≡ ordered_by tree (names_after_moves old names) layer
