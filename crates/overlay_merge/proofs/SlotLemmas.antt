-- Names in slots: what stays when one more is put before a slot, and the names that are read then.
use Rattle.std.proofs.Common.{◌≡◌, ◌≢◌, ◌<◌, ◌+◌, ◌++◌, ◌||◌, ℕ, zero, suc, true, false, not, cond, inl, inr, List, [], ◌∷◌, Option, Some, None, ◌-◌, length, set, get_or, reverse, refl, sym, ◌∙◌, ap, append_assoc, append-nil, arith, subst, ⊎_elim, length-append}
use Rattle.std.specs.Prelude.{nat_eq, slice_index}
use Rattle.std.specs.Borrow.{Bor}
use Rattle.std.proofs.lemmas.List.{get_or-set_same, get_or-set_other, get_or_at, get_or_append_left}
use Rattle.std.specs.List.{AllByRecursion, list_any}
use Rattle.std.specs.Cmp.Lexicographic.{pointwise, same_text, nat_list_eq_equiv}
use Rattle.std.proofs.lemmas.Bool.{cases_Bool, eq-eqb, ne_eqb, or_from}
use Rattle.std.proofs.lemmas.List.Folds.{list_any-append}
use Rattle.std.proofs.lemmas.List.Elements.{filter-append}
use Rattle.sp_base.proofs.ListLemmas.{all_weaker}
use Rattle.overlay_merge.specs.Kids.{names_after_move}
use Rattle.overlay_merge.specs.Slots.{AreApart, AreSlots, IsIn, IsPut, is_slot, slot_name, names_in, walk}
use Rattle.overlay_merge.proofs.MoveLemmas.{but, but_none, moved_at}

-- ---- what holds of each of some slots

all_parts : (P : ℕ → Type 0) (beginning back : List ℕ) → AllByRecursion P (beginning ++ back) → AllByRecursion P beginning × AllByRecursion P back
all_parts P [] back h = (tt, h)
all_parts P (s ∷ beginning) back h = let r = all_parts P beginning back h.1 in ((h.0, r.0), r.1)

all_insert : (P : ℕ → Type 0) (beginning : List ℕ) (x : ℕ) (back : List ℕ) → AllByRecursion P (beginning ++ back) → P x → AllByRecursion P (beginning ++ x ∷ back)
all_insert P [] x back h p = (p, h)
all_insert P (s ∷ beginning) x back h p = (h.0, all_insert P beginning x back h.1 p)

all_two : (P Q : ℕ → Type 0) (slots : List ℕ) → AllByRecursion P slots → AllByRecursion Q slots → AllByRecursion (λ s. P s × Q s) slots
all_two P Q [] h k = tt
all_two P Q (s ∷ slots) h k = ((h.0, k.0), all_two P Q slots h.1 k.1)

pub all_at : (P : ℕ → Type 0) (t : ℕ) (slots : List ℕ) → AllByRecursion P slots → IsIn t slots → P t
all_at P t [] h is = elim is [ ]
all_at P t (s ∷ slots) h is =
    elim is [
      | inl e ↦ subst P e h.0
      | inr more ↦ all_at P t slots h.1 more
    ]

-- ---- where a slot is

record Around (t : ℕ) (slots : List ℕ) : Type 0 where
  beginning : List ℕ
  back : List ℕ
  is : slots ≡ beginning ++ t ∷ back

around : (t : ℕ) (slots : List ℕ) → IsIn t slots → Around t slots
around t [] h = elim h [ ]
around t (s ∷ slots) h =
    elim h [
      | inl e ↦ record { beginning = []; back = slots; is = ap (λ u. u ∷ slots) e }
      | inr more ↦ let r = around t slots more in record { beginning = s ∷ r.beginning; back = r.back; is = ap (λ l. s ∷ l) r.is }
    ]

in_insert : (t : ℕ) (beginning : List ℕ) (x : ℕ) (back : List ℕ) → IsIn t (beginning ++ back) → IsIn t (beginning ++ x ∷ back)
in_insert t [] x back h = inr h
in_insert t (s ∷ beginning) x back h = elim h [ inl e ↦ inl e | inr more ↦ inr (in_insert t beginning x back more) ]

in_new : (beginning : List ℕ) (x : ℕ) (back : List ℕ) → IsIn x (beginning ++ x ∷ back)
in_new [] x back = inl refl
in_new (s ∷ beginning) x back = inr (in_new beginning x back)

apart_insert : (beginning : List ℕ) (x : ℕ) (back : List ℕ) → AllByRecursion (λ s. s ≢ x) (beginning ++ back) → AreApart (beginning ++ back) → AreApart (beginning ++ x ∷ back)
apart_insert [] x back fresh h = (fresh, h)
apart_insert (s ∷ beginning) x back fresh h = (all_insert (λ t. t ≢ s) beginning x back h.0 (λ e. fresh.0 (sym e)), apart_insert beginning x back fresh.1 h.1)

apart_around : (beginning : List ℕ) (t : ℕ) (back : List ℕ) → AreApart (beginning ++ t ∷ back) → AllByRecursion (λ s. s ≢ t) beginning × AllByRecursion (λ s. s ≢ t) back
apart_around [] t back h = (tt, h.0)
apart_around (s ∷ beginning) t back h =
    let r = apart_around beginning t back h.1 in
    (((λ e. (all_parts (λ u. u ≢ s) beginning (t ∷ back) h.0).1.0 (sym e)), r.0), r.1)

-- ---- the walk from slot to slot

abbrev Links : (ℕ → ℕ) → ℕ → List ℕ → Type 0
Links before at [] = Unit {0}
Links before at (s ∷ slots) = (before at ≡ s) × Links before s slots

links_walk : (before : ℕ → ℕ) (n at : ℕ) → Links before at (walk before n at)
links_walk before zero at = tt
links_walk before (suc n) at = (refl, links_walk before n (before at))

length-walk : (before : ℕ → ℕ) (n at : ℕ) → length (walk before n at) ≡ n
length-walk before zero at = refl
length-walk before (suc n) at = ap suc (length-walk before n (before at))

walk_links : (before : ℕ → ℕ) (at : ℕ) (slots : List ℕ) → Links before at slots → walk before (length slots) at ≡ slots
walk_links before at [] h = refl
walk_links before at (s ∷ slots) h = ap (λ u. u ∷ walk before (length slots) u) h.0 ∙ ap (λ l. s ∷ l) (walk_links before s slots h.1)

abbrev IsOther : ℕ → ℕ → ℕ → Type 0
IsOther n t s = (s < suc n) × (s ≢ t)

module _ (before after : ℕ → ℕ) (n t : ℕ) (to_new : after t ≡ suc n) (from_new : after (suc n) ≡ before t) (others : (s : ℕ) → s < suc n → s ≢ t → after s ≡ before s) where
  links_keep : (at : ℕ) (slots : List ℕ) → IsOther n t at → AllByRecursion (IsOther n t) slots → Links before at slots → Links after at slots
  links_keep at [] ok all h = tt
  links_keep at (s ∷ slots) ok all h = (others at ok.0 ok.1 ∙ h.0, links_keep s slots all.0 all.1 h.1)

  links_new : (slots : List ℕ) → AllByRecursion (IsOther n t) slots → Links before t slots → Links after (suc n) slots
  links_new [] all h = tt
  links_new (s ∷ slots) all h = (from_new ∙ h.0, links_keep s slots all.0 all.1 h.1)

  links_after : (at : ℕ) (beginning back : List ℕ) → IsOther n t at → AllByRecursion (IsOther n t) beginning → AllByRecursion (IsOther n t) back → Links before at (beginning ++ t ∷ back) → Links after at (beginning ++ t ∷ (suc n ∷ back))
  links_after at [] back ok allf allb h = (others at ok.0 ok.1 ∙ h.0, (to_new, links_new back allb h.1))
  links_after at (s ∷ beginning) back ok allf allb h = (others at ok.0 ok.1 ∙ h.0, links_after s beginning back allf.0 allf.1 allb h.1)

-- ---- the names in slots

names-append : (held : ℕ → List ℕ) (slot : List ℕ → Option ℕ) (beginning back : List ℕ) → names_in held slot (beginning ++ back) ≡ names_in held slot back ++ names_in held slot beginning
names-append held slot [] back = sym (append-nil (names_in held slot back))
names-append held slot (s ∷ beginning) back =
    ap (λ l. l ++ slot_name held slot s) (names-append held slot beginning back) ∙ append_assoc (names_in held slot back) (names_in held slot beginning) (slot_name held slot s)

self_slot : (s : ℕ) → is_slot (Some s) s ≡ true
self_slot s = eq-eqb s s refl

pub name_here : (held : ℕ → List ℕ) (slot : List ℕ → Option ℕ) (s : ℕ) (name : List ℕ) → held s ≡ name → slot name ≡ Some s → slot_name held slot s ≡ name ∷ []
name_here held slot s name holds stands =
    ap (λ q. cond (is_slot (slot q) s) (q ∷ []) []) holds ∙ ap (λ o. cond (is_slot o s) (name ∷ []) []) stands ∙ ap (λ b. cond b (name ∷ []) []) (self_slot s)

pub name_else : (held : ℕ → List ℕ) (slot : List ℕ → Option ℕ) (s : ℕ) (name : List ℕ) → held s ≡ name → is_slot (slot name) s ≡ false → slot_name held slot s ≡ []
name_else held slot s name holds elsewhere =
    ap (λ q. cond (is_slot (slot q) s) (q ∷ []) []) holds ∙ ap (λ b. cond b (name ∷ []) []) elsewhere

pub reverse_one : (held : ℕ → List ℕ) (slot : List ℕ → Option ℕ) (s : ℕ) → reverse (slot_name held slot s) ≡ slot_name held slot s
reverse_one held slot s = elim (is_slot (slot (held s)) s) as (λ b. reverse (cond b (held s ∷ []) []) ≡ cond b (held s ∷ []) []) [ true ↦ refl | false ↦ refl ]

pub another_slot : (slot : List ℕ → Option ℕ) (name : List ℕ) (t s : ℕ) → slot name ≡ Some t → t ≢ s → is_slot (slot name) s ≡ false
another_slot slot name t s stands differ = ap (λ o. is_slot o s) stands ∙ ne_eqb t s differ

-- the names round a slot in which one stands
names_around : (held : ℕ → List ℕ) (slot : List ℕ → Option ℕ) (beginning : List ℕ) (s : ℕ) (back : List ℕ) (name : List ℕ) → held s ≡ name → slot name ≡ Some s
    → names_in held slot (beginning ++ s ∷ back) ≡ names_in held slot back ++ name ∷ names_in held slot beginning
names_around held slot beginning s back name holds stands =
    names-append held slot beginning (s ∷ back)
    ∙ ap (λ l. (names_in held slot back ++ l) ++ names_in held slot beginning) (name_here held slot s name holds stands)
    ∙ append_assoc (names_in held slot back) (name ∷ []) (names_in held slot beginning)

one_lacks : (held : ℕ → List ℕ) (slot : List ℕ → Option ℕ) (q : List ℕ) (s : ℕ) → is_slot (slot q) s ≡ false → list_any (pointwise nat_eq q) (slot_name held slot s) ≡ false
one_lacks held slot q s elsewhere =
    ⊎_elim
    (λ (same : pointwise nat_eq q (held s) ≡ true).
    let is : q ≡ held s = same_text q (held s) (sym same) in
    ap (λ b. list_any (pointwise nat_eq q) (cond b (held s ∷ []) [])) (ap (λ r. is_slot (slot r) s) (sym is) ∙ elsewhere))
    (λ (differ : pointwise nat_eq q (held s) ≡ false).
    elim (is_slot (slot (held s)) s) as (λ b. list_any (pointwise nat_eq q) (cond b (held s ∷ []) []) ≡ false) [
      | true ↦ ap (λ b. b || false) differ
      | false ↦ refl
    ])
    (cases_Bool (pointwise nat_eq q (held s)))

pub names_lack : (held : ℕ → List ℕ) (slot : List ℕ → Option ℕ) (q : List ℕ) (slots : List ℕ) → AllByRecursion (λ s. is_slot (slot q) s ≡ false) slots → list_any (pointwise nat_eq q) (names_in held slot slots) ≡ false
names_lack held slot q [] h = refl
names_lack held slot q (s ∷ slots) h =
    list_any-append (pointwise nat_eq q) (names_in held slot slots) (slot_name held slot s)
    ∙ or_from (list_any (pointwise nat_eq q) (names_in held slot slots)) (list_any (pointwise nat_eq q) (slot_name held slot s)) (names_lack held slot q slots h.1) (one_lacks held slot q s h.0)

no_slot : (q : List ℕ) (slot : List ℕ → Option ℕ) (slots : List ℕ) → slot q ≡ None → AllByRecursion (λ s. is_slot (slot q) s ≡ false) slots
no_slot q slot [] none = tt
no_slot q slot (s ∷ slots) none = (ap (λ o. is_slot o s) none, no_slot q slot slots none)

-- a name without a slot isn't there
pub names_lack_unknown : (held : ℕ → List ℕ) (slot : List ℕ → Option ℕ) (q : List ℕ) (slots : List ℕ) → slot q ≡ None → list_any (pointwise nat_eq q) (names_in held slot slots) ≡ false
names_lack_unknown held slot q slots none = names_lack held slot q slots (no_slot q slot slots none)

names_lack_elsewhere : (held : ℕ → List ℕ) (slot : List ℕ → Option ℕ) (q : List ℕ) (t : ℕ) (slots : List ℕ) → slot q ≡ Some t → AllByRecursion (λ s. s ≢ t) slots → list_any (pointwise nat_eq q) (names_in held slot slots) ≡ false
names_lack_elsewhere held slot q t slots stands apart =
    names_lack held slot q slots (all_weaker (λ s. s ≢ t) (λ s. is_slot (slot q) s ≡ false) (λ s differ. ap (λ o. is_slot o s) stands ∙ ne_eqb t s (λ e. differ (sym e))) slots apart)

-- ---- one more name

module _ (before : ℕ → ℕ) (held : ℕ → List ℕ) (slot : List ℕ → Option ℕ) (after : ℕ → ℕ) (holds : ℕ → List ℕ) (stands : List ℕ → Option ℕ) (n t : ℕ) (name : List ℕ)
    (put : IsPut before held slot after holds stands n t name) where
  one_less : (s : ℕ) → 0 < s → s < suc n → slot_name holds stands s ≡ but name (slot_name held slot s)
  one_less s low high =
      let q = held s in
      let new : is_slot (Some (suc n)) s ≡ false = ne_eqb (suc n) s (λ e. absurd (omega (arith, e, high))) in
      ap (λ x. cond (is_slot (stands x) s) (x ∷ []) []) (put.holds_others s low high)
      ∙ ⊎_elim
      (λ (same : pointwise nat_eq name q ≡ true).
      ap (λ o. cond (is_slot o s) (q ∷ []) []) (put.stands_new q same) ∙ ap (λ b. cond b (q ∷ []) []) new
      ∙ elim (is_slot (slot q) s) as (λ b. [] ≡ but name (cond b (q ∷ []) [])) [
        | true ↦ sym (ap (λ b. cond (not b) (q ∷ []) []) same)
        | false ↦ refl
      ])
      (λ (differ : pointwise nat_eq name q ≡ false).
      ap (λ o. cond (is_slot o s) (q ∷ []) []) (put.stands_others q differ)
      ∙ elim (is_slot (slot q) s) as (λ b. cond b (q ∷ []) [] ≡ but name (cond b (q ∷ []) [])) [
        | true ↦ sym (ap (λ b. cond (not b) (q ∷ []) []) differ)
        | false ↦ refl
      ])
      (cases_Bool (pointwise nat_eq name q))

  names_less : (slots : List ℕ) → AllByRecursion (λ s. (0 < s) × (s < suc n)) slots → names_in holds stands slots ≡ but name (names_in held slot slots)
  names_less [] within = refl
  names_less (s ∷ slots) within =
      ap (λ l. l ++ slot_name holds stands s) (names_less slots within.1) ∙ ap (λ l. but name (names_in held slot slots) ++ l) (one_less s within.0.0 within.0.1)
      ∙ sym (filter-append (λ q. not (pointwise nat_eq name q)) (names_in held slot slots) (slot_name held slot s))

  new_here : slot_name holds stands (suc n) ≡ name ∷ []
  new_here = name_here holds stands (suc n) name put.holds_new (put.stands_new name (nat_list_eq_equiv.refl name))

  some_is : (a b : ℕ) → Some a ≡ Some b → a ≡ b
  some_is a b e = cc

  slots_put : (beginning back : List ℕ) → AreSlots before held slot n → walk before n 0 ≡ beginning ++ back → walk after (suc n) 0 ≡ beginning ++ suc n ∷ back → AreSlots after holds stands (suc n)
  slots_put beginning back good was is =
      let Within = λ (s : ℕ). (0 < s) × (s < suc n) in
      let Wider = λ (s : ℕ). (0 < s) × (s < suc (suc n)) in
      let within : AllByRecursion Within (beginning ++ back) = subst (AllByRecursion Within) was good.within in
      let fresh : AllByRecursion (λ s. s ≢ suc n) (beginning ++ back) = all_weaker Within (λ s. s ≢ suc n) (λ s h e. absurd (omega (arith, e, h.1))) (beginning ++ back) within in
      let wider : AllByRecursion Wider (beginning ++ back) = all_weaker Within Wider (λ s h. (h.0, omega (arith, h.1))) (beginning ++ back) within in
      record {
        within = subst (AllByRecursion Wider) (sym is) (all_insert Wider beginning (suc n) back wider (omega arith, omega arith));
        apart = subst AreApart (sym is) (apart_insert beginning (suc n) back fresh (subst AreApart was good.apart));
        there = λ q s found.
            ⊎_elim
            (λ (same : pointwise nat_eq name q ≡ true).
            let here : suc n ≡ s = some_is (suc n) s (sym (put.stands_new q same) ∙ found) in
            ((ap holds (sym here) ∙ put.holds_new ∙ same_text name q (sym same)), subst (λ l. IsIn s l) (sym is) (subst (λ u. IsIn u (beginning ++ suc n ∷ back)) here (in_new beginning (suc n) back))))
            (λ (differ : pointwise nat_eq name q ≡ false).
            let old = good.there q s (sym (put.stands_others q differ) ∙ found) in
            let at = all_at Within s (walk before n 0) good.within old.1 in
            ((put.holds_others s at.0 at.1 ∙ old.0), subst (λ l. IsIn s l) (sym is) (in_insert s beginning (suc n) back (subst (λ l. IsIn s l) was old.1))))
            (cases_Bool (pointwise nat_eq name q));
      }

others_in : (n t : ℕ) (slots : List ℕ) → AllByRecursion (λ s. (0 < s) × (s < suc n)) slots → AllByRecursion (λ s. s ≢ t) slots → AllByRecursion (IsOther n t) slots
others_in n t slots within apart =
    all_two (λ s. s < suc n) (λ s. s ≢ t) slots (all_weaker (λ s. (0 < s) × (s < suc n)) (λ s. s < suc n) (λ s h. h.1) slots within) apart

-- what a name that is put leaves: slots that are good, and the names that are read
pub record Puts (after : ℕ → ℕ) (holds : ℕ → List ℕ) (stands : List ℕ → Option ℕ) (n : ℕ) (names : List (List ℕ)) : Type 0 where
  pub good : AreSlots after holds stands n
  pub names_are : names_in holds stands (walk after n 0) ≡ names

module _ (before : ℕ → ℕ) (held : ℕ → List ℕ) (slot : List ℕ → Option ℕ) (after : ℕ → ℕ) (holds : ℕ → List ℕ) (stands : List ℕ → Option ℕ) (n : ℕ) (name : List ℕ) (good : AreSlots before held slot n) where
  walk_is : (slots : List ℕ) → length slots ≡ suc n → Links after 0 slots → walk after (suc n) 0 ≡ slots
  walk_is slots len links = ap (λ m. walk after m 0) (sym len) ∙ walk_links after 0 slots links

  -- at the end
  pub put_last : IsPut before held slot after holds stands n 0 name → list_any (pointwise nat_eq name) (names_in held slot (walk before n 0)) ≡ false
      → Puts after holds stands (suc n) (names_in held slot (walk before n 0) ++ name ∷ [])
  put_last put fresh =
      let slots = walk before n 0 in
      let positive : AllByRecursion (λ s. s ≢ 0) slots = all_weaker (λ s. (0 < s) × (s < suc n)) (λ s. s ≢ 0) (λ s h e. absurd (omega (arith, e, h.0))) slots good.within in
      let links : Links after 0 (suc n ∷ slots) = (put.to_new, links_new before after n 0 put.to_new put.from_new put.others slots (others_in n 0 slots good.within positive) (links_walk before n 0)) in
      let is : walk after (suc n) 0 ≡ suc n ∷ slots = walk_is (suc n ∷ slots) (ap suc (length-walk before n 0)) links in
      record {
        good = slots_put before held slot after holds stands n 0 name put [] slots good refl is;
        names_are = ap (names_in holds stands) is ∙ ap (λ l. l ++ slot_name holds stands (suc n)) (names_less before held slot after holds stands n 0 name put slots good.within ∙ but_none name (names_in held slot slots) fresh)
            ∙ ap (λ l. names_in held slot slots ++ l) (new_here before held slot after holds stands n 0 name put);
      }

  -- before another
  pub put_before : (other : List ℕ) (t u : ℕ) → IsPut before held slot after holds stands n t name → pointwise nat_eq name other ≡ false → slot other ≡ Some t → slot name ≡ Some u
      → Puts after holds stands (suc n) (names_after_move name (Some other) (names_in held slot (walk before n 0)))
  put_before other t u put differ there_other there_name =
      let slots = walk before n 0 in
      let Within = λ (s : ℕ). (0 < s) × (s < suc n) in
      let o = good.there other t there_other in
      let m = good.there name u there_name in
      let at = around t slots o.1 in
      let was = around u slots m.1 in
      let apart_o = apart_around at.beginning t at.back (subst AreApart at.is good.apart) in
      let apart_m = apart_around was.beginning u was.back (subst AreApart was.is good.apart) in
      let within = all_parts Within at.beginning (t ∷ at.back) (subst (AllByRecursion Within) at.is good.within) in
      let low : 0 ≢ t = λ e. absurd (omega (arith, e, within.1.0.0)) in
      let links : Links after 0 (at.beginning ++ t ∷ (suc n ∷ at.back)) =
      links_after before after n t put.to_new put.from_new put.others 0 at.beginning at.back (omega arith, low) (others_in n t at.beginning within.0 apart_o.0) (others_in n t at.back within.1.1 apart_o.1)
      (subst (Links before 0) at.is (links_walk before n 0)) in
      let len : length (at.beginning ++ t ∷ (suc n ∷ at.back)) ≡ suc n =
      let l : length slots ≡ n = length-walk before n 0 in
      let l2 : length slots ≡ length at.beginning + length (t ∷ at.back) = ap length at.is ∙ length-append at.beginning (t ∷ at.back) in
      let l3 = length-append at.beginning (t ∷ (suc n ∷ at.back)) in
      omega (arith, l, l2, l3) in
      let is : walk after (suc n) 0 ≡ at.beginning ++ t ∷ (suc n ∷ at.back) = walk_is (at.beginning ++ t ∷ (suc n ∷ at.back)) len links in
      let above = names_in held slot at.back in
      let below = names_in held slot at.beginning in
      let other_stands : slot_name holds stands t ≡ other ∷ [] =
      one_less before held slot after holds stands n t name put t within.1.0.0 within.1.0.1 ∙ ap (but name) (name_here held slot t other o.0 there_other) ∙ ap (λ b. cond (not b) (other ∷ []) []) differ in
      record {
        good = slots_put before held slot after holds stands n t name put (at.beginning ++ t ∷ []) at.back good (at.is ∙ sym (append_assoc at.beginning (t ∷ []) at.back)) (is ∙ sym (append_assoc at.beginning (t ∷ []) (suc n ∷ at.back)));
        names_are =
            ap (names_in holds stands) is ∙ names-append holds stands at.beginning (t ∷ (suc n ∷ at.back))
            ∙ ap (λ l. ((l ++ slot_name holds stands (suc n)) ++ slot_name holds stands t) ++ names_in holds stands at.beginning) (names_less before held slot after holds stands n t name put at.back within.1.1)
            ∙ ap (λ l. ((but name above ++ l) ++ slot_name holds stands t) ++ names_in holds stands at.beginning) (new_here before held slot after holds stands n t name put)
            ∙ ap (λ l. ((but name above ++ name ∷ []) ++ l) ++ names_in holds stands at.beginning) other_stands
            ∙ ap (λ l. ((but name above ++ name ∷ []) ++ other ∷ []) ++ l) (names_less before held slot after holds stands n t name put at.beginning within.0)
            ∙ append_assoc (but name above ++ name ∷ []) (other ∷ []) (but name below)
            ∙ append_assoc (but name above) (name ∷ []) (other ∷ but name below)
            ∙ sym (moved_at name other (names_in held slot slots) (names_in held slot was.back) (names_in held slot was.beginning) above below differ
            (ap (names_in held slot) was.is ∙ names_around held slot was.beginning u was.back name m.0 there_name)
            (names_lack_elsewhere held slot name u was.back there_name apart_m.1)
            (names_lack_elsewhere held slot name u was.beginning there_name apart_m.0)
            (ap (names_in held slot) at.is ∙ names_around held slot at.beginning t at.back other o.0 there_other)
            (names_lack_elsewhere held slot other t at.back there_other apart_o.1));
      }

-- ---- what the code writes

pub record Written (xs after : List ℕ) (at : ℕ) : Type 0 where
  pub to_new : slice_index after at ≡ length xs
  pub from_new : slice_index after (length xs) ≡ slice_index xs at
  pub others : (s : ℕ) → s < length xs → s ≢ at → slice_index after s ≡ slice_index xs s

pub written : (xs more : List ℕ) (at v slot : ℕ) → at < length xs → v ≡ slice_index xs at → more ≡ xs ++ v ∷ [] → slot ≡ length xs → Written xs (set more at slot) at
written xs more at v slot within value pushed len =
    let longer : length more ≡ length xs + 1 = ap length pushed ∙ length-append xs (v ∷ []) in
    let apart : length xs ≢ at = λ e. absurd (omega (arith, e, within)) in
    record {
      to_new = get_or-set_same more at slot 0 (omega (arith, longer, within)) ∙ len;
      from_new = get_or-set_other more at (length xs) slot 0 apart ∙ ap (λ l. get_or l (length xs) 0) pushed ∙ get_or_at xs v [] 0 (length xs) refl ∙ value;
      others = λ s low differ. get_or-set_other more at s slot 0 differ ∙ ap (λ l. get_or l s 0) pushed ∙ get_or_append_left xs (v ∷ []) 0 s low;
    }

pub record Held (before after : List (Bor (List ℕ))) (name : List ℕ) : Type 0 where
  pub new : (get_or after (suc (length before) - 1) (record { ref_ptr = (0, 0); now = [] })).now ≡ name
  pub others : (s : ℕ) → 0 < s → s < suc (length before) → (get_or after (s - 1) (record { ref_ptr = (0, 0); now = [] })).now ≡ (get_or before (s - 1) (record { ref_ptr = (0, 0); now = [] })).now

pub held : (before after : List (Bor (List ℕ))) (name : Bor (List ℕ)) → after ≡ before ++ name ∷ [] → Held before after name.now
held before after name pushed =
    let none : Bor (List ℕ) = record { ref_ptr = (0, 0); now = [] } in
    let n : suc (length before) - 1 ≡ length before = omega arith in
    record {
      new = ap (λ i. (get_or after i none).now) n ∙ ap (λ l. (get_or l (length before) none).now) pushed ∙ ap (λ (b : Bor (List ℕ)). b.now) (get_or_at before name [] none (length before) refl);
      others = λ s low high. ap (λ l. (get_or l (s - 1) none).now) pushed ∙ ap (λ (b : Bor (List ℕ)). b.now) (get_or_append_left before (name ∷ []) none (s - 1) (omega (arith, low, high)));
    }
