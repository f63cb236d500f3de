-- Content has a fault exactly where a value on some way has one, and it is told at its place.
use Rattle.std.proofs.Common.{◌≡◌, ℕ, zero, suc, Bool, true, false, cond, ⊎_elim, List, [], ◌∷◌, take, Option, Some, None, option_map, is_some, if◌then◌else◌, refl, sym, ap, ◌∙◌}
use Rattle.std.specs.Cmp.Lexicographic.{same_text}
use Rattle.std.specs.FinMap.Entries.{is_sorted, below_all}
use Rattle.std.specs.Option.{option_or}
use Rattle.std.specs.Str.{bytes_eq}
use Rattle.std.proofs.lemmas.Bool.{cases_Bool}
use Rattle.std.proofs.lemmas.Option.{none-some, same_Some}
use Rattle.serde_json.specs.Data.{Data, null, boolean, number, string, array, object, Members, no_members, member}
use Rattle.serde_json.specs.Find.{get_member, as_i64}
use Rattle.sp_base.specs.Names.{by_name}
use Rattle.sp_base.proofs.BoolLemmas.{T_first, T_second}
use Rattle.content_json.specs.declared.fault.Cause.{Cause}
use Rattle.content_json.specs.declared.fault.Cause.TheVariants.{BadName, BadNumber, BadOrder}
use Rattle.content_json.specs.declared.fault.Found.{Found}
use Rattle.content_json.specs.Names.{is_order, has_bad_name}
use Rattle.content_json.specs.Lists.{array_cause}
use Rattle.content_json.specs.Faults.{here, in_member, own_fault, own_cause, has_good_order, fault_in, fault_below}
use Rattle.content_json.specs.Ways.{way_end, IsPlaced}
use Rattle.content_json.proofs.Under.{bytes_eq_itself}
use Rattle.content_json.proofs.NameLemmas.{none_of_both}
use Rattle.content_json.specs.Members.{AreSorted, entries_of}
use Rattle.content_json.proofs.InsertLemmas.{get-member}
use Rattle.content_json.proofs.ReturnNodes.{get_below}
use Rattle.content_json.proofs.InOrder.{IsInOrder, AreInOrder}
use Rattle.content_json.proofs.GoodLemmas.{sound_way}

none_given : {A B : Type 0} (f : A → B) (o : Option A) → option_map f o ≡ None → o ≡ None
none_given f None h = refl
none_given f (Some x) h = absurd (cc)

no_bad_number : (b : Bool) → (if b then None else Some (here BadNumber)) ≡ None → (if b then None else Some BadNumber) ≡ None
no_bad_number true h = refl
no_bad_number false h = absurd (cc)

bad_number : (b : Bool) → (if b then None else Some BadNumber) ≡ None → (if b then None else Some (here BadNumber)) ≡ None
bad_number true h = refl
bad_number false h = absurd (cc)

-- ---- no fault, no cause

no_cause_in : (d : Data) → fault_in d ≡ None → own_cause d ≡ None
no_cause_in null h = refl
no_cause_in (boolean b) h = refl
no_cause_in (number n) h = no_bad_number (is_some (as_i64 n)) h
no_cause_in (string s) h = refl
no_cause_in (array ds) h = none_given here (array_cause ds) h
no_cause_in (object ms) h = ap (option_map (λ found. found.cause)) (none_of_both (own_fault ms) (fault_below ms) h).0

-- where content has no fault, no value on any way has one
pub no_cause_at : (top : Data) → IsInOrder top → fault_in top ≡ None → (way : List (List ℕ)) (d : Data) → way_end way top ≡ Some d → own_cause d ≡ None
no_cause_at top in_order faultless way d at = no_cause_in d (sound_way way top d (record { faultless = faultless; in_order = in_order }) at).0.faultless

-- ---- no cause, no fault

neither_found : {A : Type 0} (a b : Option A) → a ≡ None → b ≡ None → option_or a b ≡ None
neither_found a b g h = rw (g, h) refl

step_to : (name : List ℕ) (way : List (List ℕ)) (ms : Members) (x : Data) → is_order name ≡ false → get_member name ms ≡ Some x → way_end (name ∷ way) (object ms) ≡ way_end way x
step_to name way ms x other got = rw (other, got) refl

here_got : (k : List ℕ) (d : Data) (ms : Members) → get_member k (member k d ms) ≡ Some d
here_got k d ms = get-member k k d ms ∙ ap (λ b. cond b (Some d) (get_member k ms)) (bytes_eq_itself k)

-- a later member has another name
later_got : (name k : List ℕ) (d x : Data) (ms : Members) → AreSorted (member k d ms) → get_member name ms ≡ Some x → get_member name (member k d ms) ≡ Some x
later_got name k d x ms s got =
    get-member name k d ms
    ∙ ⊎_elim
    (λ e. absurd (none-some x (sym (get_below k ms (T_first (below_all by_name k (entries_of ms)) (is_sorted by_name (entries_of ms)) s)) ∙ ap (λ n. get_member n ms) (sym (same_text name k (sym e))) ∙ got)))
    (λ e. ap (λ b. cond b (Some d) (get_member name ms)) e ∙ got)
    (cases_Bool (bytes_eq name k))

mutual
  pub faultless_from : (d : Data) → IsInOrder d → ((way : List (List ℕ)) (e : Data) → way_end way d ≡ Some e → own_cause e ≡ None) → fault_in d ≡ None
  faultless_from null h all = refl
  faultless_from (boolean b) h all = refl
  faultless_from (number n) h all = bad_number (is_some (as_i64 n)) (all [] (number n) refl)
  faultless_from (string s) h all = refl
  faultless_from (array ds) h all = ap (option_map here) (all [] (array ds) refl)
  faultless_from (object ms) h all =
      neither_found (own_fault ms) (fault_below ms) (none_given (λ found. found.cause) (own_fault ms) (all [] (object ms) refl))
      (faultless_members ms h.0 h.1 (λ name x other got way e at. all (name ∷ way) e (step_to name way ms x other got ∙ at)))

  faultless_members : (ms : Members) → AreSorted ms → AreInOrder ms
      → ((name : List ℕ) (x : Data) → is_order name ≡ false → get_member name ms ≡ Some x → (way : List (List ℕ)) (e : Data) → way_end way x ≡ Some e → own_cause e ≡ None) → fault_below ms ≡ None
  faultless_members no_members s h all = refl
  faultless_members (member k d ms) s h all =
      let rest = faultless_members ms (T_second (below_all by_name k (entries_of ms)) (is_sorted by_name (entries_of ms)) s) h.1 (λ name x other got. all name x other (later_got name k d x ms s got)) in
      elim (is_order k) as (λ t. is_order k ≡ t → option_or (if t then None else option_map (in_member k) (fault_in d)) (fault_below ms) ≡ None) [
        | true ↦ λ _. rest
        | false ↦ λ other. neither_found (option_map (in_member k) (fault_in d)) (fault_below ms) (ap (option_map (in_member k)) (faultless_from d h.0 (all k d other (here_got k d ms)))) rest
      ] refl

-- ---- a fault stands at its place

take_again : (n : ℕ) (way : List (List ℕ)) → take n (take (suc n) way) ≡ take n way
take_again zero way = refl
take_again (suc n) [] = refl
take_again (suc n) (name ∷ way) = ap (λ more. name ∷ more) (take_again n way)

found_none : {A : Type 0} (g : Found) → None ≡ Some g → A
found_none g e = absurd (cc)

own_place : (a b : Bool) (f : Found) → (if a then Some (here BadName) else (if b then None else Some (here BadOrder))) ≡ Some f → f.place ≡ []
own_place true b f h = ap (λ g. g.place) (sym (same_Some (here BadName) f h))
own_place false true f h = found_none f h
own_place false false f h = ap (λ g. g.place) (sym (same_Some (here BadOrder) f h))

number_placed : (n : Bool) (found : Found) → (if n then None else Some (here BadNumber)) ≡ Some found → (found.place ≡ []) × ((if n then None else Some BadNumber) ≡ Some found.cause)
number_placed true found h = found_none found h
number_placed false found h = let is = same_Some (here BadNumber) found h in (ap (λ g. g.place) (sym is), ap (λ g. Some g.cause) is)

array_placed : (o : Option Cause) (found : Found) → option_map here o ≡ Some found → (found.place ≡ []) × (o ≡ Some found.cause)
array_placed None found h = found_none found h
array_placed (Some cause) found h = let is = same_Some (here cause) found h in (ap (λ g. g.place) (sym is), ap (λ g. Some g.cause) is)

-- the fault of a member
record IsMemberFault (ms : Members) (found : Found) : Type 0 where
  name : List ℕ
  value : Data
  within : Found
  other : is_order name ≡ false
  got : get_member name ms ≡ Some value
  is : found ≡ in_member name within
  placed : IsPlaced value within

mutual
  pub fault_placed : (d : Data) (found : Found) → IsInOrder d → fault_in d ≡ Some found → IsPlaced d found
  fault_placed null found h e = found_none found e
  fault_placed (boolean b) found h e = found_none found e
  fault_placed (number n) found h e = let p = number_placed (is_some (as_i64 n)) found e in record { way = []; value = number n; at = refl; place = p.0; cause = p.1 }
  fault_placed (string s) found h e = found_none found e
  fault_placed (array ds) found h e = let p = array_placed (array_cause ds) found e in record { way = []; value = array ds; at = refl; place = p.0; cause = p.1 }
  fault_placed (object ms) found h e = elim (own_fault ms) as (λ o. own_fault ms ≡ o → option_or o (fault_below ms) ≡ Some found → IsPlaced (object ms) found) [
    | None ↦ λ _ g.
        let m = member_placed ms found h.0 h.1 g in
        record {
          way = m.name ∷ m.placed.way;
          value = m.placed.value;
          at = step_to m.name m.placed.way ms m.value m.other m.got ∙ m.placed.at;
          place = ap (λ f. f.place) m.is ∙ ap (λ p. take 64 (m.name ∷ p)) m.placed.place ∙ ap (λ p. m.name ∷ p) (take_again 63 m.placed.way);
          cause = m.placed.cause ∙ ap (λ f. Some f.cause) (sym m.is);
        }
    | Some f ↦ λ own g.
        let is = same_Some f found g in
        record {
          way = [];
          value = object ms;
          at = refl;
          place = ap (λ x. x.place) (sym is) ∙ own_place (has_bad_name ms) (has_good_order ms) f own;
          cause = ap (option_map (λ x. x.cause)) own ∙ ap (λ x. Some x.cause) is;
        }
  ] refl e

  member_placed : (ms : Members) (found : Found) → AreSorted ms → AreInOrder ms → fault_below ms ≡ Some found → IsMemberFault ms found
  member_placed no_members found s h e = found_none found e
  member_placed (member k d ms) found s h e =
      let later : fault_below ms ≡ Some found → IsMemberFault (member k d ms) found = λ g.
      let m = member_placed ms found (T_second (below_all by_name k (entries_of ms)) (is_sorted by_name (entries_of ms)) s) h.1 g in
      record { name = m.name; value = m.value; within = m.within; other = m.other; got = later_got m.name k d m.value ms s m.got; is = m.is; placed = m.placed } in
      elim (is_order k) as (λ t. is_order k ≡ t → option_or (if t then None else option_map (in_member k) (fault_in d)) (fault_below ms) ≡ Some found → IsMemberFault (member k d ms) found) [
        | true ↦ λ _ g. later g
        | false ↦ λ other g. elim (fault_in d) as (λ o. fault_in d ≡ o → option_or (option_map (in_member k) o) (fault_below ms) ≡ Some found → IsMemberFault (member k d ms) found) [
          | None ↦ λ _ more. later more
          | Some f ↦ λ own is. record { name = k; value = d; within = f; other = other; got = here_got k d ms; is = sym (same_Some (in_member k f) found is); placed = fault_placed d f h.0 own }
        ] refl g
      ] refl e
