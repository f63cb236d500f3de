-- Notes at their places, one by one and in sum.
use Rattle.std.proofs.Common.{◌≡◌, ◌≢◌, ◌⊎◌, ◌≤◌, ◌<◌, ◌+◌, ◌&&◌, ◌||◌, ℕ, Bool, true, false, not, cond, List, [], ◌∷◌, Option, Some, None, inl, inr, ⊎_elim, length, refl, sym, ◌∙◌, ap, subst, arith}
use Rattle.std.specs.Prelude.{IfSome, IsSome, if◌then◌else◌, nat_le, nat_lt, option_and_then}
use Rattle.std.specs.BTreeMap.{insert_entry, is_at}
use Rattle.std.specs.Cmp.{eq_by_cmp_equiv, nat_cmp_total}
use Rattle.std.specs.List.{filter, sum_by, IsDistinct}
use Rattle.std.specs.Map.{keys_of, lookup, remove_entry, values_of}
use Rattle.std.specs.Ordering.{eq_by_cmp, match_ordering, nat_cmp}
use Rattle.std.specs.declared.cmp.Ordering.{Ordering}
use Rattle.std.specs.declared.cmp.Ordering.TheVariants.{Equal, Greater, Less}
use Rattle.std.proofs.lemmas.Bool.{and_parts, cases_Bool, false_from_ne_true, le-leb, leb-true, lt-ltb, ltb-true, true≢false}
use Rattle.std.proofs.lemmas.List.Sums.{sum_by-cons}
use Rattle.std.proofs.lemmas.Map.Entries.{lookup-filter-values, option_filter, sum_by-remove_entry}
use Rattle.std.proofs.lemmas.Map.Lookups.{exact_unsigned}
use Rattle.std.proofs.lemmas.Map.Views.{tells_apart}
use Rattle.sp_base.specs.Paths.{is_under, parent_of}
use Rattle.cover_rules.specs.Coverage.{covers, deletes, handle_of, stat_folder}
use Rattle.cover_rules.specs.declared.invalidation.Invalidation.{Invalidation}
use Rattle.cover_rules.specs.declared.page.PageKey.{PageKey}
use Rattle.page_index.specs.Held.{HeldNotes, IsBounded, bytes_kept, has_room, of_key, same_key, weight_of}
use Rattle.page_index.specs.Limits.{most_young, most_young_bytes}
use Rattle.page_index.specs.declared.page_note.PageNote.{PageNote}
use Rattle.page_index.proofs.KeyLemmas.{key_is, key_itself}

abbrev pub Notes : Type 0
Notes = List (ℕ × PageNote)

abbrev pub found : Notes → ℕ → Option PageNote
found notes place = lookup (is_at (nat_cmp place)) notes

place_is : (place other : ℕ) → is_at (nat_cmp place) other ≡ true → place ≡ other
place_is place other same = tells_apart exact_unsigned place other same

at_itself : (place : ℕ) → is_at (nat_cmp place) place ≡ true
at_itself place = (eq_by_cmp_equiv nat_cmp_total).refl place

-- ---- a note that is put

pub put_here : (notes : Notes) (place : ℕ) (note : PageNote) → found notes place ≡ Some note → option_and_then (of_key note.key) (found notes place) ≡ Some note
put_here notes place note at = ap (option_and_then (of_key note.key)) at ∙ ap (λ (b : Bool). if b then Some note else None) (key_itself note.key)

-- ---- a note that is taken out

-- where a note is of one key it is of no other
of_one : (note : PageNote) (key other : PageKey) (b : Bool) → same_key note.key key ≡ b → IsSome (if b then Some note else None) → same_key key other ≡ false → of_key other note ≡ None
of_one note key other false is there apart = absurd (cc there)
of_one note key other true is there apart = ap (λ (b : Bool). if b then Some note else None) (ap (λ k. same_key k other) (key_is note.key key is) ∙ apart)

none_of_other : (o : Option PageNote) (key other : PageKey) → IsSome (option_and_then (of_key key) o) → same_key key other ≡ false → option_and_then (of_key other) o ≡ None
none_of_other None key other there apart = refl
none_of_other (Some note) key other there apart = of_one note key other (same_key note.key key) refl there apart

pub taken_others : (old new : Notes) (place : ℕ) (key : PageKey) → IsSome (option_and_then (of_key key) (found old place)) → ((at : ℕ) → found new at ≡ cond (is_at (nat_cmp place) at) None (found old at))
    → (at : ℕ) (other : PageKey) → same_key key other ≡ false → option_and_then (of_key other) (found new at) ≡ option_and_then (of_key other) (found old at)
taken_others old new place key there updates at other apart =
    let by = ap (option_and_then (of_key other)) (updates at) in
    ⊎_elim
    (λ (here : is_at (nat_cmp place) at ≡ true).
    by ∙ ap (λ b. option_and_then (of_key other) (cond b None (found old at))) here
    ∙ sym (none_of_other (found old at) key other (subst (λ p. IsSome (option_and_then (of_key key) (found old p))) (place_is place at here) there) apart))
    (λ (away : is_at (nat_cmp place) at ≡ false). by ∙ ap (λ b. option_and_then (of_key other) (cond b None (found old at))) away)
    (cases_Bool (is_at (nat_cmp place) at))

-- ---- notes that are forgotten

covers_none : (only gone : Bool) (b : Bool) → (gone || not only && (false && b)) ≡ gone
covers_none only true b = refl
covers_none true false b = refl
covers_none false false b = refl

pub covers_deleted : (level : ℕ) (inv : Invalidation) (key : PageKey) → covers level false inv key ≡ deletes inv key
covers_deleted level inv key = covers_none inv.only (deletes inv key) (is_under (parent_of (handle_of inv)) (stat_folder level key))

none_or_none : (b : Bool) (o : Option PageNote) → o ≡ None → cond b None o ≡ None
none_or_none true o e = refl
none_or_none false o e = e

stays_or_goes : (inv : Invalidation) (key : PageKey) (p : PageNote → Bool) → ((note : PageNote) → p note ≡ not (deletes inv note.key)) → (o : Option PageNote)
    → option_and_then (of_key key) (option_filter p o) ≡ cond (deletes inv key) None (option_and_then (of_key key) o)
stays_or_goes inv key p is None = sym (none_or_none (deletes inv key) None refl)
stays_or_goes inv key p is (Some note) = by (same_key note.key key) refl
  where
    one : (d : Bool) → deletes inv key ≡ d → p note ≡ not d → option_and_then (of_key key) (cond (p note) (Some note) None) ≡ cond d None (of_key key note)
    one true e gone = ap (λ b. option_and_then (of_key key) (cond b (Some note) None)) gone
    one false e left = ap (λ b. option_and_then (of_key key) (cond b (Some note) None)) left

    apart : (d t : Bool) → same_key note.key key ≡ false → option_and_then (of_key key) (cond t (Some note) None) ≡ cond d None (of_key key note)
    apart d t e = lost t ∙ sym (none_or_none d (of_key key note) none)
      where
        none : of_key key note ≡ None
        none = ap (λ (b : Bool). if b then Some note else None) e

        lost : (t : Bool) → option_and_then (of_key key) (cond t (Some note) None) ≡ None
        lost true = none
        lost false = refl

    by : (b : Bool) → same_key note.key key ≡ b → option_and_then (of_key key) (cond (p note) (Some note) None) ≡ cond (deletes inv key) None (of_key key note)
    by true e = one (deletes inv key) refl (is note ∙ ap (λ k. not (deletes inv k)) (key_is note.key key e))
    by false e = apart (deletes inv key) (p note) e

pub forgotten : (inv : Invalidation) (p : PageNote → Bool) → ((note : PageNote) → p note ≡ not (deletes inv note.key)) → (old new : Notes) → new ≡ filter (λ e. p e.1) old → IsDistinct (eq_by_cmp nat_cmp) (keys_of old)
    → (at : ℕ) (key : PageKey) → option_and_then (of_key key) (found new at) ≡ cond (deletes inv key) None (option_and_then (of_key key) (found old at))
forgotten inv p is old new filtered distinct at key =
    ap (λ notes. option_and_then (of_key key) (found notes at)) filtered
    ∙ ap (option_and_then (of_key key)) (lookup-filter-values (eq_by_cmp_equiv nat_cmp_total) p at old distinct)
    ∙ stays_or_goes inv key p is (found old at)

-- ---- how much a generation holds

total-cons : (e : ℕ × PageNote) (notes : Notes) → sum_by weight_of (values_of (e ∷ notes)) ≡ weight_of e.1 + sum_by weight_of (values_of notes)
total-cons e notes = sum_by-cons weight_of e.1 (values_of notes)

pub lighter_without : (test : ℕ → Bool) (notes : Notes) → bytes_kept (remove_entry test notes) ≤ bytes_kept notes
lighter_without test notes = (let e = sum_by-remove_entry weight_of test notes in omega (arith, e))

pub lighter_filtered : (p : ℕ × PageNote → Bool) (notes : Notes) → bytes_kept (filter p notes) ≤ bytes_kept notes
lighter_filtered p [] = omega arith
lighter_filtered p (e ∷ notes) = by (p e) (lighter_filtered p notes)
  where
    by : (b : Bool) → bytes_kept (filter p notes) ≤ bytes_kept notes → bytes_kept (cond b (e ∷ filter p notes) (filter p notes)) ≤ bytes_kept (e ∷ notes)
    by true later = (let l = total-cons e (filter p notes) in let r = total-cons e notes in omega (arith, l, r, later))
    by false later = (let r = total-cons e notes in omega (arith, r, later))

pub heavier_with : (notes : Notes) (place : ℕ) (note : PageNote) → bytes_kept (insert_entry nat_cmp notes place note) ≤ bytes_kept notes + weight_of note
heavier_with [] place note = (let l = total-cons (place, note) [] in omega (arith, l))
heavier_with (e ∷ notes) place note = by (nat_cmp place e.0) (heavier_with notes place note)
  where
    by : (r : Ordering) → bytes_kept (insert_entry nat_cmp notes place note) ≤ bytes_kept notes + weight_of note
        → bytes_kept (match_ordering r ((place, note) ∷ e ∷ notes) ((e.0, note) ∷ notes) (e ∷ insert_entry nat_cmp notes place note)) ≤ bytes_kept (e ∷ notes) + weight_of note
    by Less later = (let l = total-cons (place, note) (e ∷ notes) in omega (arith, l))
    by Equal later = (let l = total-cons (e.0, note) notes in let r = total-cons e notes in omega (arith, l, r))
    by Greater later = (let l = total-cons e (insert_entry nat_cmp notes place note) in let r = total-cons e notes in omega (arith, l, r, later))

pub bounded_fewer : (old new : Notes) (bytes : ℕ) → IsBounded (record { notes = old; bytes = bytes }) → length new ≤ length old → bytes_kept new ≤ bytes_kept old → IsBounded (record { notes = new; bytes = bytes })
bounded_fewer old new bytes bound shorter lighter = record {
  few = (let f = bound.few in omega (arith, f, shorter));
  kept = (let k = bound.kept in omega (arith, k, lighter));
  small = bound.small;
}

pub no_longer : (m n : ℕ) (t : Bool) → m + (if t then 1 else 0) ≡ n → m ≤ n
no_longer m n true e = omega (arith, e)
no_longer m n false e = omega (arith, e)

one_longer : (m n : ℕ) (t : Bool) → m ≡ n + (if t then 0 else 1) → m ≤ n + 1
one_longer m n true e = omega (arith, e)
one_longer m n false e = omega (arith, e)

pub bounded_more : (old new : Notes) (bytes more : ℕ) (t : Bool) → IsBounded (record { notes = old; bytes = bytes }) → has_room (record { notes = old; bytes = bytes }) more ≡ true
    → length new ≡ length old + (if t then 0 else 1) → bytes_kept new ≤ bytes_kept old + more → IsBounded (record { notes = new; bytes = bytes + more })
bounded_more old new bytes more t bound room longer heavier =
    let parts = and_parts (nat_lt (length old) most_young) (nat_le (bytes + more) most_young_bytes) room in
    let few : length old < most_young = ltb-true (length old) most_young parts.0 in
    let small : bytes + more ≤ most_young_bytes = leb-true (bytes + more) most_young_bytes parts.1 in
    let long = one_longer (length new) (length old) t longer in
    record {
      few = omega (arith, few, long);
      kept = (let k = bound.kept in omega (arith, k, heavier));
      small = small;
    }

-- where a generation has no room, neither has one with more notes, for more bytes
pub no_room : (old mid : HeldNotes) (less more : ℕ) → length mid.notes ≤ length old.notes → mid.bytes ≡ old.bytes → less ≤ more → has_room mid less ≡ false → has_room old more ≡ false
no_room old mid less more fewer same le full = false_from_ne_true (has_room old more)
    (λ room.
    let parts = and_parts (nat_lt (length old.notes) most_young) (nat_le (old.bytes + more) most_young_bytes) room in
    let few : length old.notes < most_young = ltb-true (length old.notes) most_young parts.0 in
    let small : old.bytes + more ≤ most_young_bytes = leb-true (old.bytes + more) most_young_bytes parts.1 in
    let there : has_room mid less ≡ true = ap (λ b. b && nat_le (mid.bytes + less) most_young_bytes) (lt-ltb (length mid.notes) most_young (omega (arith, few, fewer))) ∙ le-leb (mid.bytes + less) most_young_bytes (omega (arith, small, same, le)) in
    true≢false (sym there ∙ full))

-- ---- places

pub this_place : (place at : ℕ) → (at ≡ place) ⊎ (at ≢ place)
this_place place at = ⊎_elim
    (λ (here : is_at (nat_cmp place) at ≡ true). inl (sym (place_is place at here)))
    (λ (away : is_at (nat_cmp place) at ≡ false). inr (λ is. true≢false (sym (at_itself place) ∙ ap (λ p. is_at (nat_cmp place) p) (sym is) ∙ away)))
    (cases_Bool (is_at (nat_cmp place) at))

at_away : (place at : ℕ) → at ≢ place → is_at (nat_cmp place) at ≡ false
at_away place at away = false_from_ne_true (is_at (nat_cmp place) at) (λ here. away (sym (place_is place at here)))

-- what stands at other places is found as before, and what a place holds is what was put or nothing
pub beside_place : (old new : Notes) (place : ℕ) (w : Option PageNote) → ((at : ℕ) → found new at ≡ cond (is_at (nat_cmp place) at) w (found old at)) → (at : ℕ) (other : PageKey) → at ≢ place
    → option_and_then (of_key other) (found new at) ≡ option_and_then (of_key other) (found old at)
beside_place old new place w updates at other away = ap (option_and_then (of_key other)) (updates at ∙ ap (λ b. cond b w (found old at)) (at_away place at away))

pub at_place : (old new : Notes) (place : ℕ) (w : Option PageNote) → ((at : ℕ) → found new at ≡ cond (is_at (nat_cmp place) at) w (found old at)) → found new place ≡ w
at_place old new place w updates = updates place ∙ ap (λ b. cond b w (found old place)) (at_itself place)

pub displaced : (notes : Notes) (place : ℕ) (note : PageNote) → found notes place ≡ Some note → (other : PageKey) → same_key note.key other ≡ false → option_and_then (of_key other) (found notes place) ≡ None
displaced notes place note at other apart = ap (option_and_then (of_key other)) at ∙ ap (λ (b : Bool). if b then Some note else None) apart

-- a note that is found for a key is of it
of_key_is : (key : PageKey) (note : PageNote) (b : Bool) → same_key note.key key ≡ b → IfSome (if b then Some note else None) (λ n. n.key ≡ key)
of_key_is key note true e = key_is note.key key e
of_key_is key note false e = tt

pub held_key : (key : PageKey) (o : Option PageNote) → IfSome (option_and_then (of_key key) o) (λ n. n.key ≡ key)
held_key key None = tt
held_key key (Some note) = of_key_is key note (same_key note.key key) refl

-- where a note is found for a key, what stands there is of that key
pub found_key : (key : PageKey) (o : Option PageNote) → IsSome (option_and_then (of_key key) o) → IfSome o (λ n. n.key ≡ key)
found_key key None there = tt
found_key key (Some note) there = by (same_key note.key key) refl there
  where
    by : (b : Bool) → same_key note.key key ≡ b → IsSome (if b then Some note else None) → note.key ≡ key
    by true e there = key_is note.key key e
    by false e there = absurd (cc there)
