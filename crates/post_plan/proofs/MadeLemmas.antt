-- A made name by the runs of its word, and which bytes it has.
use Rattle.std.proofs.Common.{◌≡◌, ◌≤◌, ℕ, zero, suc, Bool, true, false, cond, not, ◌&&◌, eqb, List, [], ◌∷◌, ◌++◌, take, length, map, refl, ap, sym, ◌∙◌, arith, length-take}
use Rattle.std.specs.Prelude.{nat_lt}
use Rattle.std.proofs.lemmas.Bool.{and_parts, and_from, not-true, ne_eqb}
use Rattle.std.proofs.lemmas.Bool.Decides.{nat_tests}
use Rattle.std.specs.Char.{is_ascii_alphanumeric, to_ascii_lowercase}
use Rattle.std.specs.List.{list_all, flat_map}
use Rattle.sp_base.proofs.NatLemmas.{zero_below_suc}
use Rattle.post_plan.specs.NewNames.{name_bytes, or_node, made_name, longest_made}
use Rattle.post_plan.specs.MadeNames.{NameRun, bytes_of_run, run_name, is_run, is_other_byte, are_apart, alternate, AreRunsOf, HasRuns, is_made_byte, HasTwoUnderscores}

-- ---- runs

kept_read : (bs t : List ℕ) → list_all is_ascii_alphanumeric bs ≡ true → name_bytes false (bs ++ t) ≡ map to_ascii_lowercase bs ++ name_bytes false t
unfolding name_bytes
kept_read [] t e = refl
kept_read (b ∷ bs) t e =
    let both = and_parts (is_ascii_alphanumeric b) (list_all is_ascii_alphanumeric bs) e in
    rw both.0 (ap (λ (s : List ℕ). to_ascii_lowercase b ∷ s) (kept_read bs t both.1))

kept_begins : (run : Bool) (bs t : List ℕ) → is_run (NameRun.Kept bs) ≡ true → name_bytes run (bs ++ t) ≡ map to_ascii_lowercase bs ++ name_bytes false t
unfolding name_bytes
kept_begins run [] t e = absurd cc
kept_begins run (b ∷ bs) t e =
    let both = and_parts (is_ascii_alphanumeric b) (list_all is_ascii_alphanumeric bs) (and_parts (nat_lt 0 (length (b ∷ bs))) (list_all is_ascii_alphanumeric (b ∷ bs)) e).1 in
    go run both.0 (kept_read bs t both.1)
  where
    go : (run : Bool) → is_ascii_alphanumeric b ≡ true → name_bytes false (bs ++ t) ≡ map to_ascii_lowercase bs ++ name_bytes false t → name_bytes run (b ∷ (bs ++ t)) ≡ to_ascii_lowercase b ∷ (map to_ascii_lowercase bs ++ name_bytes false t)
    go true is ih = rw is (ap (λ (s : List ℕ). to_ascii_lowercase b ∷ s) ih)
    go false is ih = rw is (ap (λ (s : List ℕ). to_ascii_lowercase b ∷ s) ih)

other_read : (bs t : List ℕ) → list_all is_other_byte bs ≡ true → name_bytes true (bs ++ t) ≡ name_bytes true t
unfolding name_bytes
other_read [] t e = refl
other_read (b ∷ bs) t e =
    let both = and_parts (is_other_byte b) (list_all is_other_byte bs) e in
    rw (not-true (is_ascii_alphanumeric b) both.0) (other_read bs t both.1)

other_begins : (bs t : List ℕ) → is_run (NameRun.Other bs) ≡ true → name_bytes false (bs ++ t) ≡ 95 ∷ name_bytes true t
unfolding name_bytes
other_begins [] t e = absurd cc
other_begins (b ∷ bs) t e =
    let both = and_parts (is_other_byte b) (list_all is_other_byte bs) (and_parts (nat_lt 0 (length (b ∷ bs))) (list_all is_other_byte (b ∷ bs)) e).1 in
    rw (not-true (is_ascii_alphanumeric b) both.0) (ap (λ (s : List ℕ). 95 ∷ s) (other_read bs t both.1))

-- a run of other bytes doesn't go on with another
abbrev goes_on : Bool → List NameRun → Bool
goes_on run [] = true
goes_on run (NameRun.Kept bytes ∷ runs) = true
goes_on run (NameRun.Other bytes ∷ runs) = not run

after_other : (bs : List ℕ) (runs : List NameRun) → alternate (NameRun.Other bs ∷ runs) ≡ true → goes_on true runs ≡ true
after_other bs [] e = refl
after_other bs (NameRun.Kept cs ∷ runs) e = refl
after_other bs (NameRun.Other cs ∷ runs) e = absurd cc

after_kept : (runs : List NameRun) → goes_on false runs ≡ true
after_kept [] = refl
after_kept (NameRun.Kept cs ∷ runs) = refl
after_kept (NameRun.Other cs ∷ runs) = refl

later_alternate : (run : NameRun) (runs : List NameRun) → alternate (run ∷ runs) ≡ true → alternate runs ≡ true
later_alternate run [] e = refl
later_alternate run (next ∷ more) e = (and_parts (are_apart run next) (alternate (next ∷ more)) e).1

runs_read : (run : Bool) (runs : List NameRun) → list_all is_run runs ≡ true → alternate runs ≡ true → goes_on run runs ≡ true → name_bytes run (flat_map bytes_of_run runs) ≡ flat_map run_name runs
unfolding name_bytes
runs_read true [] e apart on = refl
runs_read false [] e apart on = refl
runs_read run (NameRun.Kept bs ∷ runs) e apart on =
    let both = and_parts (is_run (NameRun.Kept bs)) (list_all is_run runs) e in
    kept_begins run bs (flat_map bytes_of_run runs) both.0 ∙ ap (λ (s : List ℕ). map to_ascii_lowercase bs ++ s) (runs_read false runs both.1 (later_alternate (NameRun.Kept bs) runs apart) (after_kept runs))
runs_read true (NameRun.Other bs ∷ runs) e apart on = absurd cc
runs_read false (NameRun.Other bs ∷ runs) e apart on =
    let both = and_parts (is_run (NameRun.Other bs)) (list_all is_run runs) e in
    other_begins bs (flat_map bytes_of_run runs) both.0 ∙ ap (λ (s : List ℕ). 95 ∷ s) (runs_read true runs both.1 (later_alternate (NameRun.Other bs) runs apart) (after_other bs runs apart))

pub name_of_runs : (word : List ℕ) (runs : List NameRun) → AreRunsOf word runs → made_name word ≡ or_node (take longest_made (flat_map run_name runs))
name_of_runs word runs are =
    ap (λ (name : List ℕ). or_node (take longest_made name)) (ap (name_bytes false) (sym are.spells) ∙ runs_read false runs are.each are.apart (after_kept runs))

one_kept : (b : ℕ) → is_ascii_alphanumeric b ≡ true → is_run (NameRun.Kept (b ∷ [])) ≡ true
one_kept b is = rw is refl

one_other : (b : ℕ) → is_ascii_alphanumeric b ≡ false → is_run (NameRun.Other (b ∷ [])) ≡ true
one_other b is = rw is refl

more_kept : (b : ℕ) (bs : List ℕ) → is_ascii_alphanumeric b ≡ true → is_run (NameRun.Kept bs) ≡ true → is_run (NameRun.Kept (b ∷ bs)) ≡ true
more_kept b bs is e = and_from (nat_lt 0 (suc (length bs))) (list_all is_ascii_alphanumeric (b ∷ bs)) (zero_below_suc (length bs)) (rw is (and_parts (nat_lt 0 (length bs)) (list_all is_ascii_alphanumeric bs) e).1)

more_other : (b : ℕ) (bs : List ℕ) → is_ascii_alphanumeric b ≡ false → is_run (NameRun.Other bs) ≡ true → is_run (NameRun.Other (b ∷ bs)) ≡ true
more_other b bs is e = and_from (nat_lt 0 (suc (length bs))) (list_all is_other_byte (b ∷ bs)) (zero_below_suc (length bs)) (rw is (and_parts (nat_lt 0 (length bs)) (list_all is_other_byte bs) e).1)

-- one more byte before the runs
with_byte : (b : ℕ) (word : List ℕ) (runs : List NameRun) → AreRunsOf word runs → HasRuns (b ∷ word)
with_byte b word runs are = go (is_ascii_alphanumeric b) refl runs are.spells are.each are.apart
  where
    spelled : (runs : List NameRun) → flat_map bytes_of_run runs ≡ word → b ∷ flat_map bytes_of_run runs ≡ b ∷ word
    spelled runs e = ap (λ (s : List ℕ). b ∷ s) e

    go : (x : Bool) → is_ascii_alphanumeric b ≡ x → (runs : List NameRun) → flat_map bytes_of_run runs ≡ word → list_all is_run runs ≡ true → alternate runs ≡ true → HasRuns (b ∷ word)
    go true is [] e each apart = (NameRun.Kept (b ∷ []) ∷ [], record { spells = spelled [] e; each = and_from (is_run (NameRun.Kept (b ∷ []))) true (one_kept b is) refl; apart = refl })
    go false is [] e each apart = (NameRun.Other (b ∷ []) ∷ [], record { spells = spelled [] e; each = and_from (is_run (NameRun.Other (b ∷ []))) true (one_other b is) refl; apart = refl })
    go true is (NameRun.Kept bs ∷ []) e each apart =
        let both = and_parts (is_run (NameRun.Kept bs)) true each in
        (NameRun.Kept (b ∷ bs) ∷ [], record { spells = spelled (NameRun.Kept bs ∷ []) e; each = and_from (is_run (NameRun.Kept (b ∷ bs))) true (more_kept b bs is both.0) refl; apart = refl })
    go true is (NameRun.Kept bs ∷ next ∷ runs) e each apart =
        let both = and_parts (is_run (NameRun.Kept bs)) (list_all is_run (next ∷ runs)) each in
        (NameRun.Kept (b ∷ bs) ∷ next ∷ runs, record { spells = spelled (NameRun.Kept bs ∷ next ∷ runs) e; each = and_from (is_run (NameRun.Kept (b ∷ bs))) (list_all is_run (next ∷ runs)) (more_kept b bs is both.0) both.1; apart = still bs next runs apart })
      where
        still : (bs : List ℕ) (next : NameRun) (runs : List NameRun) → alternate (NameRun.Kept bs ∷ next ∷ runs) ≡ true → alternate (NameRun.Kept (b ∷ bs) ∷ next ∷ runs) ≡ true
        still bs (NameRun.Kept cs) runs apart = absurd cc
        still bs (NameRun.Other cs) runs apart = apart
    go true is (NameRun.Other bs ∷ runs) e each apart = (NameRun.Kept (b ∷ []) ∷ NameRun.Other bs ∷ runs, record { spells = spelled (NameRun.Other bs ∷ runs) e; each = and_from (is_run (NameRun.Kept (b ∷ []))) (list_all is_run (NameRun.Other bs ∷ runs)) (one_kept b is) each; apart = apart })
    go false is (NameRun.Other bs ∷ []) e each apart =
        let both = and_parts (is_run (NameRun.Other bs)) true each in
        (NameRun.Other (b ∷ bs) ∷ [], record { spells = spelled (NameRun.Other bs ∷ []) e; each = and_from (is_run (NameRun.Other (b ∷ bs))) true (more_other b bs is both.0) refl; apart = refl })
    go false is (NameRun.Other bs ∷ next ∷ runs) e each apart =
        let both = and_parts (is_run (NameRun.Other bs)) (list_all is_run (next ∷ runs)) each in
        (NameRun.Other (b ∷ bs) ∷ next ∷ runs, record { spells = spelled (NameRun.Other bs ∷ next ∷ runs) e; each = and_from (is_run (NameRun.Other (b ∷ bs))) (list_all is_run (next ∷ runs)) (more_other b bs is both.0) both.1; apart = still bs next runs apart })
      where
        still : (bs : List ℕ) (next : NameRun) (runs : List NameRun) → alternate (NameRun.Other bs ∷ next ∷ runs) ≡ true → alternate (NameRun.Other (b ∷ bs) ∷ next ∷ runs) ≡ true
        still bs (NameRun.Other cs) runs apart = absurd cc
        still bs (NameRun.Kept cs) runs apart = apart
    go false is (NameRun.Kept bs ∷ runs) e each apart = (NameRun.Other (b ∷ []) ∷ NameRun.Kept bs ∷ runs, record { spells = spelled (NameRun.Kept bs ∷ runs) e; each = and_from (is_run (NameRun.Other (b ∷ []))) (list_all is_run (NameRun.Kept bs ∷ runs)) (one_other b is) each; apart = apart })

pub has_runs : (word : List ℕ) → HasRuns word
has_runs [] = ([], record { spells = refl; each = refl; apart = refl })
has_runs (b ∷ word) = let of = has_runs word in with_byte b word of.0 of.1

-- ---- bytes

lower_is_made : (b : ℕ) → is_ascii_alphanumeric b ≡ true → is_made_byte (to_ascii_lowercase b) ≡ true
lower_is_made b e = grind (arith, nat_tests)

lower_is_no_mark : (b : ℕ) → is_ascii_alphanumeric b ≡ true → eqb (to_ascii_lowercase b) 95 ≡ false
lower_is_no_mark b e = grind (arith, nat_tests)

bytes_made : (run : Bool) (word : List ℕ) → list_all is_made_byte (name_bytes run word) ≡ true
unfolding name_bytes
bytes_made true [] = refl
bytes_made false [] = refl
bytes_made run (b ∷ word) = go run (is_ascii_alphanumeric b) refl (bytes_made false word) (bytes_made true word)
  where
    go : (run x : Bool) → is_ascii_alphanumeric b ≡ x → list_all is_made_byte (name_bytes false word) ≡ true → list_all is_made_byte (name_bytes true word) ≡ true
        → list_all is_made_byte (cond x (to_ascii_lowercase b ∷ name_bytes false word) (cond run (name_bytes true word) (95 ∷ name_bytes true word))) ≡ true
    go run true is kept other = rw (lower_is_made b is) kept
    go true false is kept other = other
    go false false is kept other = other

take_all_made : (n : ℕ) (name : List ℕ) → list_all is_made_byte name ≡ true → list_all is_made_byte (take n name) ≡ true
take_all_made zero name e = refl
take_all_made (suc n) [] e = refl
take_all_made (suc n) (b ∷ name) e =
    let both = and_parts (is_made_byte b) (list_all is_made_byte name) e in
    and_from (is_made_byte b) (list_all is_made_byte (take n name)) both.0 (take_all_made n name both.1)

full : (b : ℕ) (name : List ℕ) → or_node (b ∷ name) ≡ b ∷ name
full b name =
    let some : eqb (suc (length name)) 0 ≡ false = ne_eqb (suc (length name)) 0 (λ e. omega (arith, e)) in
    rw some refl

or_node_made : (name : List ℕ) → list_all is_made_byte name ≡ true → list_all is_made_byte (or_node name) ≡ true
or_node_made [] e = refl
or_node_made (b ∷ name) e = ap (list_all is_made_byte) (full b name) ∙ e

pub made_of_bytes : (word : List ℕ) → list_all is_made_byte (made_name word) ≡ true
made_of_bytes word = or_node_made (take longest_made (name_bytes false word)) (take_all_made longest_made (name_bytes false word) (bytes_made false word))

or_node_size : (name : List ℕ) → length name ≤ 20 → (1 ≤ length (or_node name)) × (length (or_node name) ≤ 20)
or_node_size [] few = (omega arith, omega arith)
or_node_size (b ∷ name) few = let e = ap length (full b name) in (omega (arith, e), omega (arith, e, few))

pub made_size : (word : List ℕ) → (1 ≤ length (made_name word)) × (length (made_name word) ≤ longest_made)
made_size word = or_node_size (take longest_made (name_bytes false word)) (let e = length-take longest_made (name_bytes false word) in rw e (omega arith))

-- no `_` after another, the first neither where a run goes on
abbrev single : Bool → List ℕ → Bool
single run [] = true
single run (b ∷ name) = not (run && eqb b 95) && single (eqb b 95) name

single_read : (run : Bool) (word : List ℕ) → single run (name_bytes run word) ≡ true
unfolding name_bytes
single_read true [] = refl
single_read false [] = refl
single_read run (b ∷ word) = go run (is_ascii_alphanumeric b) refl (single_read false word) (single_read true word)
  where
    unmarked : (run : Bool) → not (run && false) ≡ true
    unmarked true = refl
    unmarked false = refl

    go : (run x : Bool) → is_ascii_alphanumeric b ≡ x → single false (name_bytes false word) ≡ true → single true (name_bytes true word) ≡ true
        → single run (cond x (to_ascii_lowercase b ∷ name_bytes false word) (cond run (name_bytes true word) (95 ∷ name_bytes true word))) ≡ true
    go run true is kept other = rw (lower_is_no_mark b is) (and_from (not (run && false)) (single false (name_bytes false word)) (unmarked run) kept)
    go true false is kept other = other
    go false false is kept other = other

single_take : (run : Bool) (n : ℕ) (name : List ℕ) → single run name ≡ true → single run (take n name) ≡ true
single_take run zero name e = refl
single_take run (suc n) [] e = refl
single_take run (suc n) (b ∷ name) e =
    let both = and_parts (not (run && eqb b 95)) (single (eqb b 95) name) e in
    and_from (not (run && eqb b 95)) (single (eqb b 95) (take n name)) both.0 (single_take (eqb b 95) n name both.1)

or_node_single : (name : List ℕ) → single false name ≡ true → single false (or_node name) ≡ true
or_node_single [] e = refl
or_node_single (b ∷ name) e = ap (single false) (full b name) ∙ e

two_marks : (run : Bool) (before after : List ℕ) → single run (before ++ 95 ∷ 95 ∷ after) ≡ true → ⊥
two_marks true [] after e = absurd cc
two_marks false [] after e = absurd cc
two_marks run (b ∷ before) after e = two_marks (eqb b 95) before after (and_parts (not (run && eqb b 95)) (single (eqb b 95) (before ++ 95 ∷ 95 ∷ after)) e).1

pub made_single : (word : List ℕ) → HasTwoUnderscores (made_name word) → ⊥
made_single word two =
    let e = or_node_single (take longest_made (name_bytes false word)) (single_take false longest_made (name_bytes false word) (single_read false word)) in
    two_marks false two.before two.after (sym (ap (single false) two.is) ∙ e)
