-- Bytes that are given in several steps.
use Rattle.std.proofs.Common.{◌≡◌, ◌++◌, ◌∙◌, [], ℕ, List, Option, None, Some, refl, sym, ap, append-nil, append_assoc, take, drop, take-append-drop, subst, Result, Ok, Err, OnOk, OnErr}
use Rattle.sp_outside.specs.Told.{held_after}
use Rattle.sockets.specs.Given.{IsGiven, IsCutOff}

-- one who takes nothing tells the same
pub held_after-nil : (told : Option (List ℕ)) → held_after told [] ≡ told
held_after-nil None = refl
held_after-nil (Some held) = ap Some (append-nil held)

-- what is taken in two steps is taken
pub held_after-append : (told : Option (List ℕ)) (first second : List ℕ) → held_after (held_after told first) second ≡ held_after told (first ++ second)
held_after-append None first second = refl
held_after-append (Some held) first second = ap Some (append_assoc held first second)

-- nothing was given yet
pub given_nothing : (told : Option (List ℕ)) (due : List ℕ) → IsGiven told told due due
given_nothing told due = record { taken = []; told = sym (held_after-nil told); whole = refl }

-- what is given in two steps is given
pub given_more : (before now after : Option (List ℕ)) (due rest last : List ℕ) → IsGiven before now due rest → IsGiven now after rest last → IsGiven before after due last
given_more before now after due rest last first second = record {
  taken = first.taken ++ second.taken;
  told = second.told ∙ ap (λ t. held_after t second.taken) first.told ∙ held_after-append before first.taken second.taken;
  whole = first.whole ∙ ap (λ l. first.taken ++ l) second.whole ∙ sym (append_assoc first.taken second.taken last);
}

-- the first bytes of what is due are taken
pub given_front : (before after : Option (List ℕ)) (due : List ℕ) (n : ℕ) → after ≡ held_after before (take n due) → IsGiven before after due (drop n due)
given_front before after due n told = record { taken = take n due; told = told; whole = sym (take-append-drop n due) }

-- the front of two parts, of which the second is empty, is taken
pub given_step : (before now after : Option (List ℕ)) (due rest : List ℕ) (n : ℕ) → IsGiven before now due rest → after ≡ held_after now (take n (rest ++ []))
    → IsGiven before after due (drop n rest)
given_step before now after due rest n first told =
    given_more before now after due rest (drop n rest) first (given_front now after rest n (told ∙ ap (λ l. held_after now (take n l)) (append-nil rest)))

-- where nothing waits, the front of what comes is taken
pub given_at_once : (before after : Option (List ℕ)) (waiting due : List ℕ) (n : ℕ) → waiting ≡ [] → after ≡ held_after before (take n due)
    → IsGiven before after (waiting ++ due) (drop n due)
given_at_once before after waiting due n none told = subst (λ w. IsGiven before after (w ++ due) (drop n due)) (sym none) (given_front before after due n told)

-- and what is kept of it is given then
pub given_then_flushed : (before now after : Option (List ℕ)) (waiting due kept last : List ℕ) (n : ℕ) → waiting ≡ [] → now ≡ held_after before (take n due)
    → kept ≡ waiting ++ drop n due → IsGiven now after kept last → IsGiven before after (waiting ++ due) last
given_then_flushed before now after waiting due kept last n none told is_kept flushed =
    let front = is_kept ∙ ap (λ w. w ++ drop n due) none in
    given_more before now after (waiting ++ due) (drop n due) last (given_at_once before now waiting due n none told) (subst (λ k. IsGiven now after k last) front flushed)

-- one that gets nothing more was cut off
pub cut_off : (before after : Option (List ℕ)) (due rest : List ℕ) → IsGiven before after due rest → IsCutOff before after due
cut_off before after due rest given = record { rest = rest; given = given }

-- what holds anyway holds of each answer
pub on_any_err : {T E : Type 0} (r : Result T E) (P : Type 0) → P → OnErr r P
on_any_err (Ok v) P p = tt
on_any_err (Err e) P p = p

pub on_any_ok : {T E : Type 0} (r : Result T E) (P : Type 0) → P → OnOk r P
on_any_ok (Ok v) P p = p
on_any_ok (Err e) P p = tt
