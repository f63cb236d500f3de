-- Steps over the parts of a text.
use Rattle.std.proofs.Common.{◌≡◌, ◌≤◌, ◌+◌, ◌-◌, ℕ, Bool, true, false, cond, ◌&&◌, eqb, List, [], ◌∷◌, length, Some, None, refl, arith}
use Rattle.sp_base.proofs.ListLemmas.{cons_is_some}
use Rattle.htl_blocks.specs.Markup.{parts, parts_after, closes, waiting_after, opens, inside_len}
use Rattle.htl_blocks.specs.Attributes.{is_block_tag}
use Rattle.htl_blocks.specs.Reading.{text_run_len}

pub no_parts : (t : List ℕ) → (eqb (length t) 0) ≡ true → parts t ≡ []
unfolding parts_after
no_parts [] h = refl
no_parts (c ∷ t) h = absurd (let some = cons_is_some c t in cc)

pub run_none : (t : List ℕ) → (eqb (length t) 0) ≡ true → text_run_len (parts t) ≡ 0
unfolding text_run_len
run_none t h = rw (no_parts t h) refl

pub run_here : (t part later : List ℕ) → parts t ≡ part ∷ parts later → is_block_tag part ≡ true → text_run_len (parts t) ≡ 0
unfolding text_run_len
run_here t part later e h = rw (e, h) refl

pub run_more : (t part later : List ℕ) → parts t ≡ part ∷ parts later → is_block_tag part ≡ false → text_run_len (parts t) ≡ length part + text_run_len (parts later)
unfolding text_run_len
run_more t part later e h = rw (e, h) refl

pub inside_none : (name t : List ℕ) (waiting n : ℕ) → (eqb (length t) 0) ≡ true → inside_len name waiting n (parts t) ≡ None
unfolding inside_len
inside_none name t waiting n h = rw (no_parts t h) refl

pub inside_here : (name t part later : List ℕ) (waiting n : ℕ) → parts t ≡ part ∷ parts later → (eqb waiting 0 && closes name part) ≡ true → inside_len name waiting n (parts t) ≡ Some n
unfolding inside_len
inside_here name t part later waiting n e h = rw (e, h) refl

pub inside_more : (name t part later : List ℕ) (waiting n : ℕ) → parts t ≡ part ∷ parts later → (eqb waiting 0 && closes name part) ≡ false → inside_len name waiting n (parts t) ≡ inside_len name (waiting_after name waiting part) (n + length part) (parts later)
unfolding inside_len
inside_more name t part later waiting n e h = rw (e, h) refl

-- one more tag waits at most
pub waiting_less : (name part : List ℕ) (waiting : ℕ) → waiting_after name waiting part ≤ waiting + 1
waiting_less name part waiting = go (closes name part) (opens name part)
  where
    go : (a b : Bool) → cond a (waiting - 1) (cond b (waiting + 1) waiting) ≤ waiting + 1
    go true b = omega arith
    go false true = omega arith
    go false false = omega arith
