-- Blanks at the end of a text.
use Rattle.std.proofs.Common.{◌≡◌, ◌<◌, ◌≤◌, ◌-◌, ℕ, Bool, true, false, cond, ◌&&◌, eqb, List, [], ◌∷◌, ◌++◌, take, length, get_or, slice_index, refl, ap, sym, ◌∙◌, arith}
use Rattle.std.specs.Str.{IsCharBoundary}
use Rattle.sp_base.proofs.BoolLemmas.{and_first}
use Rattle.sp_base.proofs.ListLemmas.{last_apart, push_is_some}
use Rattle.htl_syntax.specs.Tokens.{is_blank}
use Rattle.htl_syntax.proofs.Scan.{blank_ascii}
use Rattle.htl_blocks.specs.Attributes.{end_trimmed, trimmed_len}

pub trimmed_within : (t : List ℕ) → length (end_trimmed t) ≤ length t
unfolding end_trimmed
trimmed_within [] = omega arith
trimmed_within (c ∷ t) = go (is_blank c && eqb (length (end_trimmed t)) 0) (trimmed_within t)
  where
    go : (b : Bool) → length (end_trimmed t) ≤ length t → length (cond b [] (c ∷ end_trimmed t)) ≤ length (c ∷ t)
    go true ih = omega arith
    go false ih = omega (arith, ih)

pub trimmed_take : (t : List ℕ) → take (length (end_trimmed t)) t ≡ end_trimmed t
unfolding end_trimmed
trimmed_take [] = refl
trimmed_take (c ∷ t) = go (is_blank c && eqb (length (end_trimmed t)) 0) (trimmed_take t)
  where
    go : (b : Bool) → take (length (end_trimmed t)) t ≡ end_trimmed t → take (length (cond b [] (c ∷ end_trimmed t))) (c ∷ t) ≡ cond b [] (c ∷ end_trimmed t)
    go true ih = refl
    go false ih = ap (λ (u : List ℕ). c ∷ u) ih

trimmed_there : (t : List ℕ) → length (end_trimmed t) < length t → slice_index t (length (end_trimmed t)) < 128
unfolding end_trimmed
trimmed_there [] lt = absurd (omega (arith, lt))
trimmed_there (c ∷ t) lt = go (is_blank c && eqb (length (end_trimmed t)) 0) refl lt (trimmed_there t)
  where
    go : (b : Bool) → (is_blank c && eqb (length (end_trimmed t)) 0) ≡ b → length (cond b [] (c ∷ end_trimmed t)) < length (c ∷ t) → (length (end_trimmed t) < length t → slice_index t (length (end_trimmed t)) < 128) → slice_index (c ∷ t) (length (cond b [] (c ∷ end_trimmed t))) < 128
    go true e l ih = blank_ascii c (and_first _ _ e)
    go false e l ih = ih (omega (arith, l))

-- a text may be cut before the blanks at its end
pub trimmed_boundary : (t : List ℕ) → IsCharBoundary t (trimmed_len t)
trimmed_boundary t = (trimmed_within t, λ lt big. let x = trimmed_there t lt in omega (arith, x, big))

-- a blank at the end is dropped
trimmed_blank : (t : List ℕ) (c : ℕ) → is_blank c ≡ true → end_trimmed (t ++ c ∷ []) ≡ end_trimmed t
unfolding end_trimmed
trimmed_blank [] c e = rw e refl
trimmed_blank (d ∷ t) c e = rw (trimmed_blank t c e) refl

-- a text that ends in another byte stays
trimmed_full : (t : List ℕ) (c : ℕ) → is_blank c ≡ false → end_trimmed (t ++ c ∷ []) ≡ t ++ c ∷ []
unfolding end_trimmed
trimmed_full [] c e = rw e refl
trimmed_full (d ∷ t) c e = rw (trimmed_full t c e, push_is_some t c) (go (is_blank d))
  where
    go : (x : Bool) → cond (x && false) [] (d ∷ (t ++ c ∷ [])) ≡ d ∷ (t ++ c ∷ [])
    go true = refl
    go false = refl

-- the last byte is no blank
pub ends_in_other : (rest text : List ℕ) → 1 ≤ length rest → is_blank (get_or rest (length rest - 1) 0) ≡ false → trimmed_len rest ≡ trimmed_len text → length rest ≡ trimmed_len text
ends_in_other rest text some word inv =
    let e = last_apart rest some in
    ap length (sym e ∙ sym (trimmed_full (take (length rest - 1) rest) (get_or rest (length rest - 1) 0) word) ∙ ap end_trimmed e) ∙ inv

-- the last byte is a blank
pub ends_in_blank : (rest text : List ℕ) → 1 ≤ length rest → is_blank (get_or rest (length rest - 1) 0) ≡ true → trimmed_len rest ≡ trimmed_len text → trimmed_len (take (length rest - 1) rest) ≡ trimmed_len text
ends_in_blank rest text some blank inv =
    ap length (sym (trimmed_blank (take (length rest - 1) rest) (get_or rest (length rest - 1) 0) blank) ∙ ap end_trimmed (last_apart rest some)) ∙ inv
