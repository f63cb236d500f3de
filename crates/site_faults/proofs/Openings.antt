-- Where an expression opens.
use Rattle.std.proofs.Common.{◌≡◌, ◌<◌, ◌+◌, ◌-◌, ◌&&◌, ℕ, Bool, true, false, List, [], ◌∷◌, length, nat_eq, nat_le, get_or, drop, refl, sym, ◌∙◌, subst, arith}
use Rattle.std.specs.Prelude.{codes}
use Rattle.std.specs.List.{starts_with}
use Rattle.std.specs.Str.{IsCharBoundary, IsUtf8}
use Rattle.std.proofs.lemmas.Bool.{false≢true}
use Rattle.std.proofs.lemmas.Bool.Decides.{nat_tests}
use Rattle.std.proofs.lemmas.List.{get_or-drop, length-drop}
use Rattle.std.proofs.lemmas.Str.{IsCharBoundary-after_ascii}
use Rattle.sp_base.proofs.BoolLemmas.{and_second}
use Rattle.site_faults.specs.Scripts.{opens_at}

-- a text that begins with an opening has a brace behind its first byte
brace_after : (s : List ℕ) → starts_with nat_eq s (codes "${") ≡ true → (1 < length s) × (get_or s 1 0 ≡ 123)
brace_after [] e = absurd (false≢true e)
brace_after (a ∷ []) e = absurd (short (nat_eq 36 a) e)
  where
    short : (b : Bool) → (b && false) ≡ true → ⊥
    short true e = false≢true e
    short false e = false≢true e
brace_after (a ∷ b ∷ s) e = (omega arith, is_brace (nat_eq 36 a) (nat_eq 123 b) refl e)
  where
    is_brace : (x y : Bool) → nat_eq 123 b ≡ y → (x && (y && true)) ≡ true → b ≡ 123
    is_brace true true same e = grind (arith, nat_tests)
    is_brace true false same e = absurd (false≢true e)
    is_brace false y same e = absurd (false≢true e)

-- a text can be cut after the `${`
pub opening_boundary : (t : List ℕ) (position : ℕ) → IsUtf8 t → opens_at t position ≡ true → IsCharBoundary t (position + 2)
opening_boundary t position utf8 opens =
    let is = brace_after (drop position t) (and_second (nat_le position (length t)) (starts_with nat_eq (drop position t) (codes "${")) opens) in
    let left : length (drop position t) ≡ length t - position = length-drop position t in
    let brace : get_or t (position + 1) 0 ≡ 123 = sym (get_or-drop position t 1 0) ∙ is.1 in
    let within = is.0 in
    let here : IsCharBoundary t (position + 1 + 1) = IsCharBoundary-after_ascii t (position + 1) utf8 (omega (arith, within, left)) (omega (arith, brace)) in
    subst (IsCharBoundary t) (omega arith) here
