-- The last colon of a text.
use Rattle.std.proofs.Common.{◌≡◌, ◌≢◌, ◌<◌, ◌-◌, ◌+◌, ℕ, zero, suc, Bool, true, false, cond, ◌==◌, List, [], ◌∷◌, take, drop, length, get_or, Some, None, refl, ap, ◌∙◌, arith}
use Rattle.std.proofs.lemmas.Bool.Decides.{nat_tests}
use Rattle.std.specs.List.{slice_range}
use Rattle.any_config.specs.Farms.{at_last_colon, cut_again}

differs : (c : ℕ) → c ≢ 58 → (c == 58) ≡ false
differs c h = grind (arith, nat_tests)

equals : (c : ℕ) → c ≡ 58 → (c == 58) ≡ true
equals c h = grind (arith, nat_tests)

pub no_colon : (t : List ℕ) → ((i : ℕ) → i < length t → get_or t i 0 ≢ 58) → at_last_colon t ≡ None
no_colon [] h = refl
no_colon (c ∷ t) h =
    ap (cut_again c t) (no_colon t (λ i lt. h (suc i) (omega arith)))
    ∙ ap (λ (b : Bool). cond b (Some ([], t)) None) (differs c (h 0 (omega arith)))

pub last_colon : (t : List ℕ) (k : ℕ) → k < length t → get_or t k 0 ≡ 58 → ((i : ℕ) → k < i → i < length t → get_or t i 0 ≢ 58) → at_last_colon t ≡ Some (take k t, drop (suc k) t)
last_colon [] k lt e h = absurd (omega arith)
last_colon (c ∷ t) zero lt e h =
    ap (cut_again c t) (no_colon t (λ i l. h (suc i) (omega arith) (omega arith)))
    ∙ ap (λ (b : Bool). cond b (Some ([], t)) None) (equals c e)
last_colon (c ∷ t) (suc k) lt e h = ap (cut_again c t) (last_colon t k (omega arith) e (λ i l m. h (suc i) (omega arith) (omega arith)))

pub prefix_is : (k : ℕ) (t : List ℕ) → slice_range t 0 k ≡ take k t
prefix_is k t = let z : k - 0 ≡ k = omega arith in ap (λ (n : ℕ). take n t) z

pub back_is : (k : ℕ) (t : List ℕ) → drop (k + 1) t ≡ drop (suc k) t
back_is k t = let n : k + 1 ≡ suc k = omega arith in ap (λ (m : ℕ). drop m t) n
