-- The last `@` of a name.
use Rattle.std.proofs.Common.{◌≡◌, ◌≢◌, ◌<◌, ◌-◌, ◌+◌, ℕ, zero, suc, Bool, true, false, not, ◌||◌, List, [], ◌∷◌, Option, Some, drop, length, get_or, refl, ap, ◌∙◌, arith}
use Rattle.std.specs.List.{list_any, suffix_len, slice_range}
use Rattle.std.proofs.lemmas.Bool.{or_right}
use Rattle.std.proofs.lemmas.Bool.Decides.{nat_tests}
use Rattle.std.proofs.lemmas.List.Sums.{suffix_len_is}
use Rattle.post_plan.specs.declared.suffix.Suffix.{Suffix}
use Rattle.post_plan.specs.declared.suffix.Suffix.TheVariants.{Plain}
use Rattle.post_plan.specs.Parameters.{is_at_sign, path_text, parameter_suffix, suffix_named}

differs : (b : ℕ) → b ≢ 64 → is_at_sign b ≡ false
differs b h = grind (arith, nat_tests)

equals : (b : ℕ) → b ≡ 64 → is_at_sign b ≡ true
equals b h = grind (arith, nat_tests)

none_at : (t : List ℕ) → ((i : ℕ) → i < length t → get_or t i 0 ≢ 64) → list_any is_at_sign t ≡ false
none_at [] h = refl
none_at (b ∷ t) h = ap (λ (x : Bool). x || list_any is_at_sign t) (differs b (h 0 (omega arith))) ∙ none_at t (λ i lt. h (suc i) (omega arith))

some_at : (t : List ℕ) (at : ℕ) → at < length t → get_or t at 0 ≡ 64 → list_any is_at_sign t ≡ true
some_at [] at lt e = absurd (omega (arith, lt))
some_at (b ∷ t) zero lt e = ap (λ (x : Bool). x || list_any is_at_sign t) (equals b e)
some_at (b ∷ t) (suc at) lt e = or_right (is_at_sign b) (list_any is_at_sign t) (some_at t at (omega (arith, lt)) e)

remainder : (t : List ℕ) (at : ℕ) → at < length t → get_or t at 0 ≡ 64 → ((i : ℕ) → at < i → i < length t → get_or t i 0 ≢ 64) → suffix_len (λ b. not (is_at_sign b)) t ≡ length t - (at + 1)
remainder t at lt e after =
    suffix_len_is (λ b. not (is_at_sign b)) t (at + 1) 0 (omega arith) (λ k from below. ap not (differs (get_or t k 0) (after k (omega arith) below)))
    (λ some. let here : at + 1 - 1 ≡ at = omega arith in ap not (ap (λ (n : ℕ). is_at_sign (get_or t n 0)) here ∙ equals (get_or t at 0) e))

pub path_at : (t : List ℕ) (at : ℕ) → at < length t → get_or t at 0 ≡ 64 → ((i : ℕ) → at < i → i < length t → get_or t i 0 ≢ 64) → slice_range t 0 at ≡ path_text t
path_at t at lt e after =
    let len : length t - (length t - (at + 1)) - 1 ≡ at - 0 = omega arith in
    rw (some_at t at lt e, remainder t at lt e after, len) refl

pub path_whole : (t : List ℕ) → ((i : ℕ) → i < length t → get_or t i 0 ≢ 64) → t ≡ path_text t
path_whole t none = rw (none_at t none) refl

pub suffix_at : (t : List ℕ) (at : ℕ) → at < length t → get_or t at 0 ≡ 64 → ((i : ℕ) → at < i → i < length t → get_or t i 0 ≢ 64) → suffix_named (drop (at + 1) t) ≡ parameter_suffix t
suffix_at t at lt e after =
    let len : length t - (length t - (at + 1)) ≡ at + 1 = omega arith in
    rw (some_at t at lt e, remainder t at lt e after, len) refl

abbrev plain : Option Suffix
plain = Some Plain

pub suffix_none : (t : List ℕ) → ((i : ℕ) → i < length t → get_or t i 0 ≢ 64) → plain ≡ parameter_suffix t
suffix_none t none = rw (none_at t none) refl
