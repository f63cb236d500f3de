-- What stands before a place of a target, its last slash, and which bytes are a text.
use Rattle.std.proofs.Common.{◌≡◌, ◌≢◌, ◌<◌, ◌+◌, ◌-◌, ◌++◌, ℕ, Bool, true, false, cond, List, [], ◌∷◌, Some, None, length, length-append, take, get_or, position, sym, ◌∙◌, ap, refl, arith}
use Rattle.std.proofs.lemmas.Bool.{ltb-false, false_from_ne_true as not_true}
use Rattle.std.proofs.lemmas.Bool.Decides.{nat_tests}
use Rattle.std.proofs.lemmas.List.{take_all, take_more}
use Rattle.std.proofs.lemmas.Str.{IsUtf8-from_is_utf8, is_utf8-from_IsUtf8}
use Rattle.std.specs.List.{position_or_len, before_first}
use Rattle.std.specs.Str.{IsUtf8, is_utf8}
use Rattle.http_front.specs.Targets.{utf8_text, ends_in_slash, without_slash}

first_is : (b : Bool) (n at : ℕ) → Some at ≡ cond b (Some n) None → at ≡ n
first_is true n at e = cc
first_is false n at e = absurd cc

no_first : (b : Bool) (n : ℕ) → None ≡ cond b (Some n) None → b ≡ false
no_first true n e = absurd cc
no_first false n e = refl

-- what stands before the first place is the list up to it
pub before_place : (p : ℕ → Bool) (xs : List ℕ) (at : ℕ) → Some at ≡ position p xs → take at xs ≡ before_first p xs
before_place p xs at e = ap (λ n. take n xs) (first_is _ (position_or_len p xs) at e)

-- where no place is, it is the whole list
pub before_none : (p : ℕ → Bool) (xs : List ℕ) → None ≡ position p xs → xs ≡ before_first p xs
before_none p xs e =
    let n = position_or_len p xs in
    sym (take_all n xs (ltb-false n (length xs) (no_first _ n e)))

-- a text that ends in a slash is what stands before it, and the slash
ends_after : (text : List ℕ) → ends_in_slash text ≡ true → text ≡ take (length text - 1) text ++ 47 ∷ []
ends_after text e =
    let n = length text - 1 in
    let long : 1 < length text = grind (arith, nat_tests) in
    let last : get_or text n 0 ≡ 47 = grind (arith, nat_tests) in
    let whole : length text ≡ n + 1 = omega (arith, long) in
    sym (take_all (length text) text (omega arith)) ∙ ap (λ k. take k text) whole ∙ take_more text n 0 (omega (arith, long))
    ∙ ap (λ b. take n text ++ b ∷ []) last

-- a text that isn't one with a slash after it doesn't end in one
pub ends_otherwise : (text : List ℕ) → ((leading : List ℕ) → text ≢ leading ++ 47 ∷ []) → ends_in_slash text ≡ false
ends_otherwise text other = not_true (ends_in_slash text) (λ e. other (take (length text - 1) text) (ends_after text e))

-- the slash alone is the root, whose slash stays
pub slash_alone : (text leading : List ℕ) → text ≡ leading ++ 47 ∷ [] → length leading ≡ 0 → ends_in_slash text ≡ false
slash_alone text leading e none =
    let one : length text ≡ 1 = ap length e ∙ length-append leading (47 ∷ []) ∙ omega (arith, none) in
    not_true (ends_in_slash text) (λ h. let long : 1 < length text = grind (arith, nat_tests) in omega (arith, one, long))

pub stays : (text : List ℕ) → ends_in_slash text ≡ false → text ≡ without_slash text
stays text e = ap (λ b. cond b (take (length text - 1) text) text) (sym e)

pub is_text : (bytes : List ℕ) → IsUtf8 bytes → Some bytes ≡ utf8_text bytes
is_text bytes h = ap (λ b. cond b (Some bytes) None) (sym (is_utf8-from_IsUtf8 bytes h))

pub is_no_text : (bytes : List ℕ) → (IsUtf8 bytes → ⊥) → None ≡ utf8_text bytes
is_no_text bytes other = ap (λ b. cond b (Some bytes) None) (sym (not_true (is_utf8 bytes) (λ e. other (IsUtf8-from_is_utf8 bytes e))))
