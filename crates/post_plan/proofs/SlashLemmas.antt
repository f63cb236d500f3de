-- The slash at the end of a goal.
use Rattle.std.proofs.Common.{◌≡◌, ◌≢◌, ◌-◌, ℕ, Bool, false, cond, List, [], ◌∷◌, ◌++◌, take, length, codes, nat_eq, ap, sym}
use Rattle.std.specs.Prelude.{nat_lt}
use Rattle.std.specs.List.{ends_with}
use Rattle.std.proofs.lemmas.Bool.{and_right}
use Rattle.std.proofs.lemmas.Str.Pattern.{ends_text}
use Rattle.post_plan.specs.Spots.{word_without_slash}

pub slash_lacking : (word : List ℕ) → ((prefix : List ℕ) → word ≢ prefix ++ 47 ∷ []) → word ≡ word_without_slash word
slash_lacking word none =
    let lacks : ends_with nat_eq word (codes "/") ≡ false = sym (ends_text false (47 ∷ []) word none) in
    ap (λ (b : Bool). cond b (take (length word - 1) word) word) (sym (and_right (nat_lt 1 (length word)) (ends_with nat_eq word (codes "/")) lacks))
