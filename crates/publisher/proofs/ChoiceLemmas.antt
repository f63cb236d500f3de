-- The choices of a depth are its own, and those of the depths below it.
use Rattle.std.proofs.Common.{◌≡◌, ◌+◌, ◌-◌, ◌<◌, ◌++◌, ℕ, List, [], ◌∷◌, map, sym, ◌∙◌, ap, arith, append_assoc}
use Rattle.std.specs.Prelude.{reverse}
use Rattle.std.specs.List.{range_with_len}
use Rattle.std.proofs.lemmas.List.{reverse-append}
use Rattle.std.proofs.lemmas.List.FromFn.{map-range_with_len_more}
use Rattle.publisher.specs.Choices.{choice, choices}

first_choice : (path : List ℕ) (depth : ℕ) → 0 < depth → choices path depth ≡ choice path depth ∷ choices path (depth - 1)
first_choice path depth some =
    let same : depth ≡ depth - 1 + 1 = omega (arith, some) in
    ap reverse (map-range_with_len_more (choice path) 0 depth depth (omega arith))
    ∙ reverse-append (map (choice path) (range_with_len 0 depth)) (choice path depth ∷ [])
    ∙ ap (λ n. choice path depth ∷ reverse (map (choice path) (range_with_len 0 n))) same

-- one more choice stands before the others
pub choices_more : (path : List ℕ) (depth : ℕ) (list new : List (List ℕ)) (text : List ℕ) → 0 < depth → text ≡ choice path depth → new ≡ list ++ text ∷ []
    → new ++ choices path (depth - 1) ≡ list ++ choices path depth
choices_more path depth list new text some is e =
    ap (λ l. l ++ choices path (depth - 1)) e ∙ append_assoc list (text ∷ []) (choices path (depth - 1))
    ∙ ap (λ t. list ++ t ∷ choices path (depth - 1)) is ∙ ap (λ l. list ++ l) (sym (first_choice path depth some))
