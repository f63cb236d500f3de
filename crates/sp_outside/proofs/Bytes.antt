-- What is left of bytes after the first of them were taken.
use Rattle.std.proofs.Common.{◌≡◌, ◌+◌, ◌≤◌, ◌++◌, ℕ, List, length, take, drop, sym, ◌∙◌, ap}
use Rattle.std.proofs.lemmas.List.{take-append-drop, drop-drop, take_at, length-take-le}

-- Where the first n bytes at a place stand at the beginning of a buffer, what is left at the place is these and what is left
-- after them.
pub rest_in_two : (bytes buffer into : List ℕ) (at n : ℕ) → n ≤ length (drop at bytes)
    → into ≡ take n (drop at bytes) ++ drop n buffer → drop at bytes ≡ take n into ++ drop (at + n) bytes
rest_in_two bytes buffer into at n le e =
    let leading : take n into ≡ take n (drop at bytes) = ap (take n) e
    ∙ take_at (take n (drop at bytes)) (drop n buffer) n (length-take-le n (drop at bytes) le) in
    sym (take-append-drop n (drop at bytes)) ∙ ap (λ t. t ++ drop n (drop at bytes)) (sym leading)
    ∙ ap (λ rest. take n into ++ rest) (drop-drop n at bytes)
