-- A type's text taken apart at its colons, and put together with slashes.
use Rattle.std.proofs.Common.{◌≡◌, ◌++◌, ℕ, Bool, true, false, cond, List, [], ◌∷◌, map, refl, sym, ◌∙◌, ap}
use Rattle.std.proofs.lemmas.List.Folds.{flat_map-map}
use Rattle.std.specs.List.{slice_split, onto_first, join_by}
use Rattle.sp_base.specs.Bytes.{is_colon}
use Rattle.type_chain.specs.Types.{text_with_slashes}

abbrev with_slashes : List (List ℕ) → List ℕ
with_slashes pieces = join_by (λ p. p) (47 ∷ []) pieces

-- whether there is a piece
abbrev some_piece : List (List ℕ) → Bool
some_piece [] = false
some_piece (piece ∷ pieces) = true

some-onto : (b : ℕ) (pieces : List (List ℕ)) → some_piece (onto_first b pieces) ≡ true
some-onto b [] = refl
some-onto b (piece ∷ pieces) = refl

some-split : (text : List ℕ) → some_piece (slice_split is_colon text) ≡ true
some-split [] = refl
some-split (b ∷ text) =
    elim (is_colon b) as (λ t. some_piece (cond t ([] ∷ slice_split is_colon text) (onto_first b (slice_split is_colon text))) ≡ true) [
      | true ↦ refl
      | false ↦ some-onto b (slice_split is_colon text)
    ]

with_slashes-onto : (b : ℕ) (pieces : List (List ℕ)) → some_piece pieces ≡ true → with_slashes (onto_first b pieces) ≡ b ∷ with_slashes pieces
with_slashes-onto b [] some = absurd (cc)
with_slashes-onto b (piece ∷ pieces) some = refl

with_slashes-empty : (pieces : List (List ℕ)) → some_piece pieces ≡ true → with_slashes ([] ∷ pieces) ≡ 47 ∷ with_slashes pieces
with_slashes-empty [] some = absurd (cc)
with_slashes-empty (piece ∷ pieces) some = refl

with_slashes-split : (text : List ℕ) → with_slashes (slice_split is_colon text) ≡ text_with_slashes text
with_slashes-split [] = refl
with_slashes-split (b ∷ text) =
    let rest = slice_split is_colon text in
    elim (is_colon b) as (λ t. with_slashes (cond t ([] ∷ rest) (onto_first b rest)) ≡ cond t 47 b ∷ text_with_slashes text) [
      | true ↦ with_slashes-empty rest (some-split text) ∙ ap (λ more. 47 ∷ more) (with_slashes-split text)
      | false ↦ with_slashes-onto b rest (some-split text) ∙ ap (λ more. b ∷ more) (with_slashes-split text)
    ]

join-map : {A : Type 0} (f : A → List ℕ) (xs : List A) → join_by f (47 ∷ []) xs ≡ with_slashes (map f xs)
join-map f [] = refl
join-map f (x ∷ xs) = ap (λ more. f x ++ more) (sym (flat_map-map (λ p. 47 ∷ p) f xs))

pub joined_is : {A : Type 0} (f : A → List ℕ) (pieces : List A) (text : List ℕ) → map f pieces ≡ slice_split is_colon text → join_by f (47 ∷ []) pieces ≡ text_with_slashes text
joined_is f pieces text e = join-map f pieces ∙ ap with_slashes e ∙ with_slashes-split text
