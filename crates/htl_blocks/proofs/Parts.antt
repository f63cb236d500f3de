-- A text and its parts.
use Rattle.std.proofs.Common.{◌≡◌, ◌<◌, ◌≤◌, ◌+◌, ◌-◌, ℕ, zero, suc, Bool, true, false, cond, ◌&&◌, eqb, List, [], ◌∷◌, take, drop, length, slice_index, Some, refl, ap, sym, subst, ◌∙◌, arith}
use Rattle.std.specs.Str.{IsCharBoundary, IsUtf8}
use Rattle.std.proofs.lemmas.Str.{IsCharBoundary-after_ascii, IsCharBoundary-before_ascii}
use Rattle.std.proofs.lemmas.List.{length-take-le, length-drop}
use Rattle.sp_base.specs.Bytes.{begins_with_byte}
use Rattle.sp_base.proofs.BoolLemmas.{and_first, and_second}
use Rattle.htl_blocks.specs.Markup.{tag_len, begins_tag, begins_end_tag, tag_name_len, part_len, parts, parts_after, closes, waiting_after, inside_len}
use Rattle.htl_blocks.specs.Attributes.{is_block_tag}
use Rattle.htl_blocks.specs.Reading.{text_run_len}
use Rattle.htl_blocks.proofs.Tags.{byte_there, end_tag_at, tag_boundary, part_within}

-- bytes that belong to the part before are passed over
pub parts_after_skipped : (n : ℕ) (t : List ℕ) → parts_after n t ≡ parts_after 0 (drop n t)
unfolding parts_after
parts_after_skipped zero t = refl
parts_after_skipped (suc n) [] = refl
parts_after_skipped (suc n) (c ∷ t) = parts_after_skipped n t

-- the first part, and the parts of what follows it
pub parts_step : (t : List ℕ) → 0 < length t → parts t ≡ take (part_len t) t ∷ parts (drop (part_len t) t)
unfolding parts_after
parts_step [] some = absurd (omega (arith, some))
parts_step (c ∷ t) some = ap (λ (more : List (List ℕ)). take (part_len (c ∷ t)) (c ∷ t) ∷ more) (go (part_len (c ∷ t)) (part_within (c ∷ t) some).0)
  where
    go : (n : ℕ) → 1 ≤ n → parts_after (n - 1) t ≡ parts_after 0 (drop n (c ∷ t))
    go zero h = absurd (omega (arith, h))
    go (suc k) h = let same : suc k - 1 ≡ k = omega arith in rw same (parts_after_skipped k t)

first_of : (n c : ℕ) (t : List ℕ) → 1 ≤ n → slice_index (take n (c ∷ t)) 0 ≡ c
first_of zero c t h = absurd (omega (arith, h))
first_of (suc n) c t h = refl

-- a block tag begins with "<"
block_first : (part : List ℕ) → is_block_tag part ≡ true → slice_index part 0 ≡ 60
unfolding is_block_tag begins_tag
block_first part h = (byte_there 60 0 part (and_first _ _ (and_first _ _ h))).1

-- the first block tag stands at a "<"
block_place : (skip : ℕ) (t : List ℕ) → skip ≤ length t → (skip + text_run_len (parts_after skip t) ≤ length t) × (skip + text_run_len (parts_after skip t) < length t → slice_index t (skip + text_run_len (parts_after skip t)) ≡ 60)
unfolding parts_after text_run_len
block_place zero [] h = (omega arith, λ lt. absurd (omega (arith, lt)))
block_place (suc n) [] h = absurd (omega (arith, h))
block_place (suc n) (c ∷ t) h =
    let ih = block_place n t (omega (arith, h)) in
    let more : suc n + text_run_len (parts_after n t) ≡ suc (n + text_run_len (parts_after n t)) = omega arith in
    rw more (omega (arith, ih.0), λ lt. ih.1 (omega (arith, lt)))
block_place zero (c ∷ t) h = go (is_block_tag (take (part_len (c ∷ t)) (c ∷ t))) refl (λ k. block_place (part_len (c ∷ t) - 1) t k)
  where
    within : (1 ≤ part_len (c ∷ t)) × (part_len (c ∷ t) ≤ length (c ∷ t))
    within = part_within (c ∷ t) (omega arith)

    size : length (take (part_len (c ∷ t)) (c ∷ t)) ≡ part_len (c ∷ t)
    size = length-take-le (part_len (c ∷ t)) (c ∷ t) within.1

    go : (b : Bool) → is_block_tag (take (part_len (c ∷ t)) (c ∷ t)) ≡ b
        → (part_len (c ∷ t) - 1 ≤ length t → ((part_len (c ∷ t) - 1) + text_run_len (parts_after (part_len (c ∷ t) - 1) t) ≤ length t) × ((part_len (c ∷ t) - 1) + text_run_len (parts_after (part_len (c ∷ t) - 1) t) < length t → slice_index t ((part_len (c ∷ t) - 1) + text_run_len (parts_after (part_len (c ∷ t) - 1) t)) ≡ 60))
        → (0 + cond b 0 (length (take (part_len (c ∷ t)) (c ∷ t)) + text_run_len (parts_after (part_len (c ∷ t) - 1) t)) ≤ length (c ∷ t))
        × (0 + cond b 0 (length (take (part_len (c ∷ t)) (c ∷ t)) + text_run_len (parts_after (part_len (c ∷ t) - 1) t)) < length (c ∷ t) → slice_index (c ∷ t) (0 + cond b 0 (length (take (part_len (c ∷ t)) (c ∷ t)) + text_run_len (parts_after (part_len (c ∷ t) - 1) t))) ≡ 60)
    go true e later = (omega arith, λ lt. sym (first_of (part_len (c ∷ t)) c t within.0) ∙ block_first (take (part_len (c ∷ t)) (c ∷ t)) e)
    go false e later =
        let ih = later (omega (arith, within.1, within.0)) in
        let more : 0 + (length (take (part_len (c ∷ t)) (c ∷ t)) + text_run_len (parts_after (part_len (c ∷ t) - 1) t)) ≡ suc ((part_len (c ∷ t) - 1) + text_run_len (parts_after (part_len (c ∷ t) - 1) t)) = omega (arith, size, within.0) in
        rw more (omega (arith, ih.0), λ lt. ih.1 (omega (arith, lt)))

-- a text may be cut before its first block tag
pub run_boundary : (t : List ℕ) → IsCharBoundary t (text_run_len (parts t))
run_boundary t =
    let x = block_place 0 t (omega arith) in
    let same : 0 + text_run_len (parts t) ≡ text_run_len (parts t) = omega arith in
    let y = rw same at x in
    (y.0, λ lt big. let z = y.1 lt in omega (arith, z, big))

-- ---- the end tag that closes an element

-- an end tag is the first part from a place on
pub record ClosesAt (t : List ℕ) (place : ℕ) : Type 0 where
  pub within : place < length t
  pub end_tag : begins_end_tag (take (part_len (drop place t)) (drop place t)) ≡ true

ends : (name part : List ℕ) → closes name part ≡ true → begins_end_tag part ≡ true
unfolding closes
ends name part h = and_first _ _ h

closes_at : (name : List ℕ) (waiting n skip : ℕ) (t : List ℕ) (m : ℕ) → skip ≤ length t → inside_len name waiting n (parts_after skip t) ≡ Some m → (n ≤ m) × ((place : ℕ) → place + n ≡ skip + m → ClosesAt t place)
unfolding parts_after inside_len
closes_at name waiting n zero [] m h e = absurd cc
closes_at name waiting n (suc skip) [] m h e = absurd cc
closes_at name waiting n (suc skip) (c ∷ t) m h e =
    let ih = closes_at name waiting n skip t m (omega (arith, h)) e in
    (ih.0, go ih)
  where
    go : (n ≤ m) × ((place : ℕ) → place + n ≡ skip + m → ClosesAt t place) → (place : ℕ) → place + n ≡ suc skip + m → ClosesAt (c ∷ t) place
    go ih zero q = absurd (omega (arith, q, ih.0))
    go ih (suc place) q = let x = ih.1 place (omega (arith, q)) in let lt = x.within in record { within = omega (arith, lt); end_tag = x.end_tag }
closes_at name waiting n zero (c ∷ t) m h e = go (eqb waiting 0 && closes name (take (part_len (c ∷ t)) (c ∷ t))) refl e (closes_at name (waiting_after name waiting (take (part_len (c ∷ t)) (c ∷ t))) (n + length (take (part_len (c ∷ t)) (c ∷ t))) (part_len (c ∷ t) - 1) t m)
  where
    within : (1 ≤ part_len (c ∷ t)) × (part_len (c ∷ t) ≤ length (c ∷ t))
    within = part_within (c ∷ t) (omega arith)

    size : length (take (part_len (c ∷ t)) (c ∷ t)) ≡ part_len (c ∷ t)
    size = length-take-le (part_len (c ∷ t)) (c ∷ t) within.1

    here : eqb waiting 0 && closes name (take (part_len (c ∷ t)) (c ∷ t)) ≡ true → n ≡ m → (place : ℕ) → place + n ≡ 0 + m → ClosesAt (c ∷ t) place
    here x same zero q = record { within = omega arith; end_tag = ends name (take (part_len (c ∷ t)) (c ∷ t)) (and_second (eqb waiting 0) (closes name (take (part_len (c ∷ t)) (c ∷ t))) x) }
    here x same (suc place) q = absurd (omega (arith, q, same))

    later : (n + length (take (part_len (c ∷ t)) (c ∷ t)) ≤ m) × ((place : ℕ) → place + (n + length (take (part_len (c ∷ t)) (c ∷ t))) ≡ (part_len (c ∷ t) - 1) + m → ClosesAt t place) → (place : ℕ) → place + n ≡ 0 + m → ClosesAt (c ∷ t) place
    later ih zero q = absurd (omega (arith, q, ih.0, size, within.0))
    later ih (suc place) q = let x = ih.1 place (omega (arith, q, size, within.0)) in let lt = x.within in record { within = omega (arith, lt); end_tag = x.end_tag }

    go : (b : Bool) → eqb waiting 0 && closes name (take (part_len (c ∷ t)) (c ∷ t)) ≡ b
        → cond b (Some n) (inside_len name (waiting_after name waiting (take (part_len (c ∷ t)) (c ∷ t))) (n + length (take (part_len (c ∷ t)) (c ∷ t))) (parts_after (part_len (c ∷ t) - 1) t)) ≡ Some m
        → (part_len (c ∷ t) - 1 ≤ length t → inside_len name (waiting_after name waiting (take (part_len (c ∷ t)) (c ∷ t))) (n + length (take (part_len (c ∷ t)) (c ∷ t))) (parts_after (part_len (c ∷ t) - 1) t) ≡ Some m → (n + length (take (part_len (c ∷ t)) (c ∷ t)) ≤ m) × ((place : ℕ) → place + (n + length (take (part_len (c ∷ t)) (c ∷ t))) ≡ (part_len (c ∷ t) - 1) + m → ClosesAt t place))
        → (n ≤ m) × ((place : ℕ) → place + n ≡ 0 + m → ClosesAt (c ∷ t) place)
    go true x y ih = let same : n ≡ m = cc in (omega (arith, same), here x same)
    go false x y ih = let z = ih (omega (arith, within.1, within.0)) y in (omega (arith, z.0), later z)

-- the end tag that closes an element
pub closing_part : (name t : List ℕ) (m : ℕ) → inside_len name 0 0 (parts t) ≡ Some m → ClosesAt t m
closing_part name t m e = (closes_at name 0 0 0 t m (omega arith) e).1 m (omega arith)

-- an end tag begins with "<"
end_tag_first : (t : List ℕ) → begins_end_tag t ≡ true → slice_index t 0 ≡ 60
unfolding begins_end_tag
end_tag_first t h = (byte_there 60 0 t (and_first _ _ h)).1

take_first : (n : ℕ) (t : List ℕ) → 1 ≤ n → slice_index (take n t) 0 ≡ slice_index t 0
take_first zero t h = absurd (omega (arith, h))
take_first (suc n) [] h = refl
take_first (suc n) (c ∷ t) h = refl

-- a text may be cut before the end tag that closes an element
pub inside_boundary : (name t : List ℕ) (m : ℕ) → inside_len name 0 0 (parts t) ≡ Some m → IsCharBoundary t m
inside_boundary name t m e =
    let x = closing_part name t m e in
    let lt = x.within in
    let left : length (drop m t) ≡ length t - m = length-drop m t in
    let some : 0 < length (drop m t) = omega (arith, lt, left) in
    let first = sym (take_first (part_len (drop m t)) (drop m t) (part_within (drop m t) some).0) ∙ end_tag_first (take (part_len (drop m t)) (drop m t)) x.end_tag in
    let there = sym (index_drop m t) ∙ first in
    IsCharBoundary-before_ascii t m lt (omega (arith, there))
  where
    index_drop : (m : ℕ) (t : List ℕ) → slice_index (drop m t) 0 ≡ slice_index t m
    index_drop zero t = refl
    index_drop (suc m) [] = refl
    index_drop (suc m) (c ∷ t) = index_drop m t

no_end_tag : (c : ℕ) → begins_end_tag (c ∷ []) ≡ true → ⊥
unfolding begins_end_tag begins_with_byte
no_end_tag c h = let x = and_second (eqb c 60) false h in absurd cc

-- and after it
pub end_tag_boundary : (u : List ℕ) → IsUtf8 u → 0 < length u → begins_end_tag (take (part_len u) u) ≡ true → IsCharBoundary u (part_len u)
unfolding part_len
end_tag_boundary [] utf8 some h = absurd (omega (arith, some))
end_tag_boundary (c ∷ u) utf8 some h = go (begins_tag (c ∷ u)) (begins_end_tag (c ∷ u)) refl h
  where
    go : (a b : Bool) → begins_end_tag (c ∷ u) ≡ b → begins_end_tag (take (cond a (tag_len (c ∷ u)) (cond b (tag_name_len (drop 2 (c ∷ u)) + 3) 1)) (c ∷ u)) ≡ true → IsCharBoundary (c ∷ u) (cond a (tag_len (c ∷ u)) (cond b (tag_name_len (drop 2 (c ∷ u)) + 3) 1))
    go true b eb x = tag_boundary (c ∷ u) utf8
    go false true eb x =
        let y = end_tag_at (c ∷ u) eb in
        let there = y.1 in
        let more : (tag_name_len (drop 2 (c ∷ u)) + 2) + 1 ≡ tag_name_len (drop 2 (c ∷ u)) + 3 = omega arith in
        subst (λ (n : ℕ). IsCharBoundary (c ∷ u) n) more (IsCharBoundary-after_ascii (c ∷ u) (tag_name_len (drop 2 (c ∷ u)) + 2) utf8 y.0 (omega (arith, there)))
    go false false eb x = absurd (no_end_tag c x)
