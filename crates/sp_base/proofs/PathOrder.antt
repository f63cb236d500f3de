-- The order of two paths, and whether one is under the other, read off their texts.
use Rattle.std.proofs.Common.{ℕ, Bool, T, true, false, cond, ◌&&◌, List, [], ◌∷◌, ◌==◌, length, drop, take, nat_eq, refl, sym, ◌∙◌, ap, ◌≡◌, ◌≢◌, ◌+◌, ◌<◌, ◌≤◌, arith, get_or, Ordering, min, ◌-◌}
use Rattle.std.proofs.lemmas.Bool.Decides.{nat_tests}
use Rattle.std.proofs.lemmas.List.{at_drop_more, length-drop}
use Rattle.std.proofs.lemmas.List.Splits.{length-slice_split}
use Rattle.std.specs.Cmp.Lexicographic.{slice_cmp, pointwise}
use Rattle.std.specs.List.{list_all, onto_first, starts_with}
use Rattle.std.specs.Ordering.{nat_cmp, ordering_then}
use Rattle.std.specs.declared.cmp.Ordering.TheVariants.{Less, Equal, Greater}
use Rattle.sp_base.specs.Paths.{pieces, by_path, is_under}
use Rattle.sp_base.specs.PathTexts.{segs_in, spelling_of, text_order, byte_order, ends_segment, text_under}
use Rattle.sp_base.proofs.PathLemmas.{lacks_slash}
use Rattle.sp_base.proofs.PathText.{pieces_of, pieces-spelled}

some_piece : (text : List ℕ) → 0 < length (pieces text)
some_piece text = omega (arith, length-slice_split (λ b. b == 47) text)

cmp_same : (x y : ℕ) → (x == y) ≡ true → nat_cmp x y ≡ Equal
cmp_same x y e = grind (arith, nat_tests)

cmp_apart : (x y : ℕ) → (x == y) ≡ false → nat_cmp x y ≢ Equal
cmp_apart x y e = grind (arith, nat_tests)

decided : (o s t : Ordering) → o ≢ Equal → ordering_then (ordering_then o s) t ≡ o
decided Less s t h = refl
decided Equal s t h = absurd (h refl)
decided Greater s t h = refl

step_cases : (x y : ℕ) (p : List ℕ) (ps : List (List ℕ)) (q : List ℕ) (qs : List (List ℕ)) (r : Ordering) (a b e : Bool) → (x == 47) ≡ a → (y == 47) ≡ b → (x == y) ≡ e → by_path (p ∷ ps) (q ∷ qs) ≡ r
    → by_path (cond a ([] ∷ p ∷ ps) ((x ∷ p) ∷ ps)) (cond b ([] ∷ q ∷ qs) ((y ∷ q) ∷ qs)) ≡ cond e r (cond a Less (cond b Greater (nat_cmp x y)))
step_cases x y p ps q qs r true true true i j k h = h
step_cases x y p ps q qs r true true false i j k h = absurd (grind (arith, nat_tests))
step_cases x y p ps q qs r true false true i j k h = absurd (grind (arith, nat_tests))
step_cases x y p ps q qs r true false false i j k h = refl
step_cases x y p ps q qs r false true true i j k h = absurd (grind (arith, nat_tests))
step_cases x y p ps q qs r false true false i j k h = refl
step_cases x y p ps q qs r false false true i j k h =
    ap (λ o. ordering_then (ordering_then o (slice_cmp nat_cmp p q)) (by_path ps qs)) (cmp_same x y k) ∙ h
step_cases x y p ps q qs r false false false i j k h = decided (nat_cmp x y) (slice_cmp nat_cmp p q) (by_path ps qs) (cmp_apart x y k)

step : (x y : ℕ) (ps qs : List (List ℕ)) (r : Ordering) → 0 < length ps → 0 < length qs → by_path ps qs ≡ r
    → by_path (cond (x == 47) ([] ∷ ps) (onto_first x ps)) (cond (y == 47) ([] ∷ qs) (onto_first y qs)) ≡ cond (x == y) r (byte_order x y)
step x y [] qs r m n h = absurd (omega arith)
step x y (p ∷ ps) [] r m n h = absurd (omega arith)
step x y (p ∷ ps) (q ∷ qs) r m n h = step_cases x y p ps q qs r (x == 47) (y == 47) (x == y) refl refl refl h

end_below : (y : ℕ) (a : Bool) (qs : List (List ℕ)) → 0 < length qs → by_path ([] ∷ []) (cond a ([] ∷ qs) (onto_first y qs)) ≡ Less
end_below y a [] n = absurd (omega arith)
end_below y true (q ∷ qs) n = refl
end_below y false (q ∷ qs) n = refl

above_end : (x : ℕ) (a : Bool) (ps : List (List ℕ)) → 0 < length ps → by_path (cond a ([] ∷ ps) (onto_first x ps)) ([] ∷ []) ≡ Greater
above_end x a [] n = absurd (omega arith)
above_end x true (p ∷ ps) n = refl
above_end x false (p ∷ ps) n = refl

pieces_order : (a b : List ℕ) → by_path (pieces a) (pieces b) ≡ text_order a b
pieces_order [] [] = refl
pieces_order [] (y ∷ b) = end_below y (y == 47) (pieces b) (some_piece b)
pieces_order (x ∷ a) [] = above_end x (x == 47) (pieces a) (some_piece a)
pieces_order (x ∷ a) (y ∷ b) = step x y (pieces a) (pieces b) (text_order a b) (some_piece a) (some_piece b) (pieces_order a b)

pub paths_order : (a b : List ℕ) → spelling_of (segs_in a) ≡ a → spelling_of (segs_in b) ≡ b → text_order a b ≡ by_path (segs_in a) (segs_in b)
paths_order a b e f =
    sym (pieces_order a b) ∙ ap (λ parts. by_path parts (pieces b)) (pieces_of a e) ∙ ap (λ parts. by_path ([] ∷ segs_in a) parts) (pieces_of b f)

-- whether the pieces begin with all pieces of another text
under_cases : (x y : ℕ) (p : List ℕ) (ps : List (List ℕ)) (q : List ℕ) (qs : List (List ℕ)) (u : Bool) (a b e : Bool) → (x == 47) ≡ a → (y == 47) ≡ b → (y == x) ≡ e → starts_with (pointwise nat_eq) (p ∷ ps) (q ∷ qs) ≡ u
    → starts_with (pointwise nat_eq) (cond a ([] ∷ p ∷ ps) ((x ∷ p) ∷ ps)) (cond b ([] ∷ q ∷ qs) ((y ∷ q) ∷ qs)) ≡ cond e u false
under_cases x y p ps q qs u true true true i j k h = h
under_cases x y p ps q qs u true true false i j k h = absurd (grind (arith, nat_tests))
under_cases x y p ps q qs u true false true i j k h = absurd (grind (arith, nat_tests))
under_cases x y p ps q qs u true false false i j k h = refl
under_cases x y p ps q qs u false true true i j k h = absurd (grind (arith, nat_tests))
under_cases x y p ps q qs u false true false i j k h = refl
under_cases x y p ps q qs u false false true i j k h =
    ap (λ t. (t && pointwise nat_eq q p) && pointwise (pointwise nat_eq) qs (take (length qs) ps)) k ∙ h
under_cases x y p ps q qs u false false false i j k h =
    ap (λ t. (t && pointwise nat_eq q p) && pointwise (pointwise nat_eq) qs (take (length qs) ps)) k

under_step : (x y : ℕ) (ps qs : List (List ℕ)) (u : Bool) → 0 < length ps → 0 < length qs → starts_with (pointwise nat_eq) ps qs ≡ u
    → starts_with (pointwise nat_eq) (cond (x == 47) ([] ∷ ps) (onto_first x ps)) (cond (y == 47) ([] ∷ qs) (onto_first y qs)) ≡ cond (y == x) u false
under_step x y [] qs u m n h = absurd (omega arith)
under_step x y (p ∷ ps) [] u m n h = absurd (omega arith)
under_step x y (p ∷ ps) (q ∷ qs) u m n h = under_cases x y p ps q qs u (x == 47) (y == 47) (y == x) refl refl refl h

end_under : (y : ℕ) (a : Bool) (qs : List (List ℕ)) → 0 < length qs → starts_with (pointwise nat_eq) ([] ∷ []) (cond a ([] ∷ qs) (onto_first y qs)) ≡ false
end_under y a [] n = absurd (omega arith)
end_under y true (q ∷ qs) n = refl
end_under y false (q ∷ qs) n = refl

under_end : (x : ℕ) (a : Bool) (ps : List (List ℕ)) → 0 < length ps → starts_with (pointwise nat_eq) (cond a ([] ∷ ps) (onto_first x ps)) ([] ∷ []) ≡ a
under_end x a [] n = absurd (omega arith)
under_end x true (p ∷ ps) n = refl
under_end x false (p ∷ ps) n = refl

moved : (e s t : Bool) → (e && s) && t ≡ cond e (s && t) false
moved true s t = refl
moved false s t = refl

pieces_under : (a b : List ℕ) → starts_with (pointwise nat_eq) (pieces a) (pieces b) ≡ text_under a b
pieces_under [] [] = refl
pieces_under [] (y ∷ b) = end_under y (y == 47) (pieces b) (some_piece b)
pieces_under (x ∷ a) [] = under_end x (x == 47) (pieces a) (some_piece a)
pieces_under (x ∷ a) (y ∷ b) =
    under_step x y (pieces a) (pieces b) (text_under a b) (some_piece a) (some_piece b) (pieces_under a b)
    ∙ sym (moved (y == x) (starts_with nat_eq a b) (ends_segment (drop (length b) a)))

pub paths_under : (a b : List ℕ) → spelling_of (segs_in a) ≡ a → spelling_of (segs_in b) ≡ b → text_under a b ≡ is_under (segs_in a) (segs_in b)
paths_under a b e f =
    sym (pieces_under a b) ∙ ap (λ parts. starts_with (pointwise nat_eq) parts (pieces b)) (pieces_of a e) ∙ ap (λ parts. starts_with (pointwise nat_eq) ([] ∷ segs_in a) parts) (pieces_of b f)

-- and so for segments without a slash
pub segments_under : (path other : List (List ℕ)) → T (list_all lacks_slash path) → T (list_all lacks_slash other) → text_under (spelling_of path) (spelling_of other) ≡ is_under path other
segments_under path other h k =
    sym (pieces_under (spelling_of path) (spelling_of other)) ∙ ap (λ parts. starts_with (pointwise nat_eq) parts (pieces (spelling_of other))) (pieces-spelled path h)
    ∙ ap (λ parts. starts_with (pointwise nat_eq) ([] ∷ path) parts) (pieces-spelled other k)

-- the order of what is left of two texts
pub order_more : (a b : List ℕ) (n : ℕ) → n < length a → n < length b → get_or a n 0 ≡ get_or b n 0 → text_order (drop (n + 1) a) (drop (n + 1) b) ≡ text_order (drop n a) (drop n b)
order_more a b n h k e =
    let same : (get_or a n 0 == get_or b n 0) ≡ true = grind (arith, nat_tests) in
    sym (at_drop_more (λ s. text_order s (drop n b)) a n 0 h ∙ at_drop_more (λ t. text_order (get_or a n 0 ∷ drop (n + 1) a) t) b n 0 k
    ∙ ap (λ t. cond t (text_order (drop (n + 1) a) (drop (n + 1) b)) (byte_order (get_or a n 0) (get_or b n 0))) same)

pub order_found : (a b : List ℕ) (n : ℕ) → n < length a → n < length b → get_or a n 0 ≢ get_or b n 0 → text_order (drop n a) (drop n b) ≡ byte_order (get_or a n 0) (get_or b n 0)
order_found a b n h k e =
    let apart : (get_or a n 0 == get_or b n 0) ≡ false = grind (arith, nat_tests) in
    at_drop_more (λ s. text_order s (drop n b)) a n 0 h ∙ at_drop_more (λ t. text_order (get_or a n 0 ∷ drop (n + 1) a) t) b n 0 k
    ∙ ap (λ t. cond t (text_order (drop (n + 1) a) (drop (n + 1) b)) (byte_order (get_or a n 0) (get_or b n 0))) apart

shorter : (s t : List ℕ) → min (length s) (length t) ≡ 0 → text_order s t ≡ nat_cmp (length s) (length t)
shorter [] [] h = refl
shorter [] (y ∷ t) h = grind (arith, nat_tests)
shorter (x ∷ s) [] h = grind (arith, nat_tests)
shorter (x ∷ s) (y ∷ t) h = absurd (omega arith)

cmp_less : (m k n : ℕ) → n ≤ m → n ≤ k → nat_cmp (m - n) (k - n) ≡ nat_cmp m k
cmp_less m k n h i = grind (arith, nat_tests)

pub order_ended : (a b : List ℕ) (n : ℕ) → n ≡ min (length a) (length b) → text_order (drop n a) (drop n b) ≡ nat_cmp (length a) (length b)
order_ended a b n e =
    shorter (drop n a) (drop n b) (omega (arith, length-drop n a, length-drop n b)) ∙ ap (λ m. nat_cmp m (length (drop n b))) (length-drop n a)
    ∙ ap (λ k. nat_cmp (length a - n) k) (length-drop n b) ∙ cmp_less (length a) (length b) n (omega arith) (omega arith)
