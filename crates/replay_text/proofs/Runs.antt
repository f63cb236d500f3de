-- Runs of bytes that stand for themselves within quotes, found in a vector's mask.
use Rattle.std.proofs.Common.{◌≡◌, ◌+◌, ◌-◌, ◌%◌, ◌^◌, ◌<◌, ◌≤◌, ◌++◌, ◌∙◌, ◌==◌, ◌||◌, not, ℕ, zero, suc, Bool, true, false, cond, List, [], ◌∷◌, map, length, get_or, take, drop, replicate, Fits, w8, refl, sym, ap, ap₂, arith, append_assoc, length-drop, get_or-take, get_or-drop}
use Rattle.std.specs.Prelude.{flat_map}
use Rattle.std.specs.Bool.{OnTrue}
use Rattle.std.specs.List.{prefix_len}
use Rattle.std.proofs.lemmas.Bool.{agree_below, agree_below_at, not-true, eqb-true, OnTrue_from as on_true}
use Rattle.std.proofs.lemmas.Simd.{map-map, mask_l-mod, length-chunk, leading_from_mask_l}
use Rattle.std.proofs.lemmas.Grind.{flat_map-append}
use Rattle.std.proofs.lemmas.List.{length-map, take-append-drop, take_all}
use Rattle.std.proofs.lemmas.List.Sums.{prefix_len-le-length}
use lib.Lanes.{chunk, zip2, mask_l, top}
use Rattle.replay_text.specs.Transcript.{quoted_byte}
use Rattle.replay_text.specs.Quoting.{is_literal, AreLiteral}

zip2-map : (h : ℕ → ℕ → ℕ) (f g : ℕ → ℕ) (xs : List ℕ) → zip2 h (map f xs) (map g xs) ≡ map (λ x. h (f x) (g x)) xs
zip2-map h f g [] = refl
zip2-map h f g (x ∷ xs) = ap (λ r. h (f x) (g x) ∷ r) (zip2-map h f g xs)

-- an operation on two vectors that were computed lane by lane from v
pub joined : (h : ℕ → ℕ → ℕ) (f g : ℕ → ℕ) (v : List ℕ) {a b : List ℕ} → a ≡ map f v → b ≡ map g v → zip2 h a b ≡ map (λ x. h (f x) (g x)) v
joined h f g v p q = ap₂ (zip2 h) p q ∙ zip2-map h f g v

pub splat_is : (v : List ℕ) (n y : ℕ) → length v ≡ n → replicate n y ≡ map (λ _. y) v
splat_is [] n y e = ap (λ k. replicate k y) (sym e)
splat_is (x ∷ xs) n y e = ap (λ k. replicate k y) (sym e) ∙ ap (λ r. y ∷ r) (splat_is xs (length xs) y refl)

pub itself : (v : List ℕ) → v ≡ map (λ x. x) v
itself [] = refl
itself (x ∷ xs) = ap (λ r. x ∷ r) (itself xs)

all_byte : (p : Bool) (n l : ℕ) → n ≤ l → cond p (1 + n) 0 ≡ suc l → (p ≡ true) × (n ≡ l)
all_byte true n l h e = (refl, omega arith)
all_byte false n l h e = absurd (omega arith)

all_pass : (q : ℕ → Bool) (xs : List ℕ) → prefix_len q xs ≡ length xs → (k : ℕ) → k < length xs → q (get_or xs k 0) ≡ true
all_pass q [] e k lt = absurd (omega arith)
all_pass q (x ∷ xs) e zero lt = (all_byte (q x) _ (length xs) (prefix_len-le-length q xs) e).0
all_pass q (x ∷ xs) e (suc k) lt = all_pass q xs (all_byte (q x) _ (length xs) (prefix_len-le-length q xs) e).1 k (omega arith)

-- no lane of a block stops, so each of its bytes is literal
no_lane : (d : List ℕ) (i n : ℕ) (z : List ℕ) (f : ℕ → ℕ) → i + n ≤ length d → n ≤ 64 → ((k : ℕ) → Fits w8 (get_or d k 0)) → z ≡ map f (chunk i n d)
    → agree_below (λ x. top 7 (f x) || is_literal x) (λ _. true) 256 ≡ true → mask_l (map (top 7) z) % 2 ^ 64 ≡ 0 → AreLiteral d i (i + n)
no_lane d i n z f room few fits lanes all e k from to =
    let v = chunk i n d in
    let stops : ℕ → Bool = λ x. top 7 (f x) in
    let long = length-chunk i n d room in
    let mask = ap (λ l. mask_l l % 2 ^ 64) (ap (map (top 7)) lanes ∙ map-map (top 7) f v) ∙ mask_l-mod (map stops v) 64 (omega (arith, length-map v stops, long)) in
    let none = leading_from_mask_l stops v (sym mask ∙ e) in
    let back : i + (k - i) ≡ k = omega arith in
    let at = get_or-take n (drop i d) (k - i) 0 (omega arith) ∙ get_or-drop i d (k - i) 0 ∙ ap (λ j. get_or d j 0) back in
    let goes : stops (get_or d k 0) ≡ false = ap stops (sym at) ∙ not-true _ (all_pass (λ x. not (stops x)) v none (k - i) (omega (arith, long))) in
    sym (ap (λ b. b || is_literal (get_or d k 0)) goes) ∙ agree_below_at (λ x. stops x || is_literal x) (λ _. true) 256 (get_or d k 0) all (fits k).fits

pub literal_block : (d : List ℕ) (i n : ℕ) (z : List ℕ) (f : ℕ → ℕ) → i + n ≤ length d → n ≤ 64 → ((k : ℕ) → Fits w8 (get_or d k 0)) → z ≡ map f (chunk i n d)
    → agree_below (λ x. top 7 (f x) || is_literal x) (λ _. true) 256 ≡ true → OnTrue (mask_l (map (top 7) z) % 2 ^ 64 == 0) (AreLiteral d i (i + n))
literal_block d i n z f room few fits lanes all =
    on_true (mask_l (map (top 7) z) % 2 ^ 64 == 0) (AreLiteral d i (i + n)) (λ e. no_lane d i n z f room few fits lanes all (eqb-true _ 0 e))

quoted_alone : (b : ℕ) → is_literal b ≡ true → quoted_byte b ≡ b ∷ []
quoted_alone b e = grind arith

-- the first bytes are quoted as themselves
pub quoted_run : (d : List ℕ) (n : ℕ) → n ≤ length d → AreLiteral d 0 n → flat_map quoted_byte (take n d) ≡ take n d
quoted_run d zero le literal = refl
quoted_run [] (suc n) le literal = refl
quoted_run (b ∷ d) (suc n) le literal =
    ap₂ (λ x y. x ++ y) (quoted_alone b (literal 0 (omega arith) (omega arith))) (quoted_run d n (omega arith) (λ k from to. literal (suc k) (omega arith) (omega arith)))

-- a run was written as it is, and the rest is left
pub run_written : (before after bytes : List ℕ) (n : ℕ) → after ≡ before ++ take n bytes → flat_map quoted_byte (take n bytes) ≡ take n bytes
    → after ++ flat_map quoted_byte (take (length bytes - n) (drop n bytes)) ≡ before ++ flat_map quoted_byte bytes
run_written before after bytes n e run =
    let rest : take (length bytes - n) (drop n bytes) ≡ drop n bytes = take_all (length bytes - n) (drop n bytes) (omega (arith, length-drop n bytes)) in
    ap₂ (λ t r. t ++ flat_map quoted_byte r) (e ∙ ap (λ t. before ++ t) (sym run)) rest ∙ append_assoc before (flat_map quoted_byte (take n bytes)) (flat_map quoted_byte (drop n bytes))
    ∙ ap (λ t. before ++ t) (sym (flat_map-append quoted_byte (take n bytes) (drop n bytes)) ∙ ap (flat_map quoted_byte) (take-append-drop n bytes))
