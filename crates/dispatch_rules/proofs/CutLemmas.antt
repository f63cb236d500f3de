-- Texts that are cut at a dot or a slash, and the selectors of a text.
use Rattle.std.proofs.Common.{◌≡◌, ◌≢◌, ◌<◌, ◌≤◌, ◌==◌, ℕ, List, [], ◌∷◌, ◌++◌, Bor, take, drop, length, map, filter, get_or, sym, ap, ◌∙◌, arith}
use Rattle.std.proofs.lemmas.Bool.{eq-eqb, ne_eqb}
use Rattle.std.proofs.lemmas.List.{length-take, map-append, take_all}
use Rattle.std.proofs.lemmas.List.Concat.{flat_map-append}
use Rattle.std.proofs.lemmas.List.Elements.{filter-append}
use Rattle.std.proofs.lemmas.List.Sums.{position_or_len_is}
use Rattle.std.specs.List.{before_first, position_or_len}
use Rattle.sp_base.specs.Bytes.{is_full, dotted_text}

-- where a text is cut
pub cut_at : (c : ℕ) (text : List ℕ) (k : ℕ) → k < length text → get_or text k 0 ≡ c → ((i : ℕ) → i < k → get_or text i 0 ≢ c) → position_or_len (λ b. b == c) text ≡ k
cut_at c text k lt here before =
    position_or_len_is (λ b. b == c) text k 0 (omega arith) (λ i less. ne_eqb (get_or text i 0) c (before i less)) (λ _. eq-eqb (get_or text k 0) c here)

pub uncut : (c : ℕ) (text : List ℕ) → ((i : ℕ) → i < length text → get_or text i 0 ≢ c) → position_or_len (λ b. b == c) text ≡ length text
uncut c text none =
    position_or_len_is (λ b. b == c) text (length text) 0 (omega arith) (λ i less. ne_eqb (get_or text i 0) c (none i less)) (λ lt. absurd (omega (arith, lt)))

pub prefix_of : (c : ℕ) (text : List ℕ) (k : ℕ) → position_or_len (λ b. b == c) text ≡ k → take k text ≡ before_first (λ b. b == c) text
prefix_of c text k e = ap (λ n. take n text) (sym e)

pub whole_prefix : (c : ℕ) (text : List ℕ) → position_or_len (λ b. b == c) text ≡ length text → text ≡ before_first (λ b. b == c) text
whole_prefix c text e = sym (take_all (length text) text (omega arith)) ∙ prefix_of c text (length text) e

pub prefix_length : (c : ℕ) (text : List ℕ) (k : ℕ) → k ≤ length text → position_or_len (λ b. b == c) text ≡ k → length (before_first (λ b. b == c) text) ≡ k
prefix_length c text k le e = omega (arith, ap length (sym (prefix_of c text k e)), length-take k text)

-- one selector more
pub dotted-push : (seen : List (Bor (List ℕ))) (piece : Bor (List ℕ)) (text more : List ℕ) → text ≡ dotted_text (filter is_full (map (λ s. s.now) seen)) → more ≡ text ++ dotted_text (filter is_full (piece.now ∷ []))
    → more ≡ dotted_text (filter is_full (map (λ s. s.now) (seen ++ piece ∷ [])))
dotted-push seen piece text more e is =
    let segs = map (λ s. s.now) seen in
    is ∙ ap (λ (t : List ℕ). t ++ dotted_text (filter is_full (piece.now ∷ []))) e ∙ sym (flat_map-append (λ s. 46 ∷ s) (filter is_full segs) (filter is_full (piece.now ∷ [])))
    ∙ ap dotted_text (sym (filter-append is_full segs (piece.now ∷ []))) ∙ ap (λ (l : List (List ℕ)). dotted_text (filter is_full l)) (sym (map-append (λ s. s.now) seen (piece ∷ [])))

-- without its first dot
pub undotted : (selectors : List (List ℕ)) (text : List ℕ) → text ≡ dotted_text selectors → ((rest : List ℕ) → text ≢ 46 ∷ rest) → [] ≡ drop 1 text
undotted [] text e none = sym (ap (drop 1) e)
undotted (s ∷ selectors) text e none = absurd (none (s ++ dotted_text selectors) e)
