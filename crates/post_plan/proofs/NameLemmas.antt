-- A made name, byte by byte.
use Rattle.std.proofs.Common.{◌≡◌, ◌<◌, ◌≤◌, ◌-◌, ℕ, Bool, true, false, List, [], ◌∷◌, ◌++◌, take, drop, get_or, length, refl, ap, sym, ◌∙◌, arith, append_assoc, length-append}
use Rattle.std.proofs.Math.Seq.{take-append_seam}
use Rattle.std.proofs.lemmas.List.{append-nil, take_all, take_rest}
use Rattle.std.proofs.lemmas.Bool.Decides.{nat_tests}
use Rattle.std.specs.Char.{is_ascii_alphanumeric, to_ascii_lowercase}
use Rattle.post_plan.specs.NewNames.{name_bytes}

-- the name of a word's first bytes, and the rest of them
pub record IsSqueezed (word name : List ℕ) (run : Bool) (rest : List ℕ) : Type 0 where
  pub same : name_bytes false word ≡ name ++ name_bytes run rest
  pub few : length name ≤ 20

pub letter : (word name more : List ℕ) (run : Bool) (b : ℕ) (rest : List ℕ) → IsSqueezed word name run (b ∷ rest) → is_ascii_alphanumeric b ≡ true → (length name ≡ 20 → ⊥) → more ≡ name ++ to_ascii_lowercase b ∷ [] → IsSqueezed word more false rest
unfolding name_bytes
letter word name more run b rest inv is other em =
    let few = inv.few in
    let here : name_bytes run (b ∷ rest) ≡ to_ascii_lowercase b ∷ name_bytes false rest = rw is refl in
    record {
      same = rw em (inv.same ∙ ap (λ (t : List ℕ). name ++ t) here ∙ sym (append_assoc name (to_ascii_lowercase b ∷ []) (name_bytes false rest)));
      few = rw em (rw length-append (omega (arith, few, other)));
    }

pub begins_run : (word name more : List ℕ) (b : ℕ) (rest : List ℕ) → IsSqueezed word name false (b ∷ rest) → is_ascii_alphanumeric b ≡ false → (length name ≡ 20 → ⊥) → more ≡ name ++ 95 ∷ [] → IsSqueezed word more true rest
unfolding name_bytes
begins_run word name more b rest inv is other em =
    let few = inv.few in
    let here : name_bytes false (b ∷ rest) ≡ 95 ∷ name_bytes true rest = rw is refl in
    record {
      same = rw em (inv.same ∙ ap (λ (t : List ℕ). name ++ t) here ∙ sym (append_assoc name (95 ∷ []) (name_bytes true rest)));
      few = rw em (rw length-append (omega (arith, few, other)));
    }

pub goes_on_run : (word name : List ℕ) (b : ℕ) (rest : List ℕ) → IsSqueezed word name true (b ∷ rest) → is_ascii_alphanumeric b ≡ false → IsSqueezed word name true rest
unfolding name_bytes
goes_on_run word name b rest inv is =
    let here : name_bytes true (b ∷ rest) ≡ name_bytes true rest = rw is refl in
    record { same = inv.same ∙ ap (λ (t : List ℕ). name ++ t) here; few = inv.few }

pub full : (word name : List ℕ) (run : Bool) (rest : List ℕ) → IsSqueezed word name run rest → length name ≡ 20 → name ≡ take 20 (name_bytes false word)
full word name run rest inv n = sym (ap (take 20) inv.same ∙ rw (← n) (take-append_seam name (name_bytes run rest)))

pub ended : (word name : List ℕ) (run : Bool) → IsSqueezed word name run [] → name ≡ take 20 (name_bytes false word)
unfolding name_bytes
ended word name run inv =
    let few = inv.few in
    sym (ap (take 20) (inv.same ∙ append-nil name) ∙ take_all 20 name few)

-- the same of a text that isn't empty, by its first byte
pub letter_at : (word name more : List ℕ) (run : Bool) (rest : List ℕ) → 1 ≤ length rest → IsSqueezed word name run rest → is_ascii_alphanumeric (get_or rest 0 0) ≡ true → (length name ≡ 20 → ⊥)
    → more ≡ name ++ to_ascii_lowercase (get_or rest 0 0) ∷ [] → IsSqueezed word more false (take (length rest - 1) (drop 1 rest))
letter_at word name more run [] some inv is other em = absurd (omega (arith, some))
letter_at word name more run (b ∷ t) some inv is other em = rw take_rest (letter word name more run b t inv is other em)

pub begins_at : (word name more : List ℕ) (run : Bool) (rest : List ℕ) → 1 ≤ length rest → IsSqueezed word name run rest → is_ascii_alphanumeric (get_or rest 0 0) ≡ false → run ≡ false → (length name ≡ 20 → ⊥)
    → more ≡ name ++ 95 ∷ [] → IsSqueezed word more true (take (length rest - 1) (drop 1 rest))
begins_at word name more run [] some inv is none other em = absurd (omega (arith, some))
begins_at word name more true (b ∷ t) some inv is none other em = absurd cc
begins_at word name more false (b ∷ t) some inv is none other em = rw take_rest (begins_run word name more b t inv is other em)

pub goes_on_at : (word name : List ℕ) (run : Bool) (rest : List ℕ) → 1 ≤ length rest → IsSqueezed word name run rest → is_ascii_alphanumeric (get_or rest 0 0) ≡ false → run ≡ true → IsSqueezed word name run (take (length rest - 1) (drop 1 rest))
goes_on_at word name run [] some inv is running = absurd (omega (arith, some))
goes_on_at word name true (b ∷ t) some inv is running = rw take_rest (goes_on_run word name b t inv is)
goes_on_at word name false (b ∷ t) some inv is running = absurd cc

pub ended_at : (word name : List ℕ) (run : Bool) (rest : List ℕ) → length rest < 1 → IsSqueezed word name run rest → name ≡ take 20 (name_bytes false word)
ended_at word name run [] none inv = ended word name run inv
ended_at word name run (b ∷ t) none inv = absurd (omega (arith, none))

-- a letter or a digit is one byte
pub low_letter : (b : ℕ) → is_ascii_alphanumeric b ≡ true → to_ascii_lowercase b < 128
low_letter b e = grind (arith, nat_tests)
