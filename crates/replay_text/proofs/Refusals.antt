-- At which line a text is refused, by what stands before that line.
use Rattle.std.proofs.Common.{◌≡◌, ◌≢◌, ◌+◌, ◌-◌, ◌<◌, ◌≤◌, ◌++◌, ℕ, zero, suc, List, [], ◌∷◌, length, take, drop, sym, ◌∙◌, ap, subst, refl, arith, append_assoc, ⊎_elim, length-append}
use Rattle.std.proofs.lemmas.List.{take-append-drop, take-append-le}
use Rattle.std.proofs.lemmas.Bool.{cases_lt}
use Rattle.std.proofs.Math.Seq.{take-append-add}
use Rattle.replay_text.specs.Lines.{newlines}
use Rattle.replay_text.specs.Languages.{IsPrefixIn, IsRefusedAt}
use Rattle.replay_text.proofs.LineLaws.{newlines-append, newlines-take}

-- a prefix of a text of the language begins one
pub begins_leading : (A : List ℕ → Type 0) (k : ℕ) (text : List ℕ) → A text → IsPrefixIn A (take k text)
begins_leading A k text h = (drop k text, subst A (sym (take-append-drop k text)) h)

take_within : (k : ℕ) (leading rest other : List ℕ) → k ≤ length leading → take k (leading ++ other) ≡ take k (leading ++ rest)
take_within k leading rest other le = take-append-le k leading other le ∙ sym (take-append-le k leading rest le)

pub take_past : (k j : ℕ) (leading rest : List ℕ) → k ≡ length leading + j → take k (leading ++ rest) ≡ leading ++ take j rest
take_past k j leading rest e = ap (λ n. take n (leading ++ rest)) e ∙ take-append-add leading rest j

-- Where a text of A that begins with a prefix goes on as a text of B, the refusal is B's, after the newlines of the prefix.
pub refused_after : (A B : List ℕ → Type 0) (leading rest : List ℕ) (n : ℕ)
    → ((r : List ℕ) → A (leading ++ r) → B r) → ((r : List ℕ) → B r → A (leading ++ r)) → (w : List ℕ) → B w
    → IsRefusedAt B rest n → IsRefusedAt A (leading ++ rest) (newlines leading + n)
refused_after A B leading rest n to from w b refused = record {
  none = λ h. refused.none (to rest h);
  first = λ at lt begins not. ⊎_elim
      (λ (le : at < length leading). absurd (not
      (subst (IsPrefixIn A) (take_within (at + 1) leading rest w (omega arith)) (begins_leading A (at + 1) (leading ++ w) (from w b)))))
      (λ (ge : length leading ≤ at).
      let j = at - length leading in
      let here : take at (leading ++ rest) ≡ leading ++ take j rest = take_past at j leading rest (omega arith) in
      let next : take (at + 1) (leading ++ rest) ≡ leading ++ take (j + 1) rest = take_past (at + 1) (j + 1) leading rest (omega arith) in
      let begins_there : IsPrefixIn B (take j rest) = (
        begins.0,
        to (take j rest ++ begins.0)
            (subst A (ap (λ t. t ++ begins.0) here ∙ append_assoc leading (take j rest) begins.0) begins.1),
      ) in
      let not_there : IsPrefixIn B (take (j + 1) rest) → ⊥ = λ h. not (
        h.0,
        subst A (sym (ap (λ t. t ++ h.0) next ∙ append_assoc leading (take (j + 1) rest) h.0)) (from (take (j + 1) rest ++ h.0) h.1),
      ) in
      let lt_there : j < length rest = omega (arith, length-append leading rest) in
      ap newlines here ∙ newlines-append leading (take j rest) ∙ ap (λ k. newlines leading + k) (refused.first j lt_there begins_there not_there))
      (cases_lt at (length leading));
  early = λ begins. newlines-append leading rest ∙ ap (λ k. newlines leading + k)
      (refused.early (begins.0, to (rest ++ begins.0) (subst A (append_assoc leading rest begins.0) begins.1)));
}

-- A text is refused in its first line where no text of the language has that line.
pub refused_line : (A : List ℕ → Type 0) (line rest : List ℕ) → newlines line ≡ 0 → ((r : List ℕ) → A (line ++ 10 ∷ r) → ⊥)
    → IsRefusedAt A (line ++ 10 ∷ rest) 0
refused_line A line rest none bad = record {
  none = λ h. bad rest h;
  first = λ at lt begins not. ⊎_elim
      (λ (le : at < length line + 1).
      let within : at ≤ length line = omega arith in
      ap newlines (take-append-le at line (10 ∷ rest) within) ∙ newlines-take at line none)
      (λ (ge : length line + 1 ≤ at).
      let leading = line ++ 10 ∷ [] in
      let j = at - (length line + 1) in
      let size : length leading ≡ length line + 1 = length-append line (10 ∷ []) in
      let whole : leading ++ rest ≡ line ++ 10 ∷ rest = append_assoc line (10 ∷ []) rest in
      let here : take at (line ++ 10 ∷ rest) ≡ leading ++ take j rest
      = ap (take at) (sym whole) ∙ take_past at j leading rest (omega arith) in
      absurd (bad (take j rest ++ begins.0) (subst A
      (ap (λ t. t ++ begins.0) here ∙ append_assoc leading (take j rest) begins.0 ∙ append_assoc line (10 ∷ []) (take j rest ++ begins.0))
      begins.1)))
      (cases_lt at (length line + 1));
  early = λ begins. absurd (bad (rest ++ begins.0) (subst A (append_assoc line (10 ∷ rest) begins.0) begins.1));
}

-- A text that ends in its first line is refused there.
pub refused_end : (A : List ℕ → Type 0) (text : List ℕ) → newlines text ≡ 0 → (A text → ⊥) → IsRefusedAt A text 0
refused_end A text none bad = record {
  none = bad;
  first = λ at lt begins not. newlines-take at text none;
  early = λ begins. none;
}

-- nothing more may come
abbrev pub IsNothing : List ℕ → Type 0
IsNothing text = text ≡ []

pub refused_more : (text : List ℕ) → text ≢ [] → IsRefusedAt IsNothing text 0
refused_more [] some = absurd (some refl)
refused_more (b ∷ text) some = record {
  none = λ h. cc;
  first = λ at lt begins not. elim at as (λ k. IsPrefixIn IsNothing (take k (b ∷ text)) → newlines (take k (b ∷ text)) ≡ 0) [
    | zero ↦ λ _. refl
    | suc k ↦ λ h. let e : b ∷ (take k text ++ h.0) ≡ [] = h.1 in cc
  ] begins;
  early = λ begins. let e : b ∷ (text ++ begins.0) ≡ [] = begins.1 in cc;
}
