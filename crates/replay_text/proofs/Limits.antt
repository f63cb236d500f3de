-- A text over the limit is refused as its allowed prefix is.
use Rattle.std.proofs.Common.{◌≡◌, ◌+◌, ◌<◌, ◌≤◌, ◌++◌, ℕ, List, [], ◌∷◌, length, take, sym, ◌∙◌, ap, subst, refl, arith, ⊎_elim, length-append}
use Rattle.std.proofs.lemmas.List.{append-nil, take-append-le, take-take, length-take, length-take-le}
use Rattle.std.proofs.lemmas.Bool.{cases_lt}
use Rattle.replay_text.specs.Lines.{newlines}
use Rattle.replay_text.specs.Languages.{IsPrefixIn, IsRefusedAt, IsRefusedWithin, RefusesWithin}
use Rattle.replay_text.specs.Reading.{Refuses}
use Rattle.replay_text.specs.declared.scenario.ScenarioFault.{ScenarioFault}
use Rattle.replay_text.specs.declared.scenario.ScenarioFault.TheVariants.{Line, NoMemory}
use Rattle.replay_text.proofs.Refusals.{begins_leading}

-- a text that isn't too long is refused as ever
pub within_short : (A : List ℕ → Type 0) (most : ℕ) (text : List ℕ) (n : ℕ) → length text ≤ most → IsRefusedAt A text n → IsRefusedWithin most A text n
within_short A most text n short r = record {
  none = λ h. r.none h.0;
  first = λ at lt begins not. r.first at lt begins.0 (λ h. not (h, omega (arith, length-take (at + 1) text)));
  early = λ begins. r.early begins.0;
}

-- of one that is too long, its allowed prefix decides
pub within_long : (A : List ℕ → Type 0) (most : ℕ) (text : List ℕ) (n : ℕ) → most < length text
    → ((at : ℕ) → at < most → IsPrefixIn A (take at text) → (IsPrefixIn A (take (at + 1) text) → ⊥) → newlines (take at text) ≡ n)
    → (IsPrefixIn A (take most text) → newlines (take most text) ≡ n) → IsRefusedWithin most A text n
within_long A most text n long first early = record {
  none = λ h. absurd (omega (arith, h.1));
  first = λ at lt begins not.
      let small : at ≤ most = omega (arith, begins.1, length-take-le at text (omega arith)) in
      ⊎_elim
      (λ (less : at < most). first at less begins.0 (λ h. not (h, omega (arith, length-take-le (at + 1) text (omega arith)))))
      (λ (ge : most ≤ at).
      let same : at ≡ most = omega arith in
      ap (λ k. newlines (take k text)) same ∙ early (subst (λ k. IsPrefixIn A (take k text)) same begins.0))
      (cases_lt at most);
  early = λ begins. absurd (omega (arith, begins.1));
}

pub long_refused : (A : List ℕ → Type 0) (most : ℕ) (text : List ℕ) (n : ℕ) → most < length text → IsRefusedAt A (take most text) n
    → IsRefusedWithin most A text n
long_refused A most text n long r =
    let size : length (take most text) ≡ most = length-take-le most text (omega arith) in
    within_long A most text n long
    (λ at less begins not.
    let here : take at (take most text) ≡ take at text = take-take at most text (omega arith) in
    let next : take (at + 1) (take most text) ≡ take (at + 1) text = take-take (at + 1) most text (omega arith) in
    ap newlines (sym here) ∙ r.first at (omega arith) (subst (IsPrefixIn A) (sym here) begins) (λ h. not (subst (IsPrefixIn A) next h)))
    (λ begins. r.early begins)

pub long_whole : (A : List ℕ → Type 0) (most : ℕ) (text : List ℕ) → most < length text → A (take most text)
    → IsRefusedWithin most A text (newlines (take most text))
long_whole A most text long h = within_long A most text (newlines (take most text)) long
    (λ at less begins not.
    let next : take (at + 1) (take most text) ≡ take (at + 1) text = take-take (at + 1) most text (omega arith) in
    absurd (not (subst (IsPrefixIn A) next (begins_leading A (at + 1) (take most text) h))))
    (λ begins. refl)

newlines_short : (text : List ℕ) → newlines text ≤ length text
newlines_short [] = omega arith
newlines_short (b ∷ text) = grind (arith, newlines_short text)

-- the answers of the limited reader
pub refuses_short : (A : List ℕ → Type 0) (most : ℕ) (text : List ℕ) (fault : ScenarioFault) → length text ≤ most → Refuses A text fault
    → RefusesWithin most A text fault
refuses_short A most text (Line n) short r = (
  (λ rest none. subst (λ t. IsRefusedWithin most A t n) (sym (ap (λ e. text ++ e) (none short) ∙ append-nil text))
      (within_short A most text n short r.0)),
  r.1,
)
refuses_short A most text NoMemory short r = tt

long_leading : (most : ℕ) (text rest : List ℕ) → most < length text → take most (text ++ rest) ≡ take most text
long_leading most text rest long = take-append-le most text rest (omega arith)

pub refuses_long : (A : List ℕ → Type 0) (most : ℕ) (text : List ℕ) (fault : ScenarioFault) → most < length text → Refuses A (take most text) fault
    → RefusesWithin most A text fault
refuses_long A most text (Line n) long r = (
  (λ rest none. long_refused A most (text ++ rest) n (omega (arith, length-append text rest))
      (subst (λ t. IsRefusedAt A t n) (sym (long_leading most text rest long)) r.0)),
  omega (arith, r.1, length-take most text),
)
refuses_long A most text NoMemory long r = tt

pub refuses_whole : (A : List ℕ → Type 0) (most : ℕ) (text : List ℕ) → most < length text → A (take most text)
    → RefusesWithin most A text (Line (newlines (take most text)))
refuses_whole A most text long h = (
  (λ rest none. let same = long_leading most text rest long in
      subst (λ k. IsRefusedWithin most A (text ++ rest) (newlines k)) same
      (long_whole A most (text ++ rest) (omega (arith, length-append text rest)) (subst A (sym same) h))),
  omega (arith, newlines_short (take most text), length-take most text),
)
