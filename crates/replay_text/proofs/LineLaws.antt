-- Lines and the newlines before a place.
use Rattle.std.proofs.Common.{◌≡◌, ◌+◌, ◌<◌, ◌++◌, ℕ, List, [], ◌∷◌, length, take, drop, sym, ◌∙◌, ap, subst, refl, append_assoc, arith, eqb, get_or, false, ◌==◌, if◌then◌else◌}
use Rattle.std.proofs.lemmas.Bool.Decides.{nat_tests}
use Rattle.std.proofs.lemmas.List.{take-append-drop, take_more}
use Rattle.replay_text.specs.Lines.{newlines, text_of_lines}

pub newlines-append : (a b : List ℕ) → newlines (a ++ b) ≡ newlines a + newlines b
newlines-append [] b = omega arith
newlines-append (x ∷ a) b = omega (arith, newlines-append a b)

pub newlines-take : (k : ℕ) (line : List ℕ) → newlines line ≡ 0 → newlines (take k line) ≡ 0
newlines-take k line none =
    let e = ap newlines (take-append-drop k line) in
    omega (arith, newlines-append (take k line) (drop k line), e)

-- a line without a newline doesn't begin with one
pub no_newline_first : (y : ℕ) (line : List ℕ) → newlines (y ∷ line) ≡ 0 → y ≡ 10 → ⊥
no_newline_first y line none e =
    let P : ℕ → Type 0 = λ v. newlines (v ∷ line) ≡ 0 in
    let h : newlines (10 ∷ line) ≡ 0 = subst P e none in
    absurd (omega (arith, h))

pub text_of_lines-append : (a b : List (List ℕ)) → text_of_lines (a ++ b) ≡ text_of_lines a ++ text_of_lines b
text_of_lines-append [] b = refl
text_of_lines-append (l ∷ a) b = ap (λ t. l ++ 10 ∷ t) (text_of_lines-append a b) ∙ sym (append_assoc l (10 ∷ text_of_lines a) (text_of_lines b))

-- a text has one first line
pub one_first_line : (l m r s : List ℕ) → newlines l ≡ 0 → newlines m ≡ 0 → l ++ 10 ∷ r ≡ m ++ 10 ∷ s → (l ≡ m) × (r ≡ s)
one_first_line [] [] r s p q e = (refl, cc)
one_first_line [] (y ∷ m) r s p q e = let h : y ≡ 10 = cc in absurd (no_newline_first y m q h)
one_first_line (x ∷ l) [] r s p q e = let h : x ≡ 10 = cc in absurd (no_newline_first x l p h)
one_first_line (x ∷ l) (y ∷ m) r s p q e =
    let rest : l ++ 10 ∷ r ≡ m ++ 10 ∷ s = cc in
    let heads : x ≡ y = cc in
    let same = one_first_line l m r s (omega (arith, p)) (omega (arith, q)) rest in
    (cc (same.0, heads), same.1)

pub newlines_more : (text : List ℕ) (i : ℕ) → i < length text → newlines (take i text) ≡ 0 → (get_or text i 0 ≡ 10 → ⊥) → newlines (take (i + 1) text) ≡ 0
newlines_more text i lt none other =
    let tests : eqb (get_or text i 0) 10 ≡ false = grind (arith, nat_tests) in
    let last : newlines (get_or text i 0 ∷ []) ≡ 0 = rw tests (omega arith) in
    ap newlines (take_more text i 0 lt) ∙ omega (arith, newlines-append (take i text) (get_or text i 0 ∷ []), last, none)

pub newlines_step : (text : List ℕ) (i : ℕ) → i < length text
    → newlines (take (i + 1) text) ≡ newlines (take i text) + (if get_or text i 0 == 10 then 1 else 0)
newlines_step text i lt = ap newlines (take_more text i 0 lt) ∙ omega (arith, newlines-append (take i text) (get_or text i 0 ∷ []))

pub newlines_step_yes : (text : List ℕ) (i : ℕ) → i < length text → get_or text i 0 ≡ 10 → newlines (take (i + 1) text) ≡ newlines (take i text) + 1
newlines_step_yes text i lt e = newlines_step text i lt ∙ ap (λ (b : ℕ). newlines (take i text) + (if b == 10 then 1 else 0)) e

pub newlines_step_no : (text : List ℕ) (i : ℕ) → i < length text → (get_or text i 0 ≡ 10 → ⊥) → newlines (take (i + 1) text) ≡ newlines (take i text)
newlines_step_no text i lt e =
    let tests : eqb (get_or text i 0) 10 ≡ false = grind (arith, nat_tests) in
    newlines_step text i lt ∙ rw tests (omega arith)
