-- The lines of a text are those, and those alone, that joined by CR LF are the text and hold none.
use Rattle.std.proofs.Common.{◌≡◌, ◌<◌, ℕ, Bool, true, false, cond, ◌&&◌, eqb, List, [], ◌∷◌, ◌++◌, length, refl, ap, sym, ◌∙◌, subst, arith, ◌⊎◌, inl, inr}
use Rattle.std.proofs.lemmas.Bool.{eqb-true}
use Rattle.std.specs.List.{onto_first, AllByRecursion}
use Rattle.form_input.specs.Lines.{is_line_end_pair, lines, lines_text}
use Rattle.form_input.specs.LineLaws.{HoldsLineEnd, IsOneLine, AreLinesOf}
use Rattle.form_input.proofs.LineLemmas.{joined_lines, lines_append, has_first}

later : (b : ℕ) (t : List ℕ) → HoldsLineEnd t → HoldsLineEnd (b ∷ t)
later b t h = record { before = b ∷ h.before; after = h.after; is = ap (λ (s : List ℕ). b ∷ s) h.is }

pair_is : (b c : ℕ) → is_line_end_pair b c ≡ true → (b ≡ 13) × (c ≡ 10)
pair_is b c e = go (eqb b 13) refl e
  where
    go : (x : Bool) → eqb b 13 ≡ x → (x && eqb c 10) ≡ true → (b ≡ 13) × (c ≡ 10)
    go true eb e = (eqb-true b 13 eb, eqb-true c 10 e)
    go false eb e = absurd cc

here : (b c : ℕ) (t : List ℕ) → is_line_end_pair b c ≡ true → HoldsLineEnd (b ∷ c ∷ t)
here b c t e = let both = pair_is b c e in record { before = []; after = t; is = rw (both.0, both.1) refl }

-- a text without CR LF is one line
one_line : (t : List ℕ) → IsOneLine t → lines t ≡ t ∷ []
unfolding lines
one_line [] none = refl
one_line (b ∷ []) none = refl
one_line (b ∷ c ∷ t) none = go (is_line_end_pair b c) refl (one_line (c ∷ t) (λ h. none (later b (c ∷ t) h)))
  where
    go : (x : Bool) → is_line_end_pair b c ≡ x → lines (c ∷ t) ≡ (c ∷ t) ∷ [] → cond x ([] ∷ lines t) (onto_first b (lines (c ∷ t))) ≡ (b ∷ c ∷ t) ∷ []
    go true e ih = absurd (none (here b c t e))
    go false e ih = ap (onto_first b) ih

-- a first line is empty or begins as the text does
pub begins_as : (c : ℕ) (l : List ℕ) → Type 0
begins_as c l = (l ≡ []) ⊎ ((rest : List ℕ) × (l ≡ c ∷ rest))

pub record FirstOf (c : ℕ) (ls : List (List ℕ)) : Type 0 where
  pub first : List ℕ
  pub more : List (List ℕ)
  pub is : ls ≡ first ∷ more
  pub begins : begins_as c first

onto_begins : (c : ℕ) (ls : List (List ℕ)) → FirstOf c (onto_first c ls)
unfolding begins_as
onto_begins c [] = record { first = c ∷ []; more = []; is = refl; begins = inr ([], refl) }
onto_begins c (l ∷ ls) = record { first = c ∷ l; more = ls; is = refl; begins = inr (l, refl) }

first_of : (c : ℕ) (t : List ℕ) → FirstOf c (lines (c ∷ t))
unfolding lines begins_as
first_of c [] = record { first = c ∷ []; more = []; is = refl; begins = inr ([], refl) }
first_of c (d ∷ t) = go (is_line_end_pair c d)
  where
    go : (x : Bool) → FirstOf c (cond x ([] ∷ lines t) (onto_first c (lines (d ∷ t))))
    go true = record { first = []; more = lines t; is = refl; begins = inl refl }
    go false = onto_begins c (lines (d ∷ t))

-- a byte before a line that holds none and doesn't begin with LF after CR
one_more : (b c : ℕ) (l : List ℕ) → is_line_end_pair b c ≡ false → begins_as c l → IsOneLine l → IsOneLine (b ∷ l)
unfolding begins_as
one_more b c l other begins none h = go h.before refl
  where
    pair : (after : List ℕ) → b ∷ l ≡ 13 ∷ 10 ∷ after → ⊥
    pair after e =
        let eb : b ≡ 13 = cc in
        let el : l ≡ 10 ∷ after = cc in
        elim begins as (λ _. ⊥) [
          | inl none ↦ (let f : [] ≡ 10 ∷ after = sym none ∙ el in absurd cc)
          | inr some ↦ (let f : some.0 ≡ some.0 = refl in let g : c ∷ some.0 ≡ 10 ∷ after = sym some.1 ∙ el in let ec : c ≡ 10 = cc in let t : is_line_end_pair b c ≡ true = rw (eb, ec) refl in absurd cc)
        ]

    go : (before : List ℕ) → h.before ≡ before → ⊥
    go [] e = pair h.after (h.is ∙ ap (λ (p : List ℕ). p ++ 13 ∷ 10 ∷ h.after) e)
    go (x ∷ before) e =
        let whole : b ∷ l ≡ x ∷ (before ++ 13 ∷ 10 ∷ h.after) = h.is ∙ ap (λ (p : List ℕ). p ++ 13 ∷ 10 ∷ h.after) e in
        none (record { before = before; after = h.after; is = cc })

empty_line : IsOneLine []
empty_line h = go h.before refl
  where
    go : (before : List ℕ) → h.before ≡ before → ⊥
    go [] e = let f : [] ≡ 13 ∷ 10 ∷ h.after = h.is ∙ ap (λ (p : List ℕ). p ++ 13 ∷ 10 ∷ h.after) e in absurd cc
    go (x ∷ before) e = let f : [] ≡ x ∷ (before ++ 13 ∷ 10 ∷ h.after) = h.is ∙ ap (λ (p : List ℕ). p ++ 13 ∷ 10 ∷ h.after) e in absurd cc

one_byte : (b : ℕ) → IsOneLine (b ∷ [])
unfolding begins_as
one_byte b = one_more b 0 [] (go (eqb b 13)) (inl refl) empty_line
  where
    go : (x : Bool) → (x && false) ≡ false
    go true = refl
    go false = refl

-- no line holds CR LF
each_line : (t : List ℕ) → AllByRecursion IsOneLine (lines t)
unfolding lines
each_line [] = (empty_line, tt)
each_line (b ∷ []) = (one_byte b, tt)
each_line (b ∷ c ∷ t) = go (is_line_end_pair b c) refl (each_line t) (each_line (c ∷ t)) (first_of c t)
  where
    onto : (ls : List (List ℕ)) (f : FirstOf c ls) → is_line_end_pair b c ≡ false → AllByRecursion IsOneLine ls → AllByRecursion IsOneLine (onto_first b ls)
    onto ls f e all =
        let both = subst (λ (ms : List (List ℕ)). AllByRecursion IsOneLine ms) f.is all in
        subst (λ (ms : List (List ℕ)). AllByRecursion IsOneLine (onto_first b ms)) (sym f.is) (one_more b c f.first e f.begins both.0, both.1)

    go : (x : Bool) → is_line_end_pair b c ≡ x → AllByRecursion IsOneLine (lines t) → AllByRecursion IsOneLine (lines (c ∷ t)) → FirstOf c (lines (c ∷ t))
        → AllByRecursion IsOneLine (cond x ([] ∷ lines t) (onto_first b (lines (c ∷ t))))
    go true e rest all f = (empty_line, rest)
    go false e rest all f = onto (lines (c ∷ t)) f e all

some_line : (t : List ℕ) → 0 < length (lines t)
some_line t = let h = has_first t in rw h.is (omega arith)

pub lines_found : (text : List ℕ) → AreLinesOf text (lines text)
lines_found text = record { some = some_line text; joined = joined_lines text; each = each_line text }

joined_only : (ls : List (List ℕ)) → 0 < length ls → AllByRecursion IsOneLine ls → lines (lines_text ls) ≡ ls
unfolding lines_text
joined_only [] some each = absurd (omega (arith, some))
joined_only (line ∷ []) some each = one_line line each.0
joined_only (line ∷ next ∷ more) some each =
    lines_append line (lines_text (next ∷ more)) ∙ ap (λ (ls : List (List ℕ)). ls ++ lines (lines_text (next ∷ more))) (one_line line each.0) ∙ ap (λ (ls : List (List ℕ)). line ∷ ls) (joined_only (next ∷ more) (omega arith) each.1)

pub lines_only : (text : List ℕ) (ls : List (List ℕ)) → AreLinesOf text ls → ls ≡ lines text
lines_only text ls are = sym (joined_only ls are.some are.each) ∙ ap lines are.joined
