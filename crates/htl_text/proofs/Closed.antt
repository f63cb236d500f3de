-- Where a "}" closes an expression.
use Rattle.std.proofs.Common.{◌≡◌, ◌+◌, ℕ, suc, Bool, true, false, cond, eqb, List, [], ◌∷◌, ◌++◌, length, Option, Some, None, Err, refl, ap, sym, subst, ◌∙◌, inl, inr, arith, append_assoc}
use Rattle.std.proofs.lemmas.Bool.{eqb-true}
use Rattle.std.proofs.lemmas.List.{length-append, take_at, drop_at}
use Rattle.sp_base.proofs.BoolLemmas.{cond_either}
use Rattle.sp_base.proofs.NatLemmas.{nat_eq_itself}
use Rattle.htl_syntax.specs.Fault.{expression_of}
use Rattle.htl_syntax.specs.Tokens.{is_quote}
use Rattle.htl_text.specs.declared.fault.TextFault.{TextFault}
use Rattle.htl_text.specs.declared.quotes.Quotes.{Quotes}
use Rattle.htl_text.specs.declared.quotes.Quotes.TheVariants as state
use Rattle.htl_text.specs.Template.{quotes_step, closes_expression, closing, read_value, value_at}
use Rattle.htl_text.specs.Spelling.{Quotation, Inside, NeverCloses}
use Rattle.htl_text.specs.Spelling as s

-- a mark is no backslash, and no "}"
mark_apart : (n mark : ℕ) → is_quote n ≡ false → is_quote mark ≡ true → eqb n mark ≡ false
mark_apart n mark other h = go (eqb n mark) refl
  where
    go : (b : Bool) → eqb n mark ≡ b → b ≡ false
    go true e = absurd (let same : is_quote n ≡ is_quote mark = ap is_quote (eqb-true n mark e) in cc)
    go false e = refl

-- ---- what the search finds

-- what may stand before the closing brace, by where the text begins
abbrev From : Quotes → List ℕ → Type 0
From state.Outside w = Inside w
From (state.Inside mark) w = (u : List ℕ) × (v : List ℕ) × (w ≡ u ++ v) × Quotation mark u × Inside v
From (state.Escaped mark) w = (c : ℕ) × (u : List ℕ) × (v : List ℕ) × (w ≡ c ∷ (u ++ v)) × Quotation mark u × Inside v

-- a text that is closed at a place
pub record Closed (quotes : Quotes) (n : ℕ) (t : List ℕ) (m : ℕ) : Type 0 where
  pub inside : List ℕ
  pub text : List ℕ
  pub parts : t ≡ inside ++ 125 ∷ text
  pub place : n + length inside ≡ m
  pub closed : From quotes inside

from : (quotes : Quotes) (c : ℕ) (w : List ℕ) → closes_expression quotes c ≡ false → From (quotes_step quotes c) w → From quotes (c ∷ w)
from state.Outside c w left x = go (is_quote c) refl x
  where
    go : (b : Bool) → is_quote c ≡ b → From (cond b (state.Inside c) state.Outside) w → Inside (c ∷ w)
    go true e y = subst (λ (t : List ℕ). Inside (c ∷ t)) (sym y.2) (s.string e y.3 y.4)
    go false e y = s.byte left e y
from (state.Inside mark) c w left x = go (eqb c mark) (eqb c 92) refl refl x
  where
    go : (a b : Bool) → eqb c mark ≡ a → eqb c 92 ≡ b → From (cond a state.Outside (cond b (state.Escaped mark) (state.Inside mark))) w → From (state.Inside mark) (c ∷ w)
    go true b ea eb y = (c ∷ [], w, refl, subst (λ (d : ℕ). Quotation mark (d ∷ [])) (sym (eqb-true c mark ea)) s.closes, y)
    go false true ea eb y = (c ∷ y.0 ∷ y.1, y.2, ap (λ (t : List ℕ). c ∷ t) y.3, subst (λ (d : ℕ). Quotation mark (d ∷ y.0 ∷ y.1)) (sym (eqb-true c 92 eb)) (s.escape y.4), y.5)
    go false false ea eb y = (c ∷ y.0, y.1, ap (λ (t : List ℕ). c ∷ t) y.2, s.other ea eb y.3, y.4)
from (state.Escaped mark) c w left x = (c, x.0, x.1, ap (λ (t : List ℕ). c ∷ t) x.2, x.3, x.4)

closed_here : (quotes : Quotes) (c n : ℕ) (t : List ℕ) (m : ℕ) → closes_expression quotes c ≡ true → Some n ≡ Some m → Closed quotes n (c ∷ t) m
closed_here state.Outside c n t m h e = let same : n ≡ m = cc in record { inside = []; text = t; parts = ap (λ (d : ℕ). d ∷ t) (eqb-true c 125 h); place = omega (arith, same); closed = s.nothing }
closed_here (state.Inside mark) c n t m h e = absurd cc
closed_here (state.Escaped mark) c n t m h e = absurd cc

-- the place that is found closes the text
pub closed : (quotes : Quotes) (n : ℕ) (t : List ℕ) (m : ℕ) → closing quotes n t ≡ Some m → Closed quotes n t m
unfolding closing
closed quotes n [] m h = absurd cc
closed quotes n (c ∷ t) m h =
    elim (cond_either (closes_expression quotes c) _ _ _ h) [
      | inl x ↦ closed_here quotes c n t m x.0 x.1
      | inr x ↦
          let ih = closed (quotes_step quotes c) (n + 1) t m x.1 in
          let place = ih.place in
          record { inside = c ∷ ih.inside; text = ih.text; parts = ap (λ (u : List ℕ). c ∷ u) ih.parts; place = omega (arith, place); closed = from quotes c ih.inside x.0 ih.closed }
    ]

-- ---- what is found of a text that is closed

-- quotes are passed up to their mark
quoted_passed : (mark n : ℕ) (w u : List ℕ) → eqb 92 mark ≡ false → Quotation mark w → closing (state.Inside mark) n (w ++ u) ≡ closing state.Outside (n + length w) u
unfolding closing
quoted_passed mark n _ u m s.closes = rw (nat_eq_itself mark) refl
quoted_passed mark n _ u m (s.other {t = t} a b x) =
    let more : (n + 1) + length t ≡ n + suc (length t) = omega arith in
    rw (a, b) (quoted_passed mark (n + 1) t u m x ∙ ap (λ (k : ℕ). closing state.Outside k u) more)
quoted_passed mark n _ u m (s.escape {t = t} x) =
    let more : (n + 1 + 1) + length t ≡ n + suc (suc (length t)) = omega arith in
    rw m (quoted_passed mark (n + 1 + 1) t u m x ∙ ap (λ (k : ℕ). closing state.Outside k u) more)

-- what may stand between the braces is passed
inside_passed : (n : ℕ) (w u : List ℕ) → Inside w → closing state.Outside n (w ++ u) ≡ closing state.Outside (n + length w) u
unfolding closing
inside_passed n _ u s.nothing = ap (λ (k : ℕ). closing state.Outside k u) (let none : n ≡ n + 0 = omega arith in none)
inside_passed n _ u (s.byte {t = t} a b x) =
    let more : (n + 1) + length t ≡ n + suc (length t) = omega arith in
    rw (a, b) (inside_passed (n + 1) t u x ∙ ap (λ (k : ℕ). closing state.Outside k u) more)
inside_passed n _ u (s.string {mark = mark} {w = w} {t = t} e y x) =
    let other : eqb mark 125 ≡ false = apart mark e in
    let size = length-append w t in
    let more : ((n + 1) + length w) + length t ≡ n + suc (length (w ++ t)) = omega (arith, size) in
    rw (other, e) (ap (closing (state.Inside mark) (n + 1)) (append_assoc w t u)
    ∙ quoted_passed mark (n + 1) w (t ++ u) (mark_apart 92 mark refl e) y
    ∙ inside_passed ((n + 1) + length w) t u x
    ∙ ap (λ (k : ℕ). closing state.Outside k u) more)
  where
    apart : (mark : ℕ) → is_quote mark ≡ true → eqb mark 125 ≡ false
    apart mark e = go (eqb mark 125) refl
      where
        go : (b : Bool) → eqb mark 125 ≡ b → b ≡ false
        go true f = absurd (let same : is_quote mark ≡ is_quote 125 = ap is_quote (eqb-true mark 125 f) in cc)
        go false f = refl

brace_closes : (n : ℕ) (u : List ℕ) → closing state.Outside n (125 ∷ u) ≡ Some n
unfolding closing
brace_closes n u = refl

pub closed_again : (w u : List ℕ) → Inside w → closing state.Outside 0 (w ++ 125 ∷ u) ≡ Some (length w)
closed_again w u x = let same : 0 + length w ≡ length w = omega arith in inside_passed 0 w (125 ∷ u) x ∙ brace_closes (0 + length w) u ∙ ap Some same

pub never_closes : (t : List ℕ) → closing state.Outside 0 t ≡ None → NeverCloses t
never_closes t h w u e x = let some = closed_again w u x in let none = rw e at h in absurd cc

pub none_closes : (t : List ℕ) → NeverCloses t → closing state.Outside 0 t ≡ None
none_closes t h = go (closing state.Outside 0 t) refl
  where
    go : (o : Option ℕ) → closing state.Outside 0 t ≡ o → o ≡ None
    go None e = refl
    go (Some m) e = let x = closed state.Outside 0 t m e in absurd (h x.inside x.text x.parts x.closed)

-- what is read of an expression that is closed
pub value_is : (place : ℕ) (w u : List ℕ) → Inside w → value_at place (36 ∷ 123 ∷ (w ++ 125 ∷ u)) ≡ read_value place u (expression_of w)
unfolding value_at
value_is place w u x =
    rw (closed_again w u x, take_at w (125 ∷ u) (length w) refl, drop_at w (125 ∷ u) (length w) refl) refl

-- what is read of one that isn't
pub value_open : (place : ℕ) (t : List ℕ) → closing state.Outside 0 t ≡ None → value_at place (36 ∷ 123 ∷ t) ≡ Err (TextFault.Unclosed place)
unfolding value_at
value_open place t h = rw h refl
