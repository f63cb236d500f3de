-- The same of strings.
use Rattle.std.proofs.Common.{◌≡◌, ℕ, Bool, true, false, eqb, List, [], ◌∷◌, ◌++◌, length, Option, Some, None, Ok, Err, refl, ap, sym, subst, ◌∙◌, inl, inr}
use Rattle.sp_base.specs.Outcomes.{◌>>=◌}
use Rattle.sp_base.proofs.BoolLemmas.{cond_either}
use Rattle.htl_syntax.specs.declared.stop.ExprStop.{ExprStop}
use Rattle.htl_syntax.specs.declared.stop.ExprStop.TheVariants.{Unexpected}
use Rattle.htl_syntax.specs.Tokens.{Outcome, done, blanks_skipped, string, string_from, unescape, is_quote}
use Rattle.htl_syntax.proofs.Tools.{bind_ok, ok_is}
use Rattle.htl_syntax.proofs.Local.{bind_err, Same, nil_same, Kept, Failed, Local, err_is}
use Rattle.htl_syntax.proofs.LocalTokens.{blanks}

-- a byte before the text, that makes what is after it
body_ok : (b b' : Bool) (mark c : ℕ) (s : List ℕ) (make : List ℕ → List ℕ) (x r : List ℕ)
    → ((t : List ℕ) → string_from b mark (c ∷ t) ≡ (string_from b' mark t >>= λ y. Ok (make y.0, y.1)))
    → ((y q : List ℕ) → string_from b' mark s ≡ Ok (y, q) → Kept (string_from b' mark) s y q) → string_from b mark (c ∷ s) ≡ Ok (x, r) → Kept (string_from b mark) (c ∷ s) x r
body_ok b b' mark c s make x r step ih e =
    let w = bind_ok (string_from b' mark s) (λ y. Ok (make y.0, y.1)) (x, r) (sym (step s) ∙ e) in
    let k = ih w.0.0 w.0.1 w.1 in
    subst (λ (q : List ℕ × List ℕ). Kept (string_from b mark) (c ∷ s) q.0 q.1) (ok_is _ _ w.2)
    (record { leading = c ∷ k.leading; parts = ap (λ (t : List ℕ). c ∷ t) k.parts; same = λ z h. step (k.leading ++ z) ∙ ap (λ (o : Outcome (List ℕ)). o >>= λ y. done (make y.0, y.1)) (k.same z h) })

body_err : (b b' : Bool) (mark c : ℕ) (s : List ℕ) (make : List ℕ → List ℕ) (d : ExprStop)
    → ((t : List ℕ) → string_from b mark (c ∷ t) ≡ (string_from b' mark t >>= λ y. Ok (make y.0, y.1)))
    → (string_from b' mark s ≡ Err d → Failed (string_from b' mark) d s) → string_from b mark (c ∷ s) ≡ Err d → Failed (string_from b mark) d (c ∷ s)
body_err b b' mark c s make d step ih e =
    elim (bind_err (string_from b' mark s) (λ y. done (make y.0, y.1)) d (sym (step s) ∙ e)) [
      | inl at ↦ (let k = ih at in
          record { leading = c ∷ k.leading; rest = k.rest; parts = ap (λ (t : List ℕ). c ∷ t) k.parts; left = k.left; same = λ z h. step (k.leading ++ z) ∙ ap (λ (o : Outcome (List ℕ)). o >>= λ y. done (make y.0, y.1)) (k.same z h) })
      | inr at ↦ absurd (let z = at.2 in cc)
    ]

same_again : (o : Outcome (List ℕ)) → o ≡ (o >>= λ y. done (y.0, y.1))
same_again (Ok y) = refl
same_again (Err e) = refl

abbrev got_text : List ℕ → List ℕ → Outcome (List ℕ)
got_text x r = Ok (x, r)

closed : (mark c : ℕ) (s x r : List ℕ) → eqb c mark ≡ true → string_from false mark (c ∷ s) ≡ Ok (x, r) → Kept (string_from false mark) (c ∷ s) x r
unfolding string_from
closed mark c s x r m e =
    let bl = blanks s in
    let e' : got_text [] (blanks_skipped s) ≡ got_text x r = rw m at e in
    subst (λ (q : List ℕ × List ℕ). Kept (string_from false mark) (c ∷ s) q.0 q.1) (ok_is _ _ e')
    (record { leading = c ∷ bl.leading; parts = ap (λ (t : List ℕ). c ∷ t) bl.parts; same = λ z h. rw (m, bl.same z h) refl })

step_escape : (mark c d : ℕ) → unescape c ≡ Some d → (t : List ℕ) → string_from true mark (c ∷ t) ≡ (string_from false mark t >>= λ y. Ok (d ∷ y.0, y.1))
unfolding string_from
step_escape mark c d u t = rw u refl

step_slash : (mark c : ℕ) → eqb c mark ≡ false → eqb c 92 ≡ true → (t : List ℕ) → string_from false mark (c ∷ t) ≡ (string_from true mark t >>= λ y. Ok (y.0, y.1))
unfolding string_from
step_slash mark c m b t = rw (m, b) (same_again (string_from true mark t))

step_plain : (mark c : ℕ) → eqb c mark ≡ false → eqb c 92 ≡ false → (t : List ℕ) → string_from false mark (c ∷ t) ≡ (string_from false mark t >>= λ y. Ok (c ∷ y.0, y.1))
unfolding string_from
step_plain mark c m b t = rw (m, b) refl

no_escape : (mark c : ℕ) (s : List ℕ) → unescape c ≡ None → string_from true mark (c ∷ s) ≡ Err (Unexpected (length (c ∷ s)))
unfolding string_from
no_escape mark c s u = rw u refl

at_end : (b : Bool) (mark : ℕ) → string_from b mark [] ≡ Err (Unexpected 0)
unfolding string_from
at_end true mark = refl
at_end false mark = refl

string_ok : (b : Bool) (mark : ℕ) (s x r : List ℕ) → string_from b mark s ≡ Ok (x, r) → Kept (string_from b mark) s x r
string_ok b mark [] x r e = absurd (let w = at_end b mark in cc)
string_ok true mark (c ∷ s) x r e = go (unescape c) refl (λ y q w. string_ok false mark s y q w)
  where
    go : (o : Option ℕ) → unescape c ≡ o → ((y q : List ℕ) → string_from false mark s ≡ Ok (y, q) → Kept (string_from false mark) s y q) → Kept (string_from true mark) (c ∷ s) x r
    go None u ih = absurd (let w = no_escape mark c s u in cc)
    go (Some d) u ih = body_ok true false mark c s (λ y. d ∷ y) x r (step_escape mark c d u) ih e
string_ok false mark (c ∷ s) x r e = go (eqb c mark) (eqb c 92) refl refl (λ b y q w. string_ok b mark s y q w)
  where
    go : (m b : Bool) → eqb c mark ≡ m → eqb c 92 ≡ b → ((b' : Bool) (y q : List ℕ) → string_from b' mark s ≡ Ok (y, q) → Kept (string_from b' mark) s y q) → Kept (string_from false mark) (c ∷ s) x r
    go true b m-is b-is ih = closed mark c s x r m-is e
    go false true m-is b-is ih = body_ok false true mark c s (λ y. y) x r (step_slash mark c m-is b-is) (ih true) e
    go false false m-is b-is ih = body_ok false false mark c s (λ y. c ∷ y) x r (step_plain mark c m-is b-is) (ih false) e

stays_at : (mark c : ℕ) (s z : List ℕ) → unescape c ≡ None → Same (c ∷ s) z → string_from true mark z ≡ Err (Unexpected (length z))
stays_at mark c s [] u h = absurd h.0
stays_at mark c s (d ∷ z) u h = no_escape mark d z (ap unescape (sym h.0) ∙ u)

close_no : (mark c : ℕ) (s : List ℕ) (d : ExprStop) → eqb c mark ≡ true → string_from false mark (c ∷ s) ≡ Err d → ⊥
unfolding string_from
close_no mark c s d m e = let e' : got_text [] (blanks_skipped s) ≡ Err d = rw m at e in cc

string_err : (b : Bool) (mark : ℕ) (d : ExprStop) (s : List ℕ) → string_from b mark s ≡ Err d → Failed (string_from b mark) d s
string_err b mark d [] e =
    subst (λ (k : ExprStop). Failed (string_from b mark) k []) (err_is {A = List ℕ} (Unexpected 0) d (sym (at_end b mark) ∙ e))
    (record { leading = []; rest = []; parts = refl; left = refl; same = λ z h. (let k : z ≡ [] = nil_same z h in rw k (at_end b mark)) })
string_err true mark d (c ∷ s) e = go (unescape c) refl (λ w. string_err false mark d s w)
  where
    go : (o : Option ℕ) → unescape c ≡ o → (string_from false mark s ≡ Err d → Failed (string_from false mark) d s) → Failed (string_from true mark) d (c ∷ s)
    go None u ih =
        subst (λ (k : ExprStop). Failed (string_from true mark) k (c ∷ s)) (err_is {A = List ℕ} (Unexpected (length (c ∷ s))) d (sym (no_escape mark c s u) ∙ e))
        (record { leading = []; rest = c ∷ s; parts = refl; left = refl; same = λ z h. stays_at mark c s z u h })
    go (Some b) u ih = body_err true false mark c s (λ y. b ∷ y) d (step_escape mark c b u) ih e
string_err false mark d (c ∷ s) e = go (eqb c mark) (eqb c 92) refl refl (λ b w. string_err b mark d s w)
  where
    go : (m b : Bool) → eqb c mark ≡ m → eqb c 92 ≡ b → ((b' : Bool) → string_from b' mark s ≡ Err d → Failed (string_from b' mark) d s) → Failed (string_from false mark) d (c ∷ s)
    go true b m-is b-is ih = absurd (close_no mark c s d m-is e)
    go false true m-is b-is ih = body_err false true mark c s (λ y. y) d (step_slash mark c m-is b-is) (ih true) e
    go false false m-is b-is ih = body_err false false mark c s (λ y. c ∷ y) d (step_plain mark c m-is b-is) (ih false) e

pub local_string : Local string
unfolding string
local_string = record { ok = ok; err = err }
  where
    ok : (s x r : List ℕ) → string s ≡ Ok (x, r) → Kept string s x r
    ok [] x r e = absurd cc
    ok (c ∷ s) x r e = elim (cond_either (is_quote c) _ _ _ e) [
      | inl h ↦
          let k = string_ok false c s x r h.1 in
          record { leading = c ∷ k.leading; parts = ap (λ (t : List ℕ). c ∷ t) k.parts; same = λ z w. rw h.0 (k.same z w) }
      | inr h ↦ absurd cc
    ]

    refused : (c : ℕ) (s z : List ℕ) → is_quote c ≡ false → Same (c ∷ s) z → string z ≡ Err (Unexpected (length z))
    refused c s [] q h = absurd h.0
    refused c s (d ∷ z) q h = (let q' : is_quote d ≡ false = ap is_quote (sym h.0) ∙ q in rw q' refl)

    err : (d : ExprStop) (s : List ℕ) → string s ≡ Err d → Failed string d s
    err d [] e =
        subst (λ (k : ExprStop). Failed string k []) (err_is {A = List ℕ} (Unexpected 0) d e)
        (record { leading = []; rest = []; parts = refl; left = refl; same = λ z h. (let k : z ≡ [] = nil_same z h in rw k refl) })
    err d (c ∷ s) e = elim (cond_either (is_quote c) _ _ _ e) [
      | inl h ↦
          let k = string_err false c d s h.1 in
          record { leading = c ∷ k.leading; rest = k.rest; parts = ap (λ (t : List ℕ). c ∷ t) k.parts; left = k.left; same = λ z w. rw h.0 (k.same z w) }
      | inr h ↦
          subst (λ (k : ExprStop). Failed string k (c ∷ s)) (err_is {A = List ℕ} (Unexpected (length (c ∷ s))) d h.1)
          (record { leading = []; rest = c ∷ s; parts = refl; left = refl; same = λ z w. refused c s z h.0 w })
    ]
