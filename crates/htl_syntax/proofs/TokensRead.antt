-- What is read of a token is that token.
use Rattle.std.proofs.Common.{◌≡◌, ℕ, ℤ, suc, ◌+◌, ◌*◌, ◌-◌, Bool, true, false, cond, eqb, List, [], ◌∷◌, ◌++◌, take, drop, Option, Some, None, Ok, refl, ap, sym, subst, ◌∙◌, inl, inr}
use Rattle.std.proofs.lemmas.Bool.{eqb-true}
use Rattle.std.proofs.lemmas.List.{take-append-drop}
use Rattle.sp_base.specs.Bytes.{begins_with_byte, is_digit}
use Rattle.sp_base.proofs.BoolLemmas.{cond_either}
use Rattle.htl_syntax.specs.declared.tokens.NameKind.{NameKind}
use Rattle.htl_syntax.specs.declared.node.Comparison.{Comparison}
use Rattle.htl_syntax.specs.declared.node.Comparison.TheVariants.{Equal, NotEqual, Below, Above, AtMost, AtLeast}
use Rattle.htl_syntax.specs.Tokens.{blanks_skipped, begins, expect, second, name_len, goes_on, read_name, string, string_from, string_after_escape, unescape, is_first, is_quote, expression_digit_fits, expression_digits_from, digits, signed_number, limit}
use Rattle.htl_syntax.specs.Read.{comparison, compares, or_equal}
use Rattle.htl_syntax.specs.Grammar.{Byte, Operator, Bare, NameToken, String, StringBody, Passes, Digits, Number, Sign, Compares}
use Rattle.htl_syntax.specs.Grammar as g
use Rattle.htl_syntax.proofs.Tools.{bind_ok, ok_is}

pub byte_at : (c : ℕ) (s : List ℕ) → begins_with_byte c s ≡ true → s ≡ c ∷ drop 1 s
unfolding begins_with_byte
byte_at c [] e = absurd cc
byte_at c (d ∷ s) e = ap (λ (x : ℕ). x ∷ s) (eqb-true d c e)

pub byte : (c : ℕ) (s : List ℕ) → begins_with_byte c s ≡ true → Byte c s (blanks_skipped (drop 1 s))
byte c s e = record { after = drop 1 s; parts = byte_at c s e; rest = refl }

pub expect_sound : (c : ℕ) (s r : List ℕ) → expect c s ≡ Ok r → Byte c s r
unfolding expect
expect_sound c s r e =
    elim (cond_either (begins_with_byte c s) _ _ _ e) [
      | inl h ↦ subst (Byte c s) (ok_is _ _ h.1) (byte c s h.0)
      | inr h ↦ absurd cc
    ]

pub second_sound : (c d : ℕ) (s r : List ℕ) → begins_with_byte c s ≡ true → second d s ≡ Ok r → Operator c d s r
unfolding second
second_sound c d s r at e =
    let b = expect_sound d (drop 1 s) r e in
    record { after = b.after; parts = byte_at c s at ∙ ap (λ (t : List ℕ). c ∷ t) b.parts; rest = b.rest }

pub passes_run : (kind : NameKind) (s : List ℕ) → Passes kind (take (name_len kind s) s) (drop (name_len kind s) s)
unfolding name_len
passes_run kind [] = tt
passes_run kind (c ∷ s) = go (goes_on kind (c ∷ s)) refl (passes_run kind s)
  where
    go : (b : Bool) → goes_on kind (c ∷ s) ≡ b → Passes kind (take (name_len kind s) s) (drop (name_len kind s) s)
        → Passes kind (take (cond b (suc (name_len kind s)) 0) (c ∷ s)) (drop (cond b (suc (name_len kind s)) 0) (c ∷ s))
    go true e ih = (ap (λ (t : List ℕ). goes_on kind (c ∷ t)) (take-append-drop (name_len kind s) s) ∙ e, ih)
    go false e ih = tt

pub ends_run : (kind : NameKind) (s : List ℕ) → goes_on kind (drop (name_len kind s) s) ≡ false
unfolding name_len goes_on begins
ends_run NameKind.Name [] = refl
ends_run NameKind.Field [] = refl
ends_run kind (c ∷ s) = go (goes_on kind (c ∷ s)) refl (ends_run kind s)
  where
    go : (b : Bool) → goes_on kind (c ∷ s) ≡ b → goes_on kind (drop (name_len kind s) s) ≡ false → goes_on kind (drop (cond b (suc (name_len kind s)) 0) (c ∷ s)) ≡ false
    go true e ih = ih
    go false e ih = e

pub name_sound : (kind : NameKind) (s : List ℕ) (p : List ℕ × List ℕ) → read_name kind s ≡ Ok p → NameToken kind s p.0 p.1
unfolding read_name
name_sound kind s p e =
    elim (cond_either (begins is_first s) _ _ _ e) [
      | inl h ↦
          subst (λ (q : List ℕ × List ℕ). NameToken kind s q.0 q.1) (ok_is _ _ h.1)
          (record { after = drop (name_len kind s) s; parts = sym (take-append-drop (name_len kind s) s); first = h.0; passes = passes_run kind s; longest = ends_run kind s; rest = refl })
      | inr h ↦ absurd cc
    ]

-- after the mark, or after a backslash
abbrev Nested : Bool → ℕ → List ℕ → List ℕ → List ℕ → Type 0
Nested true mark s w after = StringBody mark (92 ∷ s) w after
Nested false mark s w after = StringBody mark s w after

abbrev InsideOf : Bool → ℕ → List ℕ → List ℕ × List ℕ → Type 0
InsideOf is_escaped mark s p = (after : List ℕ) × Nested is_escaped mark s p.0 after × (p.1 ≡ blanks_skipped after)

string_from_sound : (is_escaped : Bool) (mark : ℕ) (s : List ℕ) (p : List ℕ × List ℕ) → string_from is_escaped mark s ≡ Ok p → InsideOf is_escaped mark s p
unfolding string_from
string_from_sound true mark [] p e = absurd cc
string_from_sound false mark [] p e = absurd cc
string_from_sound true mark (c ∷ s) p e = go (unescape c) refl e (λ q. string_from_sound false mark s q)
  where
    go : (o : Option ℕ) → unescape c ≡ o → string_after_escape o (c ∷ s) (string_from false mark s) ≡ Ok p → ((q : List ℕ × List ℕ) → string_from false mark s ≡ Ok q → InsideOf false mark s q) → InsideOf true mark (c ∷ s) p
    go None o-is e' rec = absurd cc
    go (Some d) o-is e' rec =
        let b = bind_ok (string_from false mark s) (λ x. Ok ((d ∷ []) ++ x.0, x.1)) p e' in
        let ih = rec b.0 b.1 in
        subst (InsideOf true mark (c ∷ s)) (ok_is _ _ b.2) (ih.0, g.escape o-is ih.1, ih.2)
string_from_sound false mark (c ∷ s) p e =
    elim (cond_either (eqb c mark) _ _ _ e) [
      | inl h ↦
          subst (InsideOf false mark (c ∷ s)) (ok_is _ _ h.1)
          (s, subst (λ (d : ℕ). StringBody mark (d ∷ s) [] s) (sym (eqb-true c mark h.0)) g.closes, refl)
      | inr h ↦
          elim (cond_either (eqb c 92) _ _ _ h.1) [
            | inl k ↦
                let ih = string_from_sound true mark s p k.1 in
                (ih.0, subst (λ (d : ℕ). StringBody mark (d ∷ s) p.0 ih.0) (sym (eqb-true c 92 k.0)) ih.1, ih.2)
            | inr k ↦
                let b = bind_ok (string_from false mark s) (λ x. Ok ((c ∷ []) ++ x.0, x.1)) p k.1 in
                let ih = string_from_sound false mark s b.0 b.1 in
                subst (InsideOf false mark (c ∷ s)) (ok_is _ _ b.2) (ih.0, g.plain h.0 k.0 ih.1, ih.2)
          ]
    ]

pub string_sound : (s : List ℕ) (p : List ℕ × List ℕ) → string s ≡ Ok p → String s p.0 p.1
unfolding string
string_sound [] p e = absurd cc
string_sound (c ∷ s) p e =
    elim (cond_either (is_quote c) _ _ _ e) [
      | inl h ↦
          let b = string_from_sound false c s p h.1 in
          record { mark = c; inside = s; after = b.0; parts = refl; is_mark = h.0; body = b.1; rest = b.2 }
      | inr h ↦ absurd cc
    ]

digits_from_sound : (most m : ℕ) (s : List ℕ) → Digits most m s (expression_digits_from most m s).0 (expression_digits_from most m s).1
unfolding expression_digits_from expression_digit_fits
digits_from_sound most m [] = g.none refl
digits_from_sound most m (c ∷ s) = go (expression_digit_fits most m (c ∷ s)) refl (digits_from_sound most (m * 10 + (c - 48)) s)
  where
    go : (b : Bool) → expression_digit_fits most m (c ∷ s) ≡ b → Digits most (m * 10 + (c - 48)) s (expression_digits_from most (m * 10 + (c - 48)) s).0 (expression_digits_from most (m * 10 + (c - 48)) s).1
        → Digits most m (c ∷ s) (cond b (expression_digits_from most (m * 10 + (c - 48)) s) (m, c ∷ s)).0 (cond b (expression_digits_from most (m * 10 + (c - 48)) s) (m, c ∷ s)).1
    go true e ih = g.digit e ih
    go false e ih = g.none e

digits_sound : (negative : Bool) (s t : List ℕ) (p : ℤ × List ℕ) → Sign negative s t → digits negative t ≡ Ok p → Number s p.0 p.1
unfolding digits
digits_sound negative s t p sign e =
    elim (cond_either (begins is_digit t) _ _ _ e) [
      | inl h ↦
          subst (λ (q : ℤ × List ℕ). Number s q.0 q.1) (ok_is _ _ h.1)
          (record { negative = negative; magnitude = (expression_digits_from (limit negative) 0 t).0; inside = t; after = (expression_digits_from (limit negative) 0 t).1; sign = sign; first = h.0; body = digits_from_sound (limit negative) 0 t; value = refl; rest = refl })
      | inr h ↦ absurd cc
    ]

pub number_sound : (s : List ℕ) (p : ℤ × List ℕ) → signed_number s ≡ Ok p → Number s p.0 p.1
unfolding signed_number
number_sound s p e =
    elim (cond_either (begins_with_byte 45 s) _ _ _ e) [
      | inl h ↦ digits_sound true s (drop 1 s) p (byte_at 45 s h.0) h.1
      | inr h ↦ digits_sound false s s p refl h.1
    ]

abbrev IsCompared : List ℕ → Comparison × List ℕ → Type 0
IsCompared s q = Compares s q.0 q.1

or_equal_sound : (s : List ℕ) (c : ℕ) (bare wide : Comparison) (p : Comparison × List ℕ) → begins_with_byte c s ≡ true → ((r : List ℕ) → Operator c 61 s r → Compares s wide r) → ((r : List ℕ) → Bare c s r → Compares s bare r)
    → or_equal bare wide s ≡ p → IsCompared s p
unfolding or_equal
or_equal_sound s c bare wide p at with_equal alone e =
    elim (cond_either (begins_with_byte 61 (drop 1 s)) _ _ _ e) [
      | inl h ↦
          subst (IsCompared s) h.1
          (with_equal (blanks_skipped (drop 1 (drop 1 s))) (record { after = drop 1 (drop 1 s); parts = byte_at c s at ∙ ap (λ (t : List ℕ). c ∷ t) (byte_at 61 (drop 1 s) h.0); rest = refl }))
      | inr h ↦ subst (IsCompared s) h.1 (alone (blanks_skipped (drop 1 s)) (record { after = drop 1 s; parts = byte_at c s at; longest = h.0; rest = refl }))
    ]

pub comparison_sound : (s : List ℕ) (p : Comparison × List ℕ) → compares s ≡ true → comparison s ≡ Ok p → Compares s p.0 p.1
unfolding comparison compares
comparison_sound s p at e =
    elim (cond_either (begins_with_byte 61 s) _ _ _ e) [
      | inl h ↦
          let o = bind_ok (second 61 s) (λ r. Ok (Equal, r)) p h.1 in
          subst (IsCompared s) (ok_is _ _ o.2) (g.equal (second_sound 61 61 s o.0 h.0 o.1))
      | inr h ↦
          elim (cond_either (begins_with_byte 33 s) _ _ _ h.1) [
            | inl k ↦
                let o = bind_ok (second 61 s) (λ r. Ok (NotEqual, r)) p k.1 in
                subst (IsCompared s) (ok_is _ _ o.2) (g.not_equal (second_sound 33 61 s o.0 k.0 o.1))
            | inr k ↦
                elim (cond_either (begins_with_byte 60 s) _ _ _ k.1) [
                  | inl l ↦ or_equal_sound s 60 Below AtMost p l.0 (λ r o. g.at_most o) (λ r o. g.below o) (ok_is _ _ l.1)
                  | inr l ↦ or_equal_sound s 62 Above AtLeast p (rw (h.0, k.0, l.0) at at) (λ r o. g.at_least o) (λ r o. g.above o) (ok_is _ _ l.1)
                ]
          ]
    ]
