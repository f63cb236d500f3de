-- A whole text that is read is an expression of the grammar.
use Rattle.std.proofs.Common.{◌≡◌, ℕ, Bool, true, cond, ◌||◌, ◌&&◌, eqb, List, [], ◌∷◌, ◌++◌, drop, length, Option, Some, None, is_none, Ok, Err, codes, refl, ap, sym, subst, ◌∙◌, inl, inr}
use Rattle.sp_base.specs.Outcomes.{◌>>=◌}
use Rattle.sp_base.specs.Bytes.{begins_with_byte}
use Rattle.sp_base.proofs.BoolLemmas.{cond_either}
use Rattle.sp_base.proofs.ListLemmas.{nil_from_test}
use Rattle.htl_syntax.specs.declared.stop.ExprStop.TheVariants.{Unexpected}
use Rattle.htl_syntax.specs.declared.node.ExprNode.{ExprNode}
use Rattle.htl_syntax.specs.declared.expression.Context.{Context}
use Rattle.htl_syntax.specs.declared.expression.Context.TheVariants.{Text, Unsafe}
use Rattle.htl_syntax.specs.declared.expression.Expression.{Expression}
use Rattle.htl_syntax.specs.Tokens.{blanks_skipped, begins, is_quote, expect, literal, string}
use Rattle.htl_syntax.specs.Read as spec
use Rattle.htl_syntax.specs.Grammar.{Byte, ContextString, context_text, Join, InContext, Options, TreeOrNothing, WholeWithin}
use Rattle.htl_syntax.specs.Grammar as g
use Rattle.htl_syntax.proofs.Tools.{bind_ok, ok_is}
use Rattle.htl_syntax.proofs.TokensRead.{byte, byte_at, expect_sound, string_sound}
use Rattle.htl_syntax.proofs.Sound.{sound}

pub literal_parts : (w s r : List ℕ) → literal w s ≡ Ok r → s ≡ w ++ r
unfolding literal
literal_parts [] s r e = ok_is _ _ e
literal_parts (c ∷ w) s r e =
    elim (cond_either (begins_with_byte c s) _ _ _ e) [
      | inl h ↦ byte_at c s h.0 ∙ ap (λ (t : List ℕ). c ∷ t) (literal_parts w (drop 1 s) r h.1)
      | inr h ↦ absurd cc
    ]

abbrev WordOf : List ℕ → Context × List ℕ → Type 0
WordOf s q = s ≡ context_text q.0 ++ q.1

pub context_word_parts : (s : List ℕ) (p : Context × List ℕ) → spec.context_word s ≡ Ok p → s ≡ context_text p.0 ++ p.1
unfolding spec.context_word
context_word_parts s p e =
    elim (cond_either (begins_with_byte 116 s) _ _ _ e) [
      | inl h ↦
          let r = bind_ok (literal (codes "text") s) (λ r. Ok (Text, r)) p h.1 in
          subst (WordOf s) (ok_is _ _ r.2) (literal_parts (codes "text") s r.0 r.1)
      | inr h ↦
          let r = bind_ok (literal (codes "unsafe") s) (λ r. Ok (Unsafe, r)) p h.1 in
          subst (WordOf s) (ok_is _ _ r.2) (literal_parts (codes "unsafe") s r.0 r.1)
    ]

context_string_sound : (s : List ℕ) (p : Context × List ℕ) → spec.context_string s ≡ Ok p → ContextString s p.0 p.1
unfolding spec.context_string begins
context_string_sound [] p e = absurd cc
context_string_sound (c ∷ s) p e =
    elim (cond_either (is_quote c) _ _ _ e) [
      | inl h ↦
          let x = bind_ok (spec.context_word s) (λ x. expect c x.1 >>= λ r. Ok (x.0, r)) p h.1 in
          let close = bind_ok (expect c x.0.1) (λ r. Ok (x.0.0, r)) p x.2 in
          let b = expect_sound c x.0.1 close.0 close.1 in
          subst (λ (q : Context × List ℕ). ContextString (c ∷ s) q.0 q.1) (ok_is _ _ close.2)
          (record { mark = c; after = b.after; parts = ap (λ (t : List ℕ). c ∷ t) (context_word_parts s x.0 x.1 ∙ ap (λ (t : List ℕ). context_text x.0.0 ++ t) b.parts); is_mark = h.0; rest = b.rest })
      | inr h ↦ absurd cc
    ]

join_sound : (s : List ℕ) (p : List ℕ × List ℕ) → spec.join_option s ≡ Ok p → Join s p.0 p.1
unfolding spec.join_option
join_sound s p e =
    let a = bind_ok (literal (codes "join") s) (λ a. expect 61 (blanks_skipped a) >>= λ b. string b) p e in
    let b = bind_ok (expect 61 (blanks_skipped a.0)) (λ b. string b) p a.2 in
    record {
      after_literal = blanks_skipped a.0;
      after_sign = b.0;
      word = record { after = a.0; parts = literal_parts (codes "join") s a.0 a.1; rest = refl };
      sign = expect_sound 61 (blanks_skipped a.0) b.0 b.1;
      value = string_sound b.0 p b.2;
    }

in_context_sound : (s : List ℕ) (p : Context × List ℕ) → spec.context_option s ≡ Ok p → InContext s p.0 p.1
unfolding spec.context_option
in_context_sound s p e =
    let a = bind_ok (literal (codes "context") s) (λ a. expect 61 (blanks_skipped a) >>= λ b. spec.context_string b) p e in
    let b = bind_ok (expect 61 (blanks_skipped a.0)) (λ b. spec.context_string b) p a.2 in
    record {
      after_literal = blanks_skipped a.0;
      after_sign = b.0;
      word = record { after = a.0; parts = literal_parts (codes "context") s a.0 a.1; rest = refl };
      sign = expect_sound 61 (blanks_skipped a.0) b.0 b.1;
      value = context_string_sound b.0 p b.2;
    }

-- the one option that was read
pub data Adds (given : spec.Given) (s : List ℕ) : spec.Given → List ℕ → Type 0 where
  joins : {w r : List ℕ} → given.0 ≡ None → Join s w r → Adds given s (Some w, given.1) r
  contexts : {c : Context} {r : List ℕ} → given.1 ≡ None → InContext s c r → Adds given s (given.0, Some c) r

none_of : {A : Type 0} (o : Option A) (b : Bool) → (is_none o && b) ≡ true → o ≡ None
none_of None b e = refl
none_of (Some x) b e = absurd cc

pub option_sound : (given : spec.Given) (s : List ℕ) (p : spec.Given × List ℕ) → spec.option given s ≡ Ok p → Adds given s p.0 p.1
unfolding spec.option
option_sound given s p e =
    elim (cond_either (is_none given.0 && begins_with_byte 106 s) _ _ _ e) [
      | inl h ↦
          let x = bind_ok (spec.join_option s) (λ x. Ok ((Some x.0, given.1), x.1)) p h.1 in
          subst (λ (q : spec.Given × List ℕ). Adds given s q.0 q.1) (ok_is _ _ x.2) (joins (none_of given.0 _ h.0) (join_sound s x.0 x.1))
      | inr h ↦
          elim (cond_either (is_none given.1 && begins_with_byte 99 s) _ _ _ h.1) [
            | inl k ↦
                let x = bind_ok (spec.context_option s) (λ x. Ok ((given.0, Some x.0), x.1)) p k.1 in
                subst (λ (q : spec.Given × List ℕ). Adds given s q.0 q.1) (ok_is _ _ x.2) (contexts (none_of given.1 _ k.0) (in_context_sound s x.0 x.1))
            | inr k ↦ absurd cc
          ]
    ]

-- up to the text's end
abbrev Ended : List ℕ → spec.Given × List ℕ → Type 0
Ended s q = q.1 ≡ [] → Options s q.0.0 q.0.1

first_option : (s r : List ℕ) (given : spec.Given) (rest : List ℕ) → Byte 64 s r → Adds (None, None) r given rest → rest ≡ [] → Options s given.0 given.1
first_option s r _ rest at (joins {w = w} e j) nil = g.join at (subst (λ (t : List ℕ). Join r w t) nil j)
first_option s r _ rest at (contexts {c = c} e x) nil = g.context at (subst (λ (t : List ℕ). InContext r c t) nil x)

second_option : (s r a b : List ℕ) (given all : spec.Given) (rest : List ℕ) → Byte 64 s r → Adds (None, None) r given a → Byte 44 a b → Adds given b all rest → rest ≡ [] → Options s all.0 all.1
second_option s r a b _ _ rest at (joins e j) comma (joins e' j') nil = absurd cc
second_option s r a b _ _ rest at (joins e j) comma (contexts {c = c} e' x) nil = g.join_context at j comma (subst (λ (t : List ℕ). InContext b c t) nil x)
second_option s r a b _ _ rest at (contexts e x) comma (joins {w = w} e' j) nil = g.context_join at x comma (subst (λ (t : List ℕ). Join b w t) nil j)
second_option s r a b _ _ rest at (contexts e c) comma (contexts e' c') nil = absurd cc

options_sound : (s : List ℕ) (p : spec.Given × List ℕ) → spec.options s ≡ Ok p → Ended s p
unfolding spec.options
options_sound s p e =
    elim (cond_either (begins_with_byte 64 s) _ _ _ e) [
      | inl h ↦
          let o = bind_ok (spec.option (None, None) (blanks_skipped (drop 1 s))) (λ o. cond (begins_with_byte 44 o.1) (spec.option o.0 (blanks_skipped (drop 1 o.1))) (Ok o)) p h.1 in
          let one = option_sound (None, None) (blanks_skipped (drop 1 s)) o.0 o.1 in
          elim (cond_either (begins_with_byte 44 o.0.1) _ _ _ o.2) [
            | inl k ↦ λ nil. second_option s (blanks_skipped (drop 1 s)) o.0.1 (blanks_skipped (drop 1 o.0.1)) o.0.0 p.0 p.1 (byte 64 s h.0) one (byte 44 o.0.1 k.0) (option_sound o.0.0 (blanks_skipped (drop 1 o.0.1)) p k.1) nil
            | inr k ↦ subst (Ended s) (ok_is _ _ k.1) (λ nil. first_option s (blanks_skipped (drop 1 s)) o.0.0 o.0.1 (byte 64 s h.0) one nil)
          ]
      | inr h ↦ subst (Ended s) (ok_is _ _ h.1) (λ nil. subst (λ (t : List ℕ). Options t None None) (sym nil) g.none)
    ]

module _ (levels : ℕ) where
  abbrev HasTree : List ℕ → Option ExprNode × List ℕ → Type 0
  HasTree s q = TreeOrNothing levels s q.0 q.1

  pub first_sound : (s : List ℕ) (p : Option ExprNode × List ℕ) → spec.optional_choice levels s ≡ Ok p → HasTree s p
  unfolding spec.optional_choice
  first_sound s p e =
      elim (cond_either (eqb (length s) 0 || begins_with_byte 64 s) _ _ _ e) [
        | inl h ↦ subst (HasTree s) (ok_is _ _ h.1) refl
        | inr h ↦
            let x = bind_ok (spec.choice levels (spec.nesting levels) s) (λ x. Ok (Some x.0, x.1)) p h.1 in
            subst (HasTree s) (ok_is _ _ x.2) (sound levels s x.0 x.1)
      ]

  pub read_sound : (s : List ℕ) (e : Expression) → spec.expression_read levels s ≡ Ok e → WholeWithin levels s e
  unfolding spec.expression_read
  read_sound s e w =
      let x = bind_ok (spec.optional_choice levels (blanks_skipped s)) (λ x. spec.options x.1 >>= λ o. cond (eqb (length o.1) 0) (Ok (spec.expr_of x.0 o.0)) (Err (Unexpected (length o.1)))) e w in
      let o = bind_ok (spec.options x.0.1) (λ o. cond (eqb (length o.1) 0) (Ok (spec.expr_of x.0.0 o.0)) (Err (Unexpected (length o.1)))) e x.2 in
      elim (cond_either (eqb (length o.0.1) 0) _ _ _ o.2) [
        | inl h ↦ subst (λ (y : Expression). WholeWithin levels s y) (ok_is _ _ h.1) (record { after_tree = x.0.1; tree = first_sound (blanks_skipped s) x.0 x.1; options = options_sound x.0.1 o.0 o.1 (nil_from_test o.0.1 h.0) })
        | inr h ↦ absurd (let z = h.1 in cc)
      ]
