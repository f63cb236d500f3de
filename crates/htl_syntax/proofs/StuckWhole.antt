-- A whole text in which reading stopped can be completed.
use Rattle.std.proofs.Common.{◌≡◌, ℕ, ◌-◌, true, cond, ◌||◌, eqb, List, [], ◌∷◌, ◌++◌, take, drop, length, Option, Some, None, Ok, Err, refl, ap, sym, subst, ◌∙◌, ◌⊎◌, inl, inr, arith, append_assoc}
use Rattle.std.proofs.lemmas.List.{length-append, take_at}
use Rattle.sp_base.specs.Outcomes.{◌>>=◌}
use Rattle.sp_base.specs.Bytes.{begins_with_byte}
use Rattle.sp_base.proofs.BoolLemmas.{cond_either}
use Rattle.htl_syntax.specs.declared.stop.ExprStop.{ExprStop}
use Rattle.htl_syntax.specs.declared.stop.ExprStop.TheVariants.{Unexpected}
use Rattle.htl_syntax.specs.declared.node.ExprNode.{ExprNode}
use Rattle.htl_syntax.specs.declared.expression.Context.{Context}
use Rattle.htl_syntax.specs.declared.expression.Expression.{Expression}
use Rattle.htl_syntax.specs.Tokens.{blanks_skipped, goes_on}
use Rattle.htl_syntax.specs.Read as spec
use Rattle.htl_syntax.specs.Grammar.{Byte, Join, InContext, Options, TreeOrNothing, WholeWithin, Choice}
use Rattle.htl_syntax.specs.Grammar as g
use Rattle.htl_syntax.specs.Fault.{SameHead, MayGoOn}
use Rattle.htl_syntax.proofs.Tools.{bind_ok, ok_is}
use Rattle.htl_syntax.proofs.TokensRead.{byte, byte_at}
use Rattle.htl_syntax.proofs.WholeRead as whole
use Rattle.htl_syntax.proofs.Local.{bind_err}
use Rattle.htl_syntax.proofs.Moves.{near_clear, blanks, Moves, Then, moves_map, moves_of, moves_then, steps_steps, none_moves}
use Rattle.htl_syntax.proofs.MovesTokens.{byte_steps, JoinOf, join_steps, InContextOf, in_context_steps}
use Rattle.htl_syntax.proofs.MovesParts.{ReadsOf, reads_moves}
use Rattle.htl_syntax.proofs.Stuck.{At, at_length, Stuck, Late, Cut, stuck_map, late_map, cut_map, moves_stuck, moves_late, stuck_then, moves_end, Quiet, fits_quiet}
use Rattle.htl_syntax.proofs.StuckLines.{stuck}
use Rattle.htl_syntax.proofs.StuckOptions.{SomeJoin, join_missing, join_cut, SomeContext, context_missing, context_cut}

-- ---- options up to what is left after them

data SomeOptions : List ℕ → List ℕ → Type 0 where
  none : {r : List ℕ} → SomeOptions r r
  join : {s a w r : List ℕ} → Byte 64 s a → Join a w r → SomeOptions s r
  context : {s a : List ℕ} {c : Context} {r : List ℕ} → Byte 64 s a → InContext a c r → SomeOptions s r
  join_context : {s a w b m : List ℕ} {c : Context} {r : List ℕ} → Byte 64 s a → Join a w b → Byte 44 b m → InContext m c r → SomeOptions s r
  context_join : {s a b m w r : List ℕ} {c : Context} → Byte 64 s a → InContext a c b → Byte 44 b m → Join m w r → SomeOptions s r

-- up to the end they are the options of the text
to_end : (s r : List ℕ) → SomeOptions s r → r ≡ [] → (w : Option (List ℕ)) × (c : Option Context) × Options s w c
to_end s r none e = (None, None, subst (λ (t : List ℕ). Options t None None) (sym e) g.none)
to_end s r (join {a = a} {w = w} b j) e = (Some w, None, g.join b (subst (λ (t : List ℕ). Join a w t) e j))
to_end s r (context {a = a} {c = c} b x) e = (None, Some c, g.context b (subst (λ (t : List ℕ). InContext a c t) e x))
to_end s r (join_context {w = w} {m = m} {c = c} b j comma x) e = (Some w, Some c, g.join_context b j comma (subst (λ (t : List ℕ). InContext m c t) e x))
to_end s r (context_join {m = m} {w = w} {c = c} b x comma j) e = (Some w, Some c, g.context_join b x comma (subst (λ (t : List ℕ). Join m w t) e j))

-- after a byte that ends a name
byte_late : (c : ℕ) (s : List ℕ) (k : ℕ) (Q : List ℕ → List ℕ → Type 0) → Quiet c → begins_with_byte c s ≡ true → Cut Q (blanks_skipped (drop 1 s)) k → Late (Then (Byte c) Q) s k
byte_late c s k Q quiet at q =
    let bl = blanks (drop 1 s) in
    let shape : (t : List ℕ) → c ∷ ((bl.leading ++ q.leading) ++ t) ≡ c ∷ (bl.leading ++ (q.leading ++ t)) = λ t. ap (λ (u : List ℕ). c ∷ u) (append_assoc bl.leading q.leading t) in
    record {
      stuck = record {
        leading = c ∷ (bl.leading ++ q.leading);
        rest = q.rest;
        more = q.more;
        parts = byte_at c s at ∙ ap (λ (t : List ℕ). c ∷ t) (bl.parts ∙ ap (λ (t : List ℕ). bl.leading ++ t) q.parts) ∙ sym (shape q.rest);
        left = q.left;
        near = λ z p. inl (subst (λ (t : List ℕ). SameHead t (c ∷ ((bl.leading ++ q.leading) ++ (q.more ++ z)))) (sym (byte_at c s at)) refl);
        ends = λ z p.
            (let t = q.leading ++ (q.more ++ z) in
            (t, record { after = bl.leading ++ t; parts = shape (q.more ++ z); rest = sym (bl.over t (q.clear z p)) }, q.ends z p));
      };
      later = λ z p. fits_quiet c s ((bl.leading ++ q.leading) ++ (q.more ++ z)) quiet (byte_at c s at);
    }

quiet_options : Quiet 64
unfolding goes_on
quiet_options t = refl

quiet_comma : Quiet 44
unfolding goes_on
quiet_comma t = refl

abbrev SomeOption : List ℕ → List ℕ → Type 0
SomeOption s r = SomeJoin s r ⊎ SomeContext s r

first_cut : (s : List ℕ) (d : ExprStop) (k : ℕ) → spec.option (None, None) s ≡ Err d → At d k → Cut SomeOption s k
unfolding spec.option
first_cut s d k e a = elim (cond_either (begins_with_byte 106 s) _ _ _ e) [
  | inl h ↦
      elim (bind_err (spec.join_option s) (λ x. Ok ((Some x.0, None), x.1)) d h.1) [
        | inl at ↦ cut_map SomeJoin SomeOption s k (λ s' r' x. inl x) (join_cut s d k at a)
        | inr at ↦ absurd (let x = at.2 in cc)
      ]
  | inr h ↦
      elim (cond_either (begins_with_byte 99 s) _ _ _ h.1) [
        | inl j ↦
            elim (bind_err (spec.context_option s) (λ x. Ok ((None, Some x.0), x.1)) d j.1) [
              | inl at ↦ cut_map SomeContext SomeOption s k (λ s' r' x. inr x) (context_cut s d k at a)
              | inr at ↦ absurd (let x = at.2 in cc)
            ]
        | inr j ↦ cut_map SomeJoin SomeOption s k (λ s' r' x. inl x) (join_missing s k (at_length (length s) d k j.1 a))
      ]
]

-- after a join, and after a context
after_join : (w s : List ℕ) (d : ExprStop) (k : ℕ) → spec.option (Some w, None) s ≡ Err d → At d k → Cut SomeContext s k
unfolding spec.option
after_join w s d k e a = elim (cond_either (begins_with_byte 99 s) _ _ _ e) [
  | inl j ↦
      elim (bind_err (spec.context_option s) (λ x. Ok ((Some w, Some x.0), x.1)) d j.1) [
        | inl at ↦ context_cut s d k at a
        | inr at ↦ absurd (let x = at.2 in cc)
      ]
  | inr j ↦ context_missing s k (at_length (length s) d k j.1 a)
]

after_context : (c : Context) (s : List ℕ) (d : ExprStop) (k : ℕ) → spec.option (None, Some c) s ≡ Err d → At d k → Cut SomeJoin s k
unfolding spec.option
after_context c s d k e a = elim (cond_either (begins_with_byte 106 s) _ _ _ e) [
  | inl h ↦
      elim (bind_err (spec.join_option s) (λ x. Ok ((Some x.0, Some c), x.1)) d h.1) [
        | inl at ↦ join_cut s d k at a
        | inr at ↦ absurd (let x = at.2 in cc)
      ]
  | inr h ↦ join_missing s k (at_length (length s) d k h.1 a)
]

-- the second option after the first
second_late : (t m : List ℕ) (given : spec.Given) (rest : List ℕ) (d : ExprStop) (k : ℕ) → Byte 64 t m → whole.Adds (None, None) m given rest → begins_with_byte 44 rest ≡ true → spec.option given (blanks_skipped (drop 1 rest)) ≡ Err d → At d k → Late SomeOptions t k
second_late t m _ rest d k b (whole.joins {w = w} n j) at e a =
    late_map (Then (Then (Byte 64) (JoinOf w)) (Then (Byte 44) SomeContext)) SomeOptions t k (λ s' r' x. join_context x.1.1 x.1.2 x.2.1 x.2.2.1)
    (moves_late (Then (Byte 64) (JoinOf w)) (Then (Byte 44) SomeContext) t rest k
    (moves_of (Then (Byte 64) (JoinOf w)) (Then (Byte 64) (JoinOf w)) t rest (λ s' r' x. x) (steps_steps (Byte 64) (JoinOf w) t m rest (byte_steps 64 t m b) (join_steps m w rest j)))
    (byte_late 44 rest k SomeContext quiet_comma at (after_join w (blanks_skipped (drop 1 rest)) d k e a)))
second_late t m _ rest d k b (whole.contexts {c = c} n x) at e a =
    late_map (Then (Then (Byte 64) (InContextOf c)) (Then (Byte 44) SomeJoin)) SomeOptions t k (λ s' r' y. context_join y.1.1 y.1.2 y.2.1 y.2.2.1)
    (moves_late (Then (Byte 64) (InContextOf c)) (Then (Byte 44) SomeJoin) t rest k
    (moves_of (Then (Byte 64) (InContextOf c)) (Then (Byte 64) (InContextOf c)) t rest (λ s' r' y. y) (steps_steps (Byte 64) (InContextOf c) t m rest (byte_steps 64 t m b) (in_context_steps m c rest x)))
    (byte_late 44 rest k SomeJoin quiet_comma at (after_context c (blanks_skipped (drop 1 rest)) d k e a)))

one_option : (s r : List ℕ) → Then (Byte 64) SomeOption s r → SomeOptions s r
one_option s r (m, b, inl j) = join b j.1
one_option s r (m, b, inr c) = context b c.1

options_stuck : (t : List ℕ) (d : ExprStop) (k : ℕ) → spec.options t ≡ Err d → At d k → Late SomeOptions t k
unfolding spec.options
options_stuck t d k e a = elim (cond_either (begins_with_byte 64 t) _ _ _ e) [
  | inl h ↦
      let m = blanks_skipped (drop 1 t) in
      elim (bind_err (spec.option (None, None) m) (λ o. cond (begins_with_byte 44 o.1) (spec.option o.0 (blanks_skipped (drop 1 o.1))) (Ok o)) d h.1) [
        | inl at ↦ late_map (Then (Byte 64) SomeOption) SomeOptions t k one_option (byte_late 64 t k SomeOption quiet_options h.0 (first_cut m d k at a))
        | inr o ↦
            elim (cond_either (begins_with_byte 44 o.0.1) _ _ _ o.2) [
              | inl j ↦ second_late t m o.0.0 o.0.1 d k (byte 64 t h.0) (whole.option_sound (None, None) m o.0 o.1) j.0 j.1 a
              | inr j ↦ absurd (let x = j.1 in cc)
            ]
      ]
  | inr h ↦ absurd (let x = h.1 in cc)
]

-- ---- options that were read

first_moves : (t m : List ℕ) (given : spec.Given) (rest : List ℕ) → Byte 64 t m → whole.Adds (None, None) m given rest → Moves SomeOptions t rest
first_moves t m _ rest b (whole.joins {w = w} n j) = moves_of (Then (Byte 64) (JoinOf w)) SomeOptions t rest (λ s' r' x. join x.1 x.2) (steps_steps (Byte 64) (JoinOf w) t m rest (byte_steps 64 t m b) (join_steps m w rest j))
first_moves t m _ rest b (whole.contexts {c = c} n x) =
    moves_of (Then (Byte 64) (InContextOf c)) SomeOptions t rest (λ s' r' y. context y.1 y.2) (steps_steps (Byte 64) (InContextOf c) t m rest (byte_steps 64 t m b) (in_context_steps m c rest x))

second_moves : (t m b n : List ℕ) (given all : spec.Given) (rest : List ℕ) → Byte 64 t m → whole.Adds (None, None) m given b → Byte 44 b n → whole.Adds given n all rest → Moves SomeOptions t rest
second_moves t m b n _ _ rest at (whole.joins e j) comma (whole.joins e' j') = absurd cc
second_moves t m b n _ _ rest at (whole.joins {w = w} e j) comma (whole.contexts {c = c} e' x) =
    moves_of (Then (Byte 64) (Then (JoinOf w) (Then (Byte 44) (InContextOf c)))) SomeOptions t rest (λ s' r' y. join_context y.1 y.2.1 y.2.2.1 y.2.2.2)
    (steps_steps (Byte 64) (Then (JoinOf w) (Then (Byte 44) (InContextOf c))) t m rest (byte_steps 64 t m at)
    (steps_steps (JoinOf w) (Then (Byte 44) (InContextOf c)) m b rest (join_steps m w b j) (steps_steps (Byte 44) (InContextOf c) b n rest (byte_steps 44 b n comma) (in_context_steps n c rest x))))
second_moves t m b n _ _ rest at (whole.contexts {c = c} e x) comma (whole.joins {w = w} e' j) =
    moves_of (Then (Byte 64) (Then (InContextOf c) (Then (Byte 44) (JoinOf w)))) SomeOptions t rest (λ s' r' y. context_join y.1 y.2.1 y.2.2.1 y.2.2.2)
    (steps_steps (Byte 64) (Then (InContextOf c) (Then (Byte 44) (JoinOf w))) t m rest (byte_steps 64 t m at)
    (steps_steps (InContextOf c) (Then (Byte 44) (JoinOf w)) m b rest (in_context_steps m c b x) (steps_steps (Byte 44) (JoinOf w) b n rest (byte_steps 44 b n comma) (join_steps n w rest j))))
second_moves t m b n _ _ rest at (whole.contexts e c) comma (whole.contexts e' c') = absurd cc

abbrev Moved : List ℕ → spec.Given × List ℕ → Type 0
Moved t q = Moves SomeOptions t q.1

options_moves : (t : List ℕ) (p : spec.Given × List ℕ) → spec.options t ≡ Ok p → Moved t p
unfolding spec.options
options_moves t p e = elim (cond_either (begins_with_byte 64 t) _ _ _ e) [
  | inl h ↦
      let m = blanks_skipped (drop 1 t) in
      let o = bind_ok (spec.option (None, None) m) (λ o. cond (begins_with_byte 44 o.1) (spec.option o.0 (blanks_skipped (drop 1 o.1))) (Ok o)) p h.1 in
      let one = whole.option_sound (None, None) m o.0 o.1 in
      elim (cond_either (begins_with_byte 44 o.0.1) _ _ _ o.2) [
        | inl j ↦ second_moves t m o.0.1 (blanks_skipped (drop 1 o.0.1)) o.0.0 p.0 p.1 (byte 64 t h.0) one (byte 44 o.0.1 j.0) (whole.option_sound o.0.0 (blanks_skipped (drop 1 o.0.1)) p j.1)
        | inr j ↦ subst (Moved t) (ok_is _ _ j.1) (first_moves t m o.0.0 o.0.1 (byte 64 t h.0) one)
      ]
  | inr h ↦ subst (Moved t) (ok_is _ _ h.1) (none_moves SomeOptions t (λ z. none))
]

-- ---- the tree before the options

module _ (levels : ℕ) where
  abbrev SomeTree : List ℕ → List ℕ → Type 0
  SomeTree s r = (o : Option ExprNode) × TreeOrNothing levels s o r

  tree_moves : (s : List ℕ) (o : Option ExprNode) (r : List ℕ) → TreeOrNothing levels s o r → Moves SomeTree s r
  tree_moves s None r x = subst (λ (t : List ℕ). Moves SomeTree s t) (sym x) (none_moves SomeTree s (λ z. (None, refl)))
  tree_moves s (Some e) r x = moves_map (ReadsOf Choice levels e) SomeTree s r (λ s' r' y. (Some e, y)) (reads_moves Choice levels s e r x)

  tree_stuck : (s : List ℕ) (d : ExprStop) (k : ℕ) → spec.optional_choice levels s ≡ Err d → At d k → Stuck SomeTree s k
  unfolding spec.optional_choice
  tree_stuck s d k e a = elim (cond_either (eqb (length s) 0 || begins_with_byte 64 s) _ _ _ e) [
    | inl h ↦ absurd (let x = h.1 in cc)
    | inr h ↦
        elim (bind_err (spec.choice levels (spec.nesting levels) s) (λ x. Ok (Some x.0, x.1)) d h.1) [
          | inl at ↦ stuck_map (λ s' r'. (e : ExprNode) × g.Reads Choice levels s' e r') SomeTree s k (λ s' r' x. (Some x.0, x.1)) (stuck levels s d k at a)
          | inr at ↦ absurd (let x = at.2 in cc)
        ]
  ]

  -- ---- the whole

  abbrev Text : List ℕ → List ℕ → Type 0
  Text = Then SomeTree SomeOptions

  text_stuck : (s : List ℕ) (d : ExprStop) (k : ℕ) → spec.expression_read levels s ≡ Err d → At d k → Stuck Text (blanks_skipped s) k
  unfolding spec.expression_read
  text_stuck s d k e a = elim (bind_err (spec.optional_choice levels (blanks_skipped s)) (λ x. spec.options x.1 >>= λ o. cond (eqb (length o.1) 0) (Ok (spec.expr_of x.0 o.0)) (Err (Unexpected (length o.1)))) d e) [
    | inl at ↦ stuck_then SomeTree SomeOptions (blanks_skipped s) k [] (tree_stuck (blanks_skipped s) d k at a) (λ z p. p) (λ z p. none)
    | inr x ↦
        let tree = tree_moves (blanks_skipped s) x.0.0 x.0.1 (whole.first_sound levels (blanks_skipped s) x.0 x.1) in
        elim (bind_err (spec.options x.0.1) (λ o. cond (eqb (length o.1) 0) (Ok (spec.expr_of x.0.0 o.0)) (Err (Unexpected (length o.1)))) d x.2) [
          | inl at ↦ moves_stuck SomeTree SomeOptions (blanks_skipped s) x.0.1 k tree (options_stuck x.0.1 d k at a)
          | inr o ↦
              elim (cond_either (eqb (length o.0.1) 0) _ _ _ o.2) [
                | inl h ↦ absurd (let y = h.1 in cc)
                | inr h ↦ moves_end Text (blanks_skipped s) o.0.1 k (moves_then SomeTree SomeOptions (blanks_skipped s) x.0.1 o.0.1 tree (options_moves x.0.1 o.0 o.1)) (at_length (length o.0.1) d k h.1 a)
              ]
        ]
  ]

  whole_of : (t : List ℕ) → Text (blanks_skipped t) [] → (e : Expression) × WholeWithin levels t e
  whole_of t x =
      let o = to_end x.0 [] x.2 refl in
      (spec.expr_of x.1.0 (o.0, o.1), record { after_tree = x.0; tree = x.1.1; options = o.2 })

  finish : (s : List ℕ) (k : ℕ) → Stuck Text (blanks_skipped s) k → MayGoOn levels s (length s - k)
  finish s k q =
      let bl = blanks s in
      let more = q.more ++ [] in
      let parts : s ≡ (bl.leading ++ q.leading) ++ q.rest = bl.parts ∙ ap (λ (t : List ℕ). bl.leading ++ t) q.parts ∙ sym (append_assoc bl.leading q.leading q.rest) in
      let len : length s - k ≡ length (bl.leading ++ q.leading) = omega (arith, ap length parts, length-append (bl.leading ++ q.leading) q.rest, q.left) in
      let prefix_is : take (length s - k) s ≡ bl.leading ++ q.leading = ap (λ (i : ℕ). take i s) len ∙ ap (λ (t : List ℕ). take (length (bl.leading ++ q.leading)) t) parts ∙ take_at (bl.leading ++ q.leading) q.rest (length (bl.leading ++ q.leading)) refl in
      let text_is : take (length s - k) s ++ more ≡ bl.leading ++ (q.leading ++ more) = ap (λ (t : List ℕ). t ++ more) prefix_is ∙ append_assoc bl.leading q.leading more in
      let remainder : blanks_skipped (take (length s - k) s ++ more) ≡ q.leading ++ more = ap blanks_skipped text_is ∙ bl.over (q.leading ++ more) (near_clear (blanks_skipped s) (q.leading ++ more) (q.near [] tt)) in
      let x = whole_of (take (length s - k) s ++ more) (subst (λ (t : List ℕ). Text t []) (sym remainder) (q.ends [] tt)) in
      record { more = more; tree = x.0; whole = x.1 }

  -- what stands before the byte at which reading stopped may go on
  pub stopped : (s : List ℕ) (d : ExprStop) (k : ℕ) → spec.expression_read levels s ≡ Err d → At d k → MayGoOn levels s (length s - k)
  stopped s d k e a = finish s k (text_stuck s d k e a)
