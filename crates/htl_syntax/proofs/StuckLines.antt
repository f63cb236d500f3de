-- Each line of the grammar in which reading stopped can be completed, at any depth.
use Rattle.std.proofs.Common.{◌≡◌, ℕ, zero, suc, true, cond, List, [], ◌∷◌, drop, length, Ok, Err, refl, ◌⊎◌, inl, inr}
use Rattle.sp_base.specs.Outcomes.{◌>>=◌}
use Rattle.sp_base.specs.Bytes.{begins_with_byte}
use Rattle.sp_base.proofs.BoolLemmas.{cond_either}
use Rattle.htl_syntax.specs.declared.stop.ExprStop.{ExprStop}
use Rattle.htl_syntax.specs.declared.node.ExprNode.{ExprNode}
use Rattle.htl_syntax.specs.declared.node.ExprNode.TheVariants as expr_node
use Rattle.htl_syntax.specs.declared.reader.Nested.{Nested}
use Rattle.htl_syntax.specs.declared.reader.Nested.TheVariants as nested
use Rattle.htl_syntax.specs.Tokens.{Outcome, blanks_skipped, begins, expect, goes_on}
use Rattle.htl_syntax.specs.Read as spec
use Rattle.htl_syntax.specs.Grammar.{Byte, And, Or, Comma, GrammarPart, Choice, Either, Both, Compare, Operand, Atom, Start, Items, Reads}
use Rattle.htl_syntax.specs.Grammar as g
use Rattle.htl_syntax.proofs.TokensRead.{byte, comparison_sound}
use Rattle.htl_syntax.proofs.TokensAgain.{byte-short, compares-short}
use Rattle.htl_syntax.proofs.Sound as sound
use Rattle.htl_syntax.proofs.Local.{bind_err}
use Rattle.htl_syntax.proofs.Moves.{Plain, plain_settled, fits_near, Then, steps_map}
use Rattle.htl_syntax.proofs.MovesTokens.{byte_steps, compares_steps, ComparesOf}
use Rattle.htl_syntax.proofs.Stuck.{At, at_length, at_depth, Stuck, Late, stuck_map, moves_stuck, steps_late, stuck_then, moves_end}
use Rattle.htl_syntax.proofs.StuckTokens.{operand, operand_settled, byte_of, byte_missing, SomeCompares, comparison_stuck}
use Rattle.htl_syntax.proofs.StuckParts as part
use Rattle.htl_syntax.proofs.StuckParts.{SomePart, Sticks, moves_some, SomeAccesses, accesses_stuck, SomeMore, chain_stuck, start_missing, leaf_stuck, square_plain, round_plain}

-- one level deeper, after the byte that nests it; where none may nest, reading stopped at that byte
abbrev DeepStuck : Nested → ℕ → List ℕ → ℕ → Type 0
DeepStuck which zero s k = length s ≡ k
DeepStuck which (suc depth) s k = Stuck (SomePart (sound.part_inside which) depth) (blanks_skipped (drop 1 s)) k

abbrev InnerSticks : ℕ → (Nested → List ℕ → Outcome ExprNode) → Type 0
InnerSticks depth inner = (which : Nested) (s : List ℕ) (d : ExprStop) (k : ℕ) → inner which s ≡ Err d → At d k → DeepStuck which depth s k

-- after the byte that nests it
deep_late : (c : ℕ) (s : List ℕ) (k : ℕ) (R : List ℕ → List ℕ → Type 0) → begins_with_byte c s ≡ true → Stuck R (blanks_skipped (drop 1 s)) k → Late (Then (Byte c) R) s k
deep_late c s k R at q =
    let b = byte c s at in
    steps_late (Byte c) R s (blanks_skipped (drop 1 s)) k (byte_steps c s (blanks_skipped (drop 1 s)) b) (byte-short c s (blanks_skipped (drop 1 s)) b) q

not_stuck : (depth : ℕ) (s : List ℕ) (k : ℕ) → begins_with_byte 33 s ≡ true → DeepStuck nested.Operand depth s k → Stuck (SomePart Operand depth) s k
not_stuck zero s k at q = stuck_map (SomePart Start 0) (SomePart Operand 0) s k (λ s' r' x. part.atom_operand 0 s' r' (part.start_atom 0 s' r' x)) (start_missing 0 s k q)
not_stuck (suc d) s k at q = stuck_map (Then (Byte 33) (SomePart Operand d)) (SomePart Operand (suc d)) s k (λ s' r' x. (expr_node.Not x.2.0, g.not x.1 x.2.1)) (deep_late 33 s k (SomePart Operand d) at q).stuck

-- ---- brackets

module _ (begin close : ℕ) (inside : GrammarPart) (close_plain : (z : List ℕ) → Plain (close ∷ z)) (make : (d : ℕ) (s r : List ℕ) → Then (Byte begin) (Then (SomePart inside d) (Byte close)) s r → SomePart Start (suc d) s r) where
  -- a bracket is open
  opened : (d : ℕ) (s : List ℕ) (k : ℕ) → begins_with_byte begin s ≡ true → Stuck (Then (SomePart inside d) (Byte close)) (blanks_skipped (drop 1 s)) k → Stuck (SomePart Start (suc d)) s k
  opened d s k at q = stuck_map (Then (Byte begin) (Then (SomePart inside d) (Byte close))) (SomePart Start (suc d)) s k (make d) (deep_late begin s k (Then (SomePart inside d) (Byte close)) at q).stuck

  pub inside_stuck : (d : ℕ) (s : List ℕ) (k : ℕ) → begins_with_byte begin s ≡ true → Stuck (SomePart inside d) (blanks_skipped (drop 1 s)) k → Stuck (SomePart Start (suc d)) s k
  inside_stuck d s k at q = opened d s k at (stuck_then (SomePart inside d) (Byte close) (blanks_skipped (drop 1 s)) k (close ∷ []) q (λ z p. close_plain z) (λ z p. byte_of close z (plain_settled z p)))

  pub close_stuck : (d : ℕ) (s : List ℕ) (x : ExprNode × List ℕ) (stop : ExprStop) (k : ℕ) → begins_with_byte begin s ≡ true → Reads inside d (blanks_skipped (drop 1 s)) x.0 x.1 → expect close x.1 ≡ Err stop → At stop k → Stuck (SomePart Start (suc d)) s k
  close_stuck d s x stop k at q e a =
      opened d s k at (moves_stuck (SomePart inside d) (Byte close) (blanks_skipped (drop 1 s)) x.1 k (moves_some inside d (blanks_skipped (drop 1 s)) x.0 x.1 q) (byte_missing close close_plain x.1 stop k e a))

round_of : (d : ℕ) (s r : List ℕ) → Then (Byte 40) (Then (SomePart Choice d) (Byte 41)) s r → SomePart Start (suc d) s r
round_of d s r x = (x.2.1.0, g.inside x.1 x.2.1.1 x.2.2)

square_of : (d : ℕ) (s r : List ℕ) → Then (Byte 91) (Then (SomePart Items d) (Byte 93)) s r → SomePart Start (suc d) s r
square_of d s r x = (x.2.1.0, g.list x.1 x.2.1.1 x.2.2)

round_stuck : (depth : ℕ) (s : List ℕ) (k : ℕ) → begins_with_byte 40 s ≡ true → DeepStuck nested.Choice depth s k → Stuck (SomePart Start depth) s k
round_stuck zero s k at q = start_missing 0 s k q
round_stuck (suc d) s k at q = inside_stuck 40 41 Choice round_plain round_of d s k at q

square_stuck : (depth : ℕ) (s : List ℕ) (k : ℕ) → begins_with_byte 91 s ≡ true → DeepStuck nested.Items depth s k → Stuck (SomePart Start depth) s k
square_stuck zero s k at q = start_missing 0 s k q
square_stuck (suc d) s k at q = inside_stuck 91 93 Items square_plain square_of d s k at q

round_close : (depth : ℕ) (s : List ℕ) (x : ExprNode × List ℕ) (stop : ExprStop) (k : ℕ) → begins_with_byte 40 s ≡ true → sound.Deeper nested.Choice depth s x → expect 41 x.1 ≡ Err stop → At stop k → Stuck (SomePart Start depth) s k
round_close zero s x stop k at q e a = absurd q
round_close (suc d) s x stop k at q e a = close_stuck 40 41 Choice round_plain round_of d s x stop k at q e a

square_close : (depth : ℕ) (s : List ℕ) (x : ExprNode × List ℕ) (stop : ExprStop) (k : ℕ) → begins_with_byte 91 s ≡ true → sound.Deeper nested.Items depth s x → expect 93 x.1 ≡ Err stop → At stop k → Stuck (SomePart Start depth) s k
square_close zero s x stop k at q e a = absurd q
square_close (suc d) s x stop k at q e a = close_stuck 91 93 Items square_plain square_of d s x stop k at q e a

-- ---- choices

abbrev Colon : ℕ → List ℕ → List ℕ → Type 0
Colon d = Then (Byte 58) (SomePart Choice d)

abbrev Branches : ℕ → List ℕ → List ℕ → Type 0
Branches d = Then (SomePart Choice d) (Colon d)

colon_plain : (z : List ℕ) → Plain (58 ∷ operand z)
unfolding goes_on begins
colon_plain z = (refl, refl, refl)

one_colon : (d : ℕ) (z : List ℕ) → Plain z → Colon d (58 ∷ operand z) z
one_colon d z p = (operand z, byte_of 58 (operand z) (operand_settled z), part.one_choice d z p)

with_condition : (d : ℕ) (s : List ℕ) (c : ExprNode × List ℕ) (k : ℕ) → Reads Either (suc d) s c.0 c.1 → begins_with_byte 63 c.1 ≡ true → Stuck (Branches d) (blanks_skipped (drop 1 c.1)) k → Stuck (SomePart Choice (suc d)) s k
with_condition d s c k x at q =
    stuck_map (Then (SomePart Either (suc d)) (Then (Byte 63) (Branches d))) (SomePart Choice (suc d)) s k (λ s' r' y. (expr_node.Choice y.1.0 y.2.2.1.0 y.2.2.2.2.0, g.choice y.1.1 y.2.1 y.2.2.1.1 y.2.2.2.1 y.2.2.2.2.1))
    (moves_stuck (SomePart Either (suc d)) (Then (Byte 63) (Branches d)) s c.1 k (moves_some Either (suc d) s c.0 c.1 x) (deep_late 63 c.1 k (Branches d) at q))

first_stuck : (depth : ℕ) (s : List ℕ) (c : ExprNode × List ℕ) (k : ℕ) → Reads Either depth s c.0 c.1 → begins_with_byte 63 c.1 ≡ true → DeepStuck nested.Choice depth c.1 k → Stuck (SomePart Choice depth) s k
first_stuck zero s c k x at q = stuck_map (SomePart Either 0) (SomePart Choice 0) s k (part.either_choice 0) (moves_end (SomePart Either 0) s c.1 k (moves_some Either 0 s c.0 c.1 x) q)
first_stuck (suc d) s c k x at q = with_condition d s c k x at (stuck_then (SomePart Choice d) (Colon d) (blanks_skipped (drop 1 c.1)) k (58 ∷ 39 ∷ 39 ∷ []) q (λ z p. colon_plain z) (one_colon d))

colon_missing : (d : ℕ) (m : List ℕ) (k : ℕ) → length m ≡ k → Late (Colon d) m k
colon_missing d m k e = record {
  stuck = record { leading = []; rest = m; more = 58 ∷ 39 ∷ 39 ∷ []; parts = refl; left = e; near = λ z p. fits_near m (58 ∷ operand z) (inr (colon_plain z)); ends = one_colon d };
  later = λ z p. inr (colon_plain z);
}

abbrev OtherStuck : ℕ → List ℕ → ℕ → Type 0
OtherStuck depth m k = (length m ≡ k) ⊎ ((begins_with_byte 58 m ≡ true) × DeepStuck nested.Choice depth m k)

second_stuck : (depth : ℕ) (s : List ℕ) (c a : ExprNode × List ℕ) (k : ℕ) → Reads Either depth s c.0 c.1 → begins_with_byte 63 c.1 ≡ true → sound.Deeper nested.Choice depth c.1 a → OtherStuck depth a.1 k → Stuck (SomePart Choice depth) s k
second_stuck zero s c a k x at y o = absurd y
second_stuck (suc d) s c a k x at y (inl e) =
    with_condition d s c k x at (moves_stuck (SomePart Choice d) (Colon d) (blanks_skipped (drop 1 c.1)) a.1 k (moves_some Choice d (blanks_skipped (drop 1 c.1)) a.0 a.1 y) (colon_missing d a.1 k e))
second_stuck (suc d) s c a k x at y (inr o) =
    with_condition d s c k x at (moves_stuck (SomePart Choice d) (Colon d) (blanks_skipped (drop 1 c.1)) a.1 k (moves_some Choice d (blanks_skipped (drop 1 c.1)) a.0 a.1 y) (deep_late 58 a.1 k (SomePart Choice d) o.0 o.1))

-- ---- each line, where what stands deeper can be completed

module _ (depth : ℕ) (inner : Nested → List ℕ → Outcome ExprNode) (deeper : sound.Inner depth inner) (sticks : InnerSticks depth inner) where
  start_stuck : Sticks Start depth (spec.start depth inner)
  unfolding spec.start
  start_stuck s d k e a = elim (cond_either (begins_with_byte 40 s) _ _ _ e) [
    | inl h ↦
        elim (bind_err (inner nested.Choice s) (λ x. expect 41 x.1 >>= λ r. Ok (x.0, r)) d h.1) [
          | inl at ↦ round_stuck depth s k h.0 (sticks nested.Choice s d k at a)
          | inr x ↦
              elim (bind_err (expect 41 x.0.1) (λ r. Ok (x.0.0, r)) d x.2) [
                | inl close ↦ round_close depth s x.0 d k h.0 (deeper nested.Choice s x.0 x.1) close a
                | inr close ↦ absurd (let y = close.2 in cc)
              ]
        ]
    | inr h ↦
        elim (cond_either (begins_with_byte 91 s) _ _ _ h.1) [
          | inl j ↦
              elim (bind_err (inner nested.Items s) (λ x. expect 93 x.1 >>= λ r. Ok (x.0, r)) d j.1) [
                | inl at ↦ square_stuck depth s k j.0 (sticks nested.Items s d k at a)
                | inr x ↦
                    elim (bind_err (expect 93 x.0.1) (λ r. Ok (x.0.0, r)) d x.2) [
                      | inl close ↦ square_close depth s x.0 d k j.0 (deeper nested.Items s x.0 x.1) close a
                      | inr close ↦ absurd (let y = close.2 in cc)
                    ]
              ]
          | inr j ↦ leaf_stuck depth s d k j.1 a
        ]
  ]

  atom_stuck : Sticks Atom depth (spec.atom depth inner)
  unfolding spec.atom
  atom_stuck s d k e a = elim (bind_err (spec.start depth inner s) (λ x. spec.accesses depth (length x.1) [] x.1 >>= λ fs. Ok (spec.access_of x.0 fs.0, fs.1)) d e) [
    | inl at ↦ stuck_map (SomePart Start depth) (SomePart Atom depth) s k (part.start_atom depth) (start_stuck s d k at a)
    | inr x ↦
        elim (bind_err (spec.accesses depth (length x.0.1) [] x.0.1) (λ fs. Ok (spec.access_of x.0.0 fs.0, fs.1)) d x.2) [
          | inl at ↦
              stuck_map (Then (SomePart Start depth) (SomeAccesses depth)) (SomePart Atom depth) s k (λ s' r' y. (spec.access_of y.1.0 y.2.0, g.atom y.1.1 y.2.1))
              (moves_stuck (SomePart Start depth) (SomeAccesses depth) s x.0.1 k (moves_some Start depth s x.0.0 x.0.1 (sound.start_sound depth inner deeper s x.0 x.1)) (accesses_stuck depth (length x.0.1) [] x.0.1 d k at a))
          | inr at ↦ absurd (let y = at.2 in cc)
        ]
  ]

  operand_stuck : Sticks Operand depth (spec.operand depth inner)
  unfolding spec.operand
  operand_stuck s d k e a = elim (cond_either (begins_with_byte 33 s) _ _ _ e) [
    | inl h ↦
        elim (bind_err (inner nested.Operand s) (λ x. Ok (expr_node.Not x.0, x.1)) d h.1) [
          | inl at ↦ not_stuck depth s k h.0 (sticks nested.Operand s d k at a)
          | inr at ↦ absurd (let y = at.2 in cc)
        ]
    | inr h ↦ stuck_map (SomePart Atom depth) (SomePart Operand depth) s k (part.atom_operand depth) (atom_stuck s d k h.1 a)
  ]

  abbrev Second : List ℕ → List ℕ → Type 0
  Second = Then SomeCompares (SomePart Operand depth)

  compare_stuck : Sticks Compare depth (spec.compare depth inner)
  unfolding spec.compare
  compare_stuck s d k e a = elim (bind_err (spec.operand depth inner s) (λ x. cond (spec.compares x.1) (spec.comparison x.1 >>= λ op. spec.operand depth inner op.1 >>= λ y. Ok (expr_node.Compare op.0 x.0 y.0, y.1)) (Ok x)) d e) [
    | inl at ↦ stuck_map (SomePart Operand depth) (SomePart Compare depth) s k (part.operand_compare depth) (operand_stuck s d k at a)
    | inr x ↦
        let first = moves_some Operand depth s x.0.0 x.0.1 (sound.operand_sound depth inner deeper s x.0 x.1) in
        let whole : Late Second x.0.1 k → Stuck (SomePart Compare depth) s k = λ q.
        stuck_map (Then (SomePart Operand depth) Second) (SomePart Compare depth) s k (λ s' r' y. (expr_node.Compare y.2.1.0 y.1.0 y.2.2.0, g.compare y.1.1 y.2.1.1 y.2.2.1)) (moves_stuck (SomePart Operand depth) Second s x.0.1 k first q) in
        elim (cond_either (spec.compares x.0.1) _ _ _ x.2) [
          | inl h ↦
              elim (bind_err (spec.comparison x.0.1) (λ op. spec.operand depth inner op.1 >>= λ y. Ok (expr_node.Compare op.0 x.0.0 y.0, y.1)) d h.1) [
                | inl at ↦ whole (comparison_stuck (SomePart Operand depth) (part.one_operand depth) x.0.1 d k at a)
                | inr op ↦
                    elim (bind_err (spec.operand depth inner op.0.1) (λ y. Ok (expr_node.Compare op.0.0 x.0.0 y.0, y.1)) d op.2) [
                      | inl at ↦
                          let o = comparison_sound x.0.1 op.0 h.0 op.1 in
                          let step = steps_map (ComparesOf op.0.0) SomeCompares x.0.1 op.0.1 (λ s' r' y. (op.0.0, y)) (compares_steps x.0.1 op.0.0 op.0.1 o) in
                          whole (steps_late SomeCompares (SomePart Operand depth) x.0.1 op.0.1 k step (compares-short x.0.1 op.0.0 op.0.1 o) (operand_stuck op.0.1 d k at a))
                      | inr at ↦ absurd (let y = at.2 in cc)
                    ]
              ]
          | inr h ↦ absurd (let y = h.1 in cc)
        ]
  ]

  both_stuck : Sticks Both depth (spec.both depth inner)
  unfolding spec.both
  both_stuck s d k e a = elim (bind_err (spec.compare depth inner s) (λ x. spec.chain (spec.compare depth inner) 38 (length x.1) [] x.1 >>= λ xs. Ok (spec.and_of x.0 xs.0, xs.1)) d e) [
    | inl at ↦ stuck_map (SomePart Compare depth) (SomePart Both depth) s k (part.compare_both depth) (compare_stuck s d k at a)
    | inr x ↦
        let item = sound.compare_sound depth inner deeper in
        elim (bind_err (spec.chain (spec.compare depth inner) 38 (length x.0.1) [] x.0.1) (λ xs. Ok (spec.and_of x.0.0 xs.0, xs.1)) d x.2) [
          | inl at ↦
              stuck_map (Then (SomePart Compare depth) (SomeMore And depth)) (SomePart Both depth) s k (λ s' r' y. (spec.and_of y.1.0 y.2.0, g.both y.1.1 y.2.1))
              (moves_stuck (SomePart Compare depth) (SomeMore And depth) s x.0.1 k (moves_some Compare depth s x.0.0 x.0.1 (item s x.0 x.1))
              (chain_stuck And depth (spec.compare depth inner) (part.one_compare depth) item compare_stuck (length x.0.1) [] x.0.1 d k at a))
          | inr at ↦ absurd (let y = at.2 in cc)
        ]
  ]

  either_stuck : Sticks Either depth (spec.either depth inner)
  unfolding spec.either
  either_stuck s d k e a = elim (bind_err (spec.both depth inner s) (λ x. spec.chain (spec.both depth inner) 124 (length x.1) [] x.1 >>= λ xs. Ok (spec.or_of x.0 xs.0, xs.1)) d e) [
    | inl at ↦ stuck_map (SomePart Both depth) (SomePart Either depth) s k (part.both_either depth) (both_stuck s d k at a)
    | inr x ↦
        let item = sound.both_sound depth inner deeper in
        elim (bind_err (spec.chain (spec.both depth inner) 124 (length x.0.1) [] x.0.1) (λ xs. Ok (spec.or_of x.0.0 xs.0, xs.1)) d x.2) [
          | inl at ↦
              stuck_map (Then (SomePart Both depth) (SomeMore Or depth)) (SomePart Either depth) s k (λ s' r' y. (spec.or_of y.1.0 y.2.0, g.either y.1.1 y.2.1))
              (moves_stuck (SomePart Both depth) (SomeMore Or depth) s x.0.1 k (moves_some Both depth s x.0.0 x.0.1 (item s x.0 x.1))
              (chain_stuck Or depth (spec.both depth inner) (part.one_both depth) item both_stuck (length x.0.1) [] x.0.1 d k at a))
          | inr at ↦ absurd (let y = at.2 in cc)
        ]
  ]

  other_stuck : (m : List ℕ) (d : ExprStop) (k : ℕ) → spec.other_choice depth inner m ≡ Err d → At d k → OtherStuck depth m k
  unfolding spec.other_choice
  other_stuck m d k e a = elim (cond_either (begins_with_byte 58 m) _ _ _ e) [
    | inl h ↦ inr (h.0, sticks nested.Choice m d k h.1 a)
    | inr h ↦ inl (at_length (length m) d k h.1 a)
  ]

  choice_stuck : Sticks Choice depth (spec.choice depth inner)
  unfolding spec.choice
  choice_stuck s d k e a = elim (bind_err (spec.either depth inner s) (λ c. cond (begins_with_byte 63 c.1) (inner nested.Choice c.1 >>= λ x. spec.other_choice depth inner x.1 >>= λ y. Ok (expr_node.Choice c.0 x.0 y.0, y.1)) (Ok c)) d e) [
    | inl at ↦ stuck_map (SomePart Either depth) (SomePart Choice depth) s k (part.either_choice depth) (either_stuck s d k at a)
    | inr c ↦
        let first = sound.either_sound depth inner deeper s c.0 c.1 in
        elim (cond_either (begins_with_byte 63 c.0.1) _ _ _ c.2) [
          | inl h ↦
              elim (bind_err (inner nested.Choice c.0.1) (λ x. spec.other_choice depth inner x.1 >>= λ y. Ok (expr_node.Choice c.0.0 x.0 y.0, y.1)) d h.1) [
                | inl at ↦ first_stuck depth s c.0 k first h.0 (sticks nested.Choice c.0.1 d k at a)
                | inr x ↦
                    elim (bind_err (spec.other_choice depth inner x.0.1) (λ y. Ok (expr_node.Choice c.0.0 x.0.0 y.0, y.1)) d x.2) [
                      | inl at ↦ second_stuck depth s c.0 x.0 k first h.0 (deeper nested.Choice c.0.1 x.0 x.1) (other_stuck x.0.1 d k at a)
                      | inr at ↦ absurd (let y = at.2 in cc)
                    ]
              ]
          | inr h ↦ absurd (let y = h.1 in cc)
        ]
  ]

  items_stuck : Sticks Items depth (spec.items depth inner)
  unfolding spec.items
  items_stuck s d k e a = elim (cond_either (begins_with_byte 93 s) _ _ _ e) [
    | inl h ↦ absurd (let y = h.1 in cc)
    | inr h ↦
        elim (bind_err (spec.choice depth inner s) (λ x. spec.chain (spec.choice depth inner) 44 (length x.1) (x.0 ∷ []) x.1 >>= λ xs. Ok (expr_node.List xs.0, xs.1)) d h.1) [
          | inl at ↦ stuck_map (SomePart Choice depth) (SomePart Items depth) s k (λ s' r' x. (expr_node.List (x.0 ∷ []), g.items x.1 g.end)) (choice_stuck s d k at a)
          | inr x ↦
              let item = sound.choice_sound depth inner deeper in
              elim (bind_err (spec.chain (spec.choice depth inner) 44 (length x.0.1) (x.0.0 ∷ []) x.0.1) (λ xs. Ok (expr_node.List xs.0, xs.1)) d x.2) [
                | inl at ↦
                    stuck_map (Then (SomePart Choice depth) (SomeMore Comma depth)) (SomePart Items depth) s k (λ s' r' y. (expr_node.List (y.1.0 ∷ y.2.0), g.items y.1.1 y.2.1))
                    (moves_stuck (SomePart Choice depth) (SomeMore Comma depth) s x.0.1 k (moves_some Choice depth s x.0.0 x.0.1 (item s x.0 x.1))
                    (chain_stuck Comma depth (spec.choice depth inner) (part.one_choice depth) item choice_stuck (length x.0.1) (x.0.0 ∷ []) x.0.1 d k at a))
                | inr at ↦ absurd (let y = at.2 in cc)
              ]
        ]
  ]

  pub level_stuck : (which : Nested) → Sticks (sound.part_inside which) depth (spec.level depth inner which)
  level_stuck nested.Choice s d k e a = choice_stuck s d k e a
  level_stuck nested.Operand s d k e a = operand_stuck s d k e a
  level_stuck nested.Items s d k e a = items_stuck s d k e a

nested_stuck : (depth : ℕ) → InnerSticks depth (spec.nesting depth)
unfolding spec.nesting
nested_stuck zero which s d k e a = at_depth (length s) d k e a
nested_stuck (suc depth) which s d k e a = level_stuck depth (spec.nesting depth) (sound.nested_sound depth) (nested_stuck depth) which (blanks_skipped (drop 1 s)) d k e a

-- a choice in which reading stopped, for any reason but a lack of memory
pub stuck : (depth : ℕ) → Sticks Choice depth (spec.choice depth (spec.nesting depth))
stuck depth = level_stuck depth (spec.nesting depth) (sound.nested_sound depth) (nested_stuck depth) nested.Choice
