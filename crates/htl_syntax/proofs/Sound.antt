-- What is read is in the grammar.
use Rattle.std.proofs.Common.{◌≡◌, ℕ, zero, suc, true, cond, ◌||◌, eqb, List, [], ◌∷◌, ◌++◌, drop, length, Option, Some, None, Ok, refl, ap, sym, subst, ◌∙◌, inl, inr, append_assoc}
use Rattle.std.proofs.lemmas.List.{append-nil}
use Rattle.sp_base.specs.Outcomes.{◌>>=◌}
use Rattle.sp_base.specs.Bytes.{begins_with_byte, is_digit}
use Rattle.sp_base.proofs.BoolLemmas.{cond_either}
use Rattle.htl_syntax.specs.declared.node.ExprNode.{ExprNode}
use Rattle.htl_syntax.specs.declared.node.ExprNode.TheVariants as expr_node
use Rattle.htl_syntax.specs.declared.tokens.NameKind.TheVariants.{Name, Field}
use Rattle.htl_syntax.specs.declared.reader.Nested.{Nested}
use Rattle.htl_syntax.specs.declared.reader.Nested.TheVariants as nested
use Rattle.htl_syntax.specs.Tokens.{Outcome, blanks_skipped, begins, expect, string, signed_number, read_name, is_quote}
use Rattle.htl_syntax.specs.Read as spec
use Rattle.htl_syntax.specs.Grammar.{Byte, Separator, And, Or, Comma, Separates, GrammarPart, part_of, Choice, Either, Both, Compare, Operand, Atom, Start, Items, Reads, More, Access, Accesses}
use Rattle.htl_syntax.specs.Grammar as g
use Rattle.htl_syntax.proofs.Tools.{bind_ok, ok_is}
use Rattle.htl_syntax.proofs.TokensRead.{byte, expect_sound, second_sound, name_sound, string_sound, number_sound, comparison_sound}

abbrev pub Gave : GrammarPart → ℕ → List ℕ → ExprNode × List ℕ → Type 0
Gave part depth s p = Reads part depth s p.0 p.1

abbrev pub Sound : GrammarPart → ℕ → (List ℕ → Outcome ExprNode) → Type 0
Sound part depth f = (s : List ℕ) (p : ExprNode × List ℕ) → f s ≡ Ok p → Gave part depth s p

abbrev pub part_inside : Nested → GrammarPart
part_inside nested.Choice = Choice
part_inside nested.Operand = Operand
part_inside nested.Items = Items

-- one level deeper, after the byte that nests it
abbrev pub Deeper : Nested → ℕ → List ℕ → ExprNode × List ℕ → Type 0
Deeper which zero s p = ⊥
Deeper which (suc depth) s p = Gave (part_inside which) depth (blanks_skipped (drop 1 s)) p

abbrev pub Inner : ℕ → (Nested → List ℕ → Outcome ExprNode) → Type 0
Inner depth inner = (which : Nested) (s : List ℕ) (p : ExprNode × List ℕ) → inner which s ≡ Ok p → Deeper which depth s p

-- ---- what is made of what stands deeper, by cases on the depth

not_deeper : (depth : ℕ) (s : List ℕ) (p : ExprNode × List ℕ) → begins_with_byte 33 s ≡ true → Deeper nested.Operand depth s p → Gave Operand depth s (expr_node.Not p.0, p.1)
not_deeper zero s p at h = absurd h
not_deeper (suc d) s p at h = g.not (byte 33 s at) h

inside_deeper : (depth : ℕ) (s : List ℕ) (p : ExprNode × List ℕ) (r : List ℕ) → begins_with_byte 40 s ≡ true → Deeper nested.Choice depth s p → Byte 41 p.1 r → Gave Start depth s (p.0, r)
inside_deeper zero s p r at h close = absurd h
inside_deeper (suc d) s p r at h close = g.inside (byte 40 s at) h close

list_deeper : (depth : ℕ) (s : List ℕ) (p : ExprNode × List ℕ) (r : List ℕ) → begins_with_byte 91 s ≡ true → Deeper nested.Items depth s p → Byte 93 p.1 r → Gave Start depth s (p.0, r)
list_deeper zero s p r at h close = absurd h
list_deeper (suc d) s p r at h close = g.list (byte 91 s at) h close

choice_deeper : (depth : ℕ) (s : List ℕ) (c a b : ExprNode × List ℕ) → Gave Either depth s c → begins_with_byte 63 c.1 ≡ true → Deeper nested.Choice depth c.1 a → begins_with_byte 58 a.1 ≡ true → Deeper nested.Choice depth a.1 b
    → Gave Choice depth s (expr_node.Choice c.0 a.0 b.0, b.1)
choice_deeper zero s c a b first at h at' h' = absurd h
choice_deeper (suc d) s c a b first at h at' h' = g.choice first (byte 63 c.1 at) h (byte 58 a.1 at') h'

-- ---- loops

abbrev pub byte_of : Separator → ℕ
byte_of And = 38
byte_of Or = 124
byte_of Comma = 44

pub between_sound : (sep : Separator) (s r : List ℕ) → begins_with_byte (byte_of sep) s ≡ true → spec.between (byte_of sep) s ≡ Ok r → Separates sep s r
between_sound And s r at e = second_sound 38 38 s r at e
between_sound Or s r at e = second_sound 124 124 s r at e
between_sound Comma s r at e = expect_sound 44 s r e

abbrev Longer : Separator → ℕ → List ExprNode → List ℕ → List ExprNode × List ℕ → Type 0
Longer sep depth found t p = (es : List ExprNode) × (p.0 ≡ found ++ es) × More sep depth t es p.1

chain_sound : (sep : Separator) (depth : ℕ) (item : List ℕ → Outcome ExprNode) (k : ℕ) (found : List ExprNode) (t : List ℕ) (p : List ExprNode × List ℕ) → Sound (part_of sep) depth item
    → spec.chain item (byte_of sep) k found t ≡ Ok p → Longer sep depth found t p
unfolding spec.chain
chain_sound sep depth item zero found t p ih e = subst (Longer sep depth found t) (ok_is _ _ e) ([], sym (append-nil found), g.end)
chain_sound sep depth item (suc k) found t p ih e =
    elim (cond_either (begins_with_byte (byte_of sep) t) _ _ _ e) [
      | inl h ↦
          let op = bind_ok (spec.between (byte_of sep) t) (λ r. item r >>= λ x. spec.chain item (byte_of sep) k (found ++ x.0 ∷ []) x.1) p h.1 in
          let one = bind_ok (item op.0) (λ x. spec.chain item (byte_of sep) k (found ++ x.0 ∷ []) x.1) p op.2 in
          let others = chain_sound sep depth item k (found ++ one.0.0 ∷ []) one.0.1 p ih one.2 in
          (one.0.0 ∷ others.0, others.1 ∙ append_assoc found (one.0.0 ∷ []) others.0, g.more (between_sound sep t op.0 h.0 op.1) (ih op.0 one.0 one.1) others.2)
      | inr h ↦ subst (Longer sep depth found t) (ok_is _ _ h.1) ([], sym (append-nil found), g.end)
    ]

bracketed_sound : (depth : ℕ) (t : List ℕ) (x : List ℕ × List ℕ) → begins_with_byte 91 t ≡ true → spec.bracket_access depth t ≡ Ok x → Access depth t x.0 x.1
unfolding spec.bracket_access
bracketed_sound zero t x at e = absurd cc
bracketed_sound (suc d) t x at e =
    elim (cond_either (eqb (suc d) 0) _ _ _ e) [
      | inl k ↦ absurd cc
      | inr k ↦
          let w = bind_ok (string (blanks_skipped (drop 1 t))) (λ s. expect 93 s.1 >>= λ r'. Ok (s.0, r')) x k.1 in
          let close = bind_ok (expect 93 w.0.1) (λ r'. Ok (w.0.0, r')) x w.2 in
          subst (λ (q : List ℕ × List ℕ). Access (suc d) t q.0 q.1) (ok_is _ _ close.2)
          (g.bracket (byte 91 t at) (string_sound (blanks_skipped (drop 1 t)) w.0 w.1) (expect_sound 93 w.0.1 close.0 close.1))
    ]

pub access_sound : (depth : ℕ) (t : List ℕ) (x : List ℕ × List ℕ) → spec.access_at t ≡ true → spec.access depth t ≡ Ok x → Access depth t x.0 x.1
unfolding spec.access spec.access_at
access_sound depth t x at e =
    elim (cond_either (begins_with_byte 46 t) _ _ _ e) [
      | inl h ↦ g.field (byte 46 t h.0) (name_sound Field (blanks_skipped (drop 1 t)) x h.1)
      | inr h ↦ bracketed_sound depth t x (rw h.0 at at) h.1
    ]

pub first_access_sound : (depth : ℕ) (t : List ℕ) (x : List ℕ × List ℕ) → spec.first_access depth t ≡ Ok x → Access depth t x.0 x.1
unfolding spec.first_access
first_access_sound depth t x e =
    elim (cond_either (spec.access_at t) _ _ _ e) [
      | inl h ↦ access_sound depth t x h.0 h.1
      | inr h ↦ absurd cc
    ]

abbrev Further : ℕ → List (List ℕ) → List ℕ → List (List ℕ) × List ℕ → Type 0
Further depth found t p = (fs : List (List ℕ)) × (p.0 ≡ found ++ fs) × Accesses depth t fs p.1

pub accesses_sound : (depth k : ℕ) (found : List (List ℕ)) (t : List ℕ) (p : List (List ℕ) × List ℕ) → spec.accesses depth k found t ≡ Ok p → Further depth found t p
unfolding spec.accesses
accesses_sound depth zero found t p e = subst (Further depth found t) (ok_is _ _ e) ([], sym (append-nil found), g.none)
accesses_sound depth (suc k) found t p e =
    elim (cond_either (spec.access_at t) _ _ _ e) [
      | inl h ↦
          let one = bind_ok (spec.access depth t) (λ x. spec.accesses depth k (found ++ x.0 ∷ []) x.1) p h.1 in
          let others = accesses_sound depth k (found ++ one.0.0 ∷ []) one.0.1 p one.2 in
          (one.0.0 ∷ others.0, others.1 ∙ append_assoc found (one.0.0 ∷ []) others.0, g.more (access_sound depth t one.0 h.0 one.1) others.2)
      | inr h ↦ subst (Further depth found t) (ok_is _ _ h.1) ([], sym (append-nil found), g.none)
    ]

-- ---- a part without brackets of its own

named_sound : (depth : ℕ) → Sound Start depth (spec.name_or_object depth)
unfolding spec.name_or_object
named_sound depth s p e =
    let x = bind_ok (read_name Name s) (λ x. spec.name_or_object_of depth (spec.object_of x.0) x.0 x.1) p e in
    go (spec.object_of x.0.0) x.0 refl (name_sound Name s x.0 x.1) x.2
  where
    go : (o : Option (List ℕ → ExprNode)) (w : List ℕ × List ℕ) → spec.object_of w.0 ≡ o → g.NameToken Name s w.0 w.1 → spec.name_or_object_of depth o w.0 w.1 ≡ Ok p → Gave Start depth s p
    go None w o-is t e' = subst (Gave Start depth s) (ok_is _ _ e') (g.name t o-is)
    go (Some make) w o-is t e' =
        let f = bind_ok (spec.first_access depth w.1) (λ f. Ok (make f.0, f.1)) p e' in
        subst (Gave Start depth s) (ok_is _ _ f.2) (g.object t o-is (first_access_sound depth w.1 f.0 f.1))

leaf_sound : (depth : ℕ) → Sound Start depth (spec.primary depth)
unfolding spec.primary
leaf_sound depth s p e =
    elim (cond_either (begins is_quote s) _ _ _ e) [
      | inl h ↦
          let w = bind_ok (string s) (λ x. Ok (expr_node.Text x.0, x.1)) p h.1 in
          subst (Gave Start depth s) (ok_is _ _ w.2) (g.string (string_sound s w.0 w.1))
      | inr h ↦
          elim (cond_either (begins_with_byte 45 s || begins is_digit s) _ _ _ h.1) [
            | inl k ↦
                let w = bind_ok (signed_number s) (λ x. Ok (expr_node.Long x.0, x.1)) p k.1 in
                subst (Gave Start depth s) (ok_is _ _ w.2) (g.number (number_sound s w.0 w.1))
            | inr k ↦ named_sound depth s p k.1
          ]
    ]

-- ---- each part, where its own parts are sound

module _ (depth : ℕ) (inner : Nested → List ℕ → Outcome ExprNode) (deeper : Inner depth inner) where
  pub start_sound : Sound Start depth (spec.start depth inner)
  unfolding spec.start
  start_sound s p e =
      elim (cond_either (begins_with_byte 40 s) _ _ _ e) [
        | inl h ↦
            let x = bind_ok (inner nested.Choice s) (λ x. expect 41 x.1 >>= λ r. Ok (x.0, r)) p h.1 in
            let close = bind_ok (expect 41 x.0.1) (λ r. Ok (x.0.0, r)) p x.2 in
            subst (Gave Start depth s) (ok_is _ _ close.2)
            (inside_deeper depth s x.0 close.0 h.0 (deeper nested.Choice s x.0 x.1) (expect_sound 41 x.0.1 close.0 close.1))
        | inr h ↦
            elim (cond_either (begins_with_byte 91 s) _ _ _ h.1) [
              | inl k ↦
                  let x = bind_ok (inner nested.Items s) (λ x. expect 93 x.1 >>= λ r. Ok (x.0, r)) p k.1 in
                  let close = bind_ok (expect 93 x.0.1) (λ r. Ok (x.0.0, r)) p x.2 in
                  subst (Gave Start depth s) (ok_is _ _ close.2)
                  (list_deeper depth s x.0 close.0 k.0 (deeper nested.Items s x.0 x.1) (expect_sound 93 x.0.1 close.0 close.1))
              | inr k ↦ leaf_sound depth s p k.1
            ]
      ]

  atom_sound : Sound Atom depth (spec.atom depth inner)
  unfolding spec.atom
  atom_sound s p e =
      let x = bind_ok (spec.start depth inner s) (λ x. spec.accesses depth (length x.1) [] x.1 >>= λ fs. Ok (spec.access_of x.0 fs.0, fs.1)) p e in
      let fs = bind_ok (spec.accesses depth (length x.0.1) [] x.0.1) (λ fs. Ok (spec.access_of x.0.0 fs.0, fs.1)) p x.2 in
      let f = accesses_sound depth (length x.0.1) [] x.0.1 fs.0 fs.1 in
      subst (Gave Atom depth s) (ok_is _ _ fs.2)
      (g.atom (start_sound s x.0 x.1) (subst (λ (l : List (List ℕ)). Accesses depth x.0.1 l fs.0.1) (sym f.1) f.2))

  pub operand_sound : Sound Operand depth (spec.operand depth inner)
  unfolding spec.operand
  operand_sound s p e =
      elim (cond_either (begins_with_byte 33 s) _ _ _ e) [
        | inl h ↦
            let x = bind_ok (inner nested.Operand s) (λ x. Ok (expr_node.Not x.0, x.1)) p h.1 in
            subst (Gave Operand depth s) (ok_is _ _ x.2) (not_deeper depth s x.0 h.0 (deeper nested.Operand s x.0 x.1))
        | inr h ↦ g.bare (atom_sound s p h.1)
      ]

  pub compare_sound : Sound Compare depth (spec.compare depth inner)
  unfolding spec.compare
  compare_sound s p e =
      let a = bind_ok (spec.operand depth inner s) (λ a. cond (spec.compares a.1) (spec.comparison a.1 >>= λ op. spec.operand depth inner op.1 >>= λ b. Ok (expr_node.Compare op.0 a.0 b.0, b.1)) (Ok a)) p e in
      elim (cond_either (spec.compares a.0.1) _ _ _ a.2) [
        | inl h ↦
            let op = bind_ok (spec.comparison a.0.1) (λ op. spec.operand depth inner op.1 >>= λ b. Ok (expr_node.Compare op.0 a.0.0 b.0, b.1)) p h.1 in
            let b = bind_ok (spec.operand depth inner op.0.1) (λ b. Ok (expr_node.Compare op.0.0 a.0.0 b.0, b.1)) p op.2 in
            subst (Gave Compare depth s) (ok_is _ _ b.2) (g.compare (operand_sound s a.0 a.1) (comparison_sound a.0.1 op.0 h.0 op.1) (operand_sound op.0.1 b.0 b.1))
        | inr h ↦ subst (Gave Compare depth s) (ok_is _ _ h.1) (g.single (operand_sound s a.0 a.1))
      ]

  pub both_sound : Sound Both depth (spec.both depth inner)
  unfolding spec.both
  both_sound s p e =
      let x = bind_ok (spec.compare depth inner s) (λ x. spec.chain (spec.compare depth inner) 38 (length x.1) [] x.1 >>= λ xs. Ok (spec.and_of x.0 xs.0, xs.1)) p e in
      let xs = bind_ok (spec.chain (spec.compare depth inner) 38 (length x.0.1) [] x.0.1) (λ xs. Ok (spec.and_of x.0.0 xs.0, xs.1)) p x.2 in
      let l = chain_sound And depth (spec.compare depth inner) (length x.0.1) [] x.0.1 xs.0 compare_sound xs.1 in
      subst (Gave Both depth s) (ok_is _ _ xs.2) (g.both (compare_sound s x.0 x.1) (subst (λ (es : List ExprNode). More And depth x.0.1 es xs.0.1) (sym l.1) l.2))

  pub either_sound : Sound Either depth (spec.either depth inner)
  unfolding spec.either
  either_sound s p e =
      let x = bind_ok (spec.both depth inner s) (λ x. spec.chain (spec.both depth inner) 124 (length x.1) [] x.1 >>= λ xs. Ok (spec.or_of x.0 xs.0, xs.1)) p e in
      let xs = bind_ok (spec.chain (spec.both depth inner) 124 (length x.0.1) [] x.0.1) (λ xs. Ok (spec.or_of x.0.0 xs.0, xs.1)) p x.2 in
      let l = chain_sound Or depth (spec.both depth inner) (length x.0.1) [] x.0.1 xs.0 both_sound xs.1 in
      subst (Gave Either depth s) (ok_is _ _ xs.2) (g.either (both_sound s x.0 x.1) (subst (λ (es : List ExprNode). More Or depth x.0.1 es xs.0.1) (sym l.1) l.2))

  pub choice_sound : Sound Choice depth (spec.choice depth inner)
  unfolding spec.choice spec.other_choice
  choice_sound s p e =
      let c = bind_ok (spec.either depth inner s) (λ c. cond (begins_with_byte 63 c.1) (inner nested.Choice c.1 >>= λ a. spec.other_choice depth inner a.1 >>= λ b. Ok (expr_node.Choice c.0 a.0 b.0, b.1)) (Ok c)) p e in
      elim (cond_either (begins_with_byte 63 c.0.1) _ _ _ c.2) [
        | inl h ↦
            let a = bind_ok (inner nested.Choice c.0.1) (λ a. spec.other_choice depth inner a.1 >>= λ b. Ok (expr_node.Choice c.0.0 a.0 b.0, b.1)) p h.1 in
            let b = bind_ok (spec.other_choice depth inner a.0.1) (λ b. Ok (expr_node.Choice c.0.0 a.0.0 b.0, b.1)) p a.2 in
            elim (cond_either (begins_with_byte 58 a.0.1) _ _ _ b.1) [
              | inl k ↦ subst (Gave Choice depth s) (ok_is _ _ b.2) (choice_deeper depth s c.0 a.0 b.0 (either_sound s c.0 c.1) h.0 (deeper nested.Choice c.0.1 a.0 a.1) k.0 (deeper nested.Choice a.0.1 b.0 k.1))
              | inr k ↦ absurd cc
            ]
        | inr h ↦ subst (Gave Choice depth s) (ok_is _ _ h.1) (g.only (either_sound s c.0 c.1))
      ]

  pub items_sound : Sound Items depth (spec.items depth inner)
  unfolding spec.items
  items_sound s p e =
      elim (cond_either (begins_with_byte 93 s) _ _ _ e) [
        | inl h ↦ subst (Gave Items depth s) (ok_is _ _ h.1) g.no_items
        | inr h ↦
            let x = bind_ok (spec.choice depth inner s) (λ x. spec.chain (spec.choice depth inner) 44 (length x.1) (x.0 ∷ []) x.1 >>= λ xs. Ok (expr_node.List xs.0, xs.1)) p h.1 in
            let xs = bind_ok (spec.chain (spec.choice depth inner) 44 (length x.0.1) (x.0.0 ∷ []) x.0.1) (λ xs. Ok (expr_node.List xs.0, xs.1)) p x.2 in
            let l = chain_sound Comma depth (spec.choice depth inner) (length x.0.1) (x.0.0 ∷ []) x.0.1 xs.0 choice_sound xs.1 in
            subst (Gave Items depth s) (ap (λ (es : List ExprNode). (expr_node.List es, xs.0.1)) (sym l.1) ∙ ok_is _ _ xs.2) (g.items (choice_sound s x.0 x.1) l.2)
      ]

pub nested_sound : (depth : ℕ) → Inner depth (spec.nesting depth)
unfolding spec.nesting
nested_sound zero which s p e = absurd cc
nested_sound (suc d) nested.Choice s p e = choice_sound d (spec.nesting d) (nested_sound d) (blanks_skipped (drop 1 s)) p e
nested_sound (suc d) nested.Operand s p e = operand_sound d (spec.nesting d) (nested_sound d) (blanks_skipped (drop 1 s)) p e
nested_sound (suc d) nested.Items s p e = items_sound d (spec.nesting d) (nested_sound d) (blanks_skipped (drop 1 s)) p e

pub sound : (depth : ℕ) → Sound Choice depth (spec.choice depth (spec.nesting depth))
sound depth = choice_sound depth (spec.nesting depth) (nested_sound depth)
