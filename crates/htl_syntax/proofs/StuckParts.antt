-- Accesses, operands and chains in which reading stopped can be completed.
use Rattle.std.proofs.Common.{◌≡◌, ℕ, zero, suc, true, ◌||◌, eqb, List, [], ◌∷◌, ◌++◌, drop, length, Option, Some, None, Ok, Err, refl, inl, inr}
use Rattle.sp_base.specs.Outcomes.{◌>>=◌}
use Rattle.sp_base.specs.Bytes.{begins_with_byte, is_digit}
use Rattle.sp_base.proofs.BoolLemmas.{cond_either}
use Rattle.htl_syntax.specs.declared.stop.ExprStop.{ExprStop}
use Rattle.htl_syntax.specs.declared.node.ExprNode.{ExprNode}
use Rattle.htl_syntax.specs.declared.node.ExprNode.TheVariants as expr_node
use Rattle.htl_syntax.specs.declared.tokens.NameKind.TheVariants.{Name}
use Rattle.htl_syntax.specs.Tokens.{Outcome, blanks_skipped, begins, goes_on, is_quote, is_first, expect, read_name, signed_number, string}
use Rattle.htl_syntax.specs.Read as spec
use Rattle.htl_syntax.specs.Grammar.{Byte, NameToken, Separator, And, Or, Comma, Separates, GrammarPart, part_of, Choice, Either, Both, Compare, Operand, Atom, Start, Reads, More, Access, Accesses}
use Rattle.htl_syntax.specs.Grammar as g
use Rattle.htl_syntax.proofs.TokensRead.{byte, name_sound, string_sound}
use Rattle.htl_syntax.proofs.TokensAgain.{byte-short}
use Rattle.htl_syntax.proofs.Complete.{separates-short}
use Rattle.htl_syntax.proofs.Sound as sound
use Rattle.htl_syntax.proofs.Sound.{byte_of}
use Rattle.htl_syntax.proofs.Local.{bind_err}
use Rattle.htl_syntax.proofs.Moves.{Plain, settled_at, plain_settled, fits_near, Moves, Then, moves_of, moves_map}
use Rattle.htl_syntax.proofs.MovesTokens.{byte_steps, string_steps, StringOf, name_moves, NameTokenOf}
use Rattle.htl_syntax.proofs.MovesParts.{AccessOf, access_moves, MoreOf, more_moves, separates_steps, ReadsOf, reads_moves}
use Rattle.htl_syntax.proofs.Stuck.{At, at_length, at_depth, Stuck, Late, stuck_map, late_map, moves_stuck, moves_late, steps_late, stuck_then, Quiet}
use Rattle.htl_syntax.proofs.StuckTokens as token
use Rattle.htl_syntax.proofs.StuckTokens.{operand, empty_string, SomeString, string_stuck, SomeField, field_stuck, one_field, SomeNumber, number_stuck, byte_missing, second_missing}

pub square_plain : (z : List ℕ) → Plain (93 ∷ z)
unfolding goes_on
square_plain z = (refl, refl, refl)

pub round_plain : (z : List ℕ) → Plain (41 ∷ z)
unfolding goes_on
round_plain z = (refl, refl, refl)

-- ---- accesses

abbrev pub SomeAccess : ℕ → List ℕ → List ℕ → Type 0
SomeAccess depth s r = (f : List ℕ) × Access depth s f r

abbrev pub SomeAccesses : ℕ → List ℕ → List ℕ → Type 0
SomeAccesses depth s r = (fs : List (List ℕ)) × Accesses depth s fs r

dot_plain : (z : List ℕ) → Plain (46 ∷ z)
unfolding goes_on
dot_plain z = (refl, refl, refl)

access_missing : (depth : ℕ) (t : List ℕ) (k : ℕ) → length t ≡ k → Late (SomeAccess depth) t k
access_missing depth t k e = record {
  stuck = record {
    leading = [];
    rest = t;
    more = 46 ∷ 95 ∷ [];
    parts = refl;
    left = e;
    near = λ z p. fits_near t (46 ∷ 95 ∷ z) (inr (dot_plain (95 ∷ z)));
    ends = λ z p. (95 ∷ [], g.field (token.byte_of 46 (95 ∷ z) (settled_at 95 z refl)) (one_field z p));
  };
  later = λ z p. inr (dot_plain (95 ∷ z));
}

bracketed_stuck : (depth : ℕ) (t : List ℕ) (d : ExprStop) (k : ℕ) → begins_with_byte 91 t ≡ true → spec.bracket_access depth t ≡ Err d → At d k → Late (SomeAccess depth) t k
unfolding spec.bracket_access
bracketed_stuck zero t d k at e a = access_missing zero t k (at_depth (length t) d k e a)
bracketed_stuck (suc depth) t d k at e a = elim (cond_either (eqb (suc depth) 0) _ _ _ e) [
  | inl h ↦ access_missing (suc depth) t k (at_depth (length t) d k h.1 a)
  | inr h ↦
      let m = blanks_skipped (drop 1 t) in
      let b = byte 91 t at in
      let R = Then SomeString (Byte 93) in
      let late : Stuck R m k → Late (SomeAccess (suc depth)) t k = λ q.
      late_map (Then (Byte 91) R) (SomeAccess (suc depth)) t k (λ s' r' x. (x.2.1.0, g.bracket x.1 x.2.1.1 x.2.2)) (steps_late (Byte 91) R t m k (byte_steps 91 t m b) (byte-short 91 t m b) q) in
      elim (bind_err (string m) (λ s. expect 93 s.1 >>= λ q. Ok (s.0, q)) d h.1) [
        | inl w ↦ late (stuck_then SomeString (Byte 93) m k (93 ∷ []) (string_stuck m d k w a) (λ z p. square_plain z) (λ z p. token.byte_of 93 z (plain_settled z p)))
        | inr w ↦
            elim (bind_err (expect 93 w.0.1) (λ q. Ok (w.0.0, q)) d w.2) [
              | inl close ↦
                  late (moves_stuck SomeString (Byte 93) m w.0.1 k
                  (moves_of (StringOf w.0.0) SomeString m w.0.1 (λ s' r' x. (w.0.0, x)) (string_steps m w.0.0 w.0.1 (string_sound m w.0 w.1))) (byte_missing 93 square_plain w.0.1 d k close a))
              | inr close ↦ absurd (let x = close.2 in cc)
            ]
      ]
]

access_stuck : (depth : ℕ) (t : List ℕ) (d : ExprStop) (k : ℕ) → spec.access_at t ≡ true → spec.access depth t ≡ Err d → At d k → Late (SomeAccess depth) t k
unfolding spec.access spec.access_at
access_stuck depth t d k at e a = elim (cond_either (begins_with_byte 46 t) _ _ _ e) [
  | inl h ↦
      let b = byte 46 t h.0 in
      late_map (Then (Byte 46) SomeField) (SomeAccess depth) t k (λ s' r' x. (x.2.0, g.field x.1 x.2.1))
      (steps_late (Byte 46) SomeField t (blanks_skipped (drop 1 t)) k (byte_steps 46 t (blanks_skipped (drop 1 t)) b) (byte-short 46 t (blanks_skipped (drop 1 t)) b) (field_stuck (blanks_skipped (drop 1 t)) d k h.1 a))
  | inr h ↦ bracketed_stuck depth t d k (rw h.0 at at) h.1 a
]

first_access_stuck : (depth : ℕ) (t : List ℕ) (d : ExprStop) (k : ℕ) → spec.first_access depth t ≡ Err d → At d k → Late (SomeAccess depth) t k
unfolding spec.first_access
first_access_stuck depth t d k e a = elim (cond_either (spec.access_at t) _ _ _ e) [
  | inl h ↦ access_stuck depth t d k h.0 h.1 a
  | inr h ↦ access_missing depth t k (at_length (length t) d k h.1 a)
]

pub accesses_stuck : (depth fuel : ℕ) (found : List (List ℕ)) (t : List ℕ) (d : ExprStop) (k : ℕ) → spec.accesses depth fuel found t ≡ Err d → At d k → Late (SomeAccesses depth) t k
unfolding spec.accesses
accesses_stuck depth zero found t d k e a = absurd cc
accesses_stuck depth (suc fuel) found t d k e a = elim (cond_either (spec.access_at t) _ _ _ e) [
  | inl h ↦
      elim (bind_err (spec.access depth t) (λ x. spec.accesses depth fuel (found ++ x.0 ∷ []) x.1) d h.1) [
        | inl at ↦ late_map (SomeAccess depth) (SomeAccesses depth) t k (λ s' r' x. (x.0 ∷ [], g.more x.1 g.none)) (access_stuck depth t d k h.0 at a)
        | inr x ↦
            late_map (Then (AccessOf depth x.0.0) (SomeAccesses depth)) (SomeAccesses depth) t k (λ s' r' y. (x.0.0 ∷ y.2.0, g.more y.1 y.2.1))
            (moves_late (AccessOf depth x.0.0) (SomeAccesses depth) t x.0.1 k (access_moves depth t x.0.0 x.0.1 (sound.access_sound depth t x.0 h.0 x.1)) (accesses_stuck depth fuel (found ++ x.0.0 ∷ []) x.0.1 d k x.2 a))
      ]
  | inr h ↦ absurd (let x = h.1 in cc)
]

-- ---- one operand

abbrev pub SomePart : GrammarPart → ℕ → List ℕ → List ℕ → Type 0
SomePart part depth s r = (e : ExprNode) × Reads part depth s e r

abbrev pub Sticks : GrammarPart → ℕ → (List ℕ → Outcome ExprNode) → Type 0
Sticks part depth f = (s : List ℕ) (d : ExprStop) (k : ℕ) → f s ≡ Err d → At d k → Stuck (SomePart part depth) s k

pub moves_some : (part : GrammarPart) (depth : ℕ) (s : List ℕ) (e : ExprNode) (r : List ℕ) → Reads part depth s e r → Moves (SomePart part depth) s r
moves_some part depth s e r x = moves_map (ReadsOf part depth e) (SomePart part depth) s r (λ s' r' y. (e, y)) (reads_moves part depth s e r x)

pub start_atom : (depth : ℕ) (s r : List ℕ) → SomePart Start depth s r → SomePart Atom depth s r
start_atom depth s r x = (x.0, g.atom x.1 g.none)

pub atom_operand : (depth : ℕ) (s r : List ℕ) → SomePart Atom depth s r → SomePart Operand depth s r
atom_operand depth s r x = (x.0, g.bare x.1)

pub operand_compare : (depth : ℕ) (s r : List ℕ) → SomePart Operand depth s r → SomePart Compare depth s r
operand_compare depth s r x = (x.0, g.single x.1)

pub compare_both : (depth : ℕ) (s r : List ℕ) → SomePart Compare depth s r → SomePart Both depth s r
compare_both depth s r x = (x.0, g.both x.1 g.end)

pub both_either : (depth : ℕ) (s r : List ℕ) → SomePart Both depth s r → SomePart Either depth s r
both_either depth s r x = (x.0, g.either x.1 g.end)

pub either_choice : (depth : ℕ) (s r : List ℕ) → SomePart Either depth s r → SomePart Choice depth s r
either_choice depth s r x = (x.0, g.only x.1)

one_start : (depth : ℕ) (z : List ℕ) → Plain z → SomePart Start depth (operand z) z
one_start depth z p = (expr_node.Text [], g.string (empty_string z p))

pub one_operand : (depth : ℕ) (z : List ℕ) → Plain z → SomePart Operand depth (operand z) z
one_operand depth z p = atom_operand depth (operand z) z (start_atom depth (operand z) z (one_start depth z p))

pub one_compare : (depth : ℕ) (z : List ℕ) → Plain z → SomePart Compare depth (operand z) z
one_compare depth z p = operand_compare depth (operand z) z (one_operand depth z p)

pub one_both : (depth : ℕ) (z : List ℕ) → Plain z → SomePart Both depth (operand z) z
one_both depth z p = compare_both depth (operand z) z (one_compare depth z p)

pub one_choice : (depth : ℕ) (z : List ℕ) → Plain z → SomePart Choice depth (operand z) z
one_choice depth z p = either_choice depth (operand z) z (both_either depth (operand z) z (one_both depth z p))

pub start_missing : (depth : ℕ) (s : List ℕ) (k : ℕ) → length s ≡ k → Stuck (SomePart Start depth) s k
start_missing depth s k e = record { leading = []; rest = s; more = 39 ∷ 39 ∷ []; parts = refl; left = e; near = λ z p. inr (refl, refl, refl); ends = one_start depth }

object_stuck : (depth : ℕ) (s w m : List ℕ) (o : Option (List ℕ → ExprNode)) (d : ExprStop) (k : ℕ) → spec.object_of w ≡ o → NameToken Name s w m → spec.name_or_object_of depth o w m ≡ Err d → At d k → Stuck (SomePart Start depth) s k
object_stuck depth s w m None d k o t e a = absurd cc
object_stuck depth s w m (Some make) d k o t e a = elim (bind_err (spec.first_access depth m) (λ f. Ok (make f.0, f.1)) d e) [
  | inl at ↦
      stuck_map (Then (NameTokenOf Name w) (SomeAccess depth)) (SomePart Start depth) s k (λ s' r' x. (make x.2.0, g.object x.1 o x.2.1))
      (moves_stuck (NameTokenOf Name w) (SomeAccess depth) s m k (name_moves Name s w m t) (first_access_stuck depth m d k at a))
  | inr at ↦ absurd (let x = at.2 in cc)
]

named_stuck : (depth : ℕ) → Sticks Start depth (spec.name_or_object depth)
unfolding spec.name_or_object read_name
named_stuck depth s d k e a = elim (bind_err (read_name Name s) (λ x. spec.name_or_object_of depth (spec.object_of x.0) x.0 x.1) d e) [
  | inl at ↦
      elim (cond_either (begins is_first s) _ _ _ at) [
        | inl h ↦ absurd (let x = h.1 in cc)
        | inr h ↦ start_missing depth s k (at_length (length s) d k h.1 a)
      ]
  | inr x ↦ object_stuck depth s x.0.0 x.0.1 (spec.object_of x.0.0) d k refl (name_sound Name s x.0 x.1) x.2 a
]

pub leaf_stuck : (depth : ℕ) → Sticks Start depth (spec.primary depth)
unfolding spec.primary
leaf_stuck depth s d k e a = elim (cond_either (begins is_quote s) _ _ _ e) [
  | inl h ↦
      elim (bind_err (string s) (λ x. Ok (expr_node.Text x.0, x.1)) d h.1) [
        | inl at ↦ stuck_map SomeString (SomePart Start depth) s k (λ s' r' x. (expr_node.Text x.0, g.string x.1)) (string_stuck s d k at a)
        | inr at ↦ absurd (let x = at.2 in cc)
      ]
  | inr h ↦
      elim (cond_either (begins_with_byte 45 s || begins is_digit s) _ _ _ h.1) [
        | inl j ↦
            elim (bind_err (signed_number s) (λ x. Ok (expr_node.Long x.0, x.1)) d j.1) [
              | inl at ↦ stuck_map SomeNumber (SomePart Start depth) s k (λ s' r' x. (expr_node.Long x.0, g.number x.1)) (number_stuck s d k j.0 at a)
              | inr at ↦ absurd (let x = at.2 in cc)
            ]
        | inr j ↦ named_stuck depth s d k j.1 a
      ]
]

-- ---- chains

quiet_and : Quiet 38
unfolding goes_on
quiet_and t = refl

quiet_or : Quiet 124
unfolding goes_on
quiet_or t = refl

between_stuck : (sep : Separator) (Q : List ℕ → List ℕ → Type 0) → ((z : List ℕ) → Plain z → Q (operand z) z) → (m : List ℕ) (d : ExprStop) (k : ℕ) → begins_with_byte (byte_of sep) m ≡ true → spec.between (byte_of sep) m ≡ Err d → At d k
    → Late (Then (Separates sep) Q) m k
unfolding expect
between_stuck And Q one m d k at e a = second_missing 38 38 quiet_and Q one m d k at e a
between_stuck Or Q one m d k at e a = second_missing 124 124 quiet_or Q one m d k at e a
between_stuck Comma Q one m d k at e a = elim (cond_either (begins_with_byte 44 m) _ _ _ e) [
  | inl h ↦ absurd (let x = h.1 in cc)
  | inr h ↦ absurd (let x = h.0 in cc)
]

abbrev pub SomeMore : Separator → ℕ → List ℕ → List ℕ → Type 0
SomeMore sep depth s r = (es : List ExprNode) × More sep depth s es r

more_then : (sep : Separator) (depth : ℕ) (x : ExprNode) (s m : List ℕ) (es : List ExprNode) (r : List ℕ) → More sep depth s (x ∷ []) m → More sep depth m es r → More sep depth s (x ∷ es) r
more_then sep depth x s m es r (g.more o i g.end) y = g.more o i y

module _ (sep : Separator) (depth : ℕ) (item : List ℕ → Outcome ExprNode) (one : (z : List ℕ) → Plain z → SomePart (part_of sep) depth (operand z) z) (item_sound : sound.Sound (part_of sep) depth item)
    (sticks : Sticks (part_of sep) depth item) where
  single : (s r : List ℕ) → Then (Separates sep) (SomePart (part_of sep) depth) s r → SomeMore sep depth s r
  single s r x = (x.2.0 ∷ [], g.more x.1 x.2.1 g.end)

  pub chain_stuck : (fuel : ℕ) (found : List ExprNode) (t : List ℕ) (d : ExprStop) (k : ℕ) → spec.chain item (byte_of sep) fuel found t ≡ Err d → At d k → Late (SomeMore sep depth) t k
  unfolding spec.chain
  chain_stuck zero found t d k e a = absurd cc
  chain_stuck (suc fuel) found t d k e a = elim (cond_either (begins_with_byte (byte_of sep) t) _ _ _ e) [
    | inl h ↦
        elim (bind_err (spec.between (byte_of sep) t) (λ r. item r >>= λ x. spec.chain item (byte_of sep) fuel (found ++ x.0 ∷ []) x.1) d h.1) [
          | inl at ↦ late_map (Then (Separates sep) (SomePart (part_of sep) depth)) (SomeMore sep depth) t k single (between_stuck sep (SomePart (part_of sep) depth) one t d k h.0 at a)
          | inr at ↦
              let op = sound.between_sound sep t at.0 h.0 at.1 in
              elim (bind_err (item at.0) (λ x. spec.chain item (byte_of sep) fuel (found ++ x.0 ∷ []) x.1) d at.2) [
                | inl no_item ↦
                    late_map (Then (Separates sep) (SomePart (part_of sep) depth)) (SomeMore sep depth) t k single
                    (steps_late (Separates sep) (SomePart (part_of sep) depth) t at.0 k (separates_steps sep t at.0 op) (separates-short sep t at.0 op) (sticks at.0 d k no_item a))
                | inr x ↦
                    let turn : More sep depth t (x.0.0 ∷ []) x.0.1 = g.more op (item_sound at.0 x.0 x.1) g.end in
                    late_map (Then (MoreOf sep depth (x.0.0 ∷ [])) (SomeMore sep depth)) (SomeMore sep depth) t k (λ s' r' y. (x.0.0 ∷ y.2.0, more_then sep depth x.0.0 s' y.0 y.2.0 r' y.1 y.2.1))
                    (moves_late (MoreOf sep depth (x.0.0 ∷ [])) (SomeMore sep depth) t x.0.1 k (more_moves sep depth t (x.0.0 ∷ []) x.0.1 turn) (chain_stuck fuel (found ++ x.0.0 ∷ []) x.0.1 d k x.2 a))
              ]
        ]
    | inr h ↦ absurd (let x = h.1 in cc)
  ]
