-- Where a token is missing or was cut, it can be completed.
use Rattle.std.proofs.Common.{◌≡◌, ℕ, ℤ, Bool, true, false, ◌||◌, eqb, List, [], ◌∷◌, ◌++◌, drop, length, Option, Some, None, Ok, Err, refl, ap, sym, subst, inl, inr}
use Rattle.std.proofs.lemmas.Bool.{eqb-true}
use Rattle.sp_base.specs.Bytes.{begins_with_byte, is_digit}
use Rattle.sp_base.proofs.BoolLemmas.{cond_either}
use Rattle.htl_syntax.specs.declared.stop.ExprStop.{ExprStop}
use Rattle.htl_syntax.specs.declared.tokens.NameKind.TheVariants.{Field}
use Rattle.htl_syntax.specs.declared.node.Comparison.{Comparison}
use Rattle.htl_syntax.specs.declared.node.Comparison.TheVariants.{Equal, NotEqual}
use Rattle.htl_syntax.specs.Tokens.{begins, goes_on, is_first, is_quote, expect, second, read_name, unescape, string_after_escape, string, string_from, digits, signed_number, expression_digit_fits, limit}
use Rattle.htl_syntax.specs.Read as spec
use Rattle.htl_syntax.specs.Fault.{SameHead}
use Rattle.htl_syntax.specs.Grammar.{Byte, Operator, NameToken, StringBody, String, Number, Compares}
use Rattle.htl_syntax.specs.Grammar as g
use Rattle.htl_syntax.proofs.TokensRead.{byte_at}
use Rattle.htl_syntax.proofs.Local.{bind_err}
use Rattle.htl_syntax.proofs.Moves.{Plain, Settled, settled_at, plain_settled, plain_ends, fits_near, Then}
use Rattle.htl_syntax.proofs.MovesTokens.{no_digit}
use Rattle.htl_syntax.proofs.Stuck.{At, at_length, Stuck, Late, late_map, Quiet, fits_quiet}

pub byte_of : (c : ℕ) (z : List ℕ) → Settled z → Byte c (c ∷ z) z
byte_of c z e = record { after = z; parts = refl; rest = sym e }

pub operator_of : (c d : ℕ) (z : List ℕ) → Settled z → Operator c d (c ∷ d ∷ z) z
operator_of c d z e = record { after = z; parts = refl; rest = sym e }

pub expect_missing : (c : ℕ) (m : List ℕ) (d : ExprStop) (k : ℕ) → expect c m ≡ Err d → At d k → length m ≡ k
unfolding expect
expect_missing c m d k e a = elim (cond_either (begins_with_byte c m) _ _ _ e) [
  | inl h ↦ absurd (let x = h.1 in cc)
  | inr h ↦ at_length (length m) d k h.1 a
]

pub byte_missing : (c : ℕ) → ((z : List ℕ) → Plain (c ∷ z)) → (m : List ℕ) (d : ExprStop) (k : ℕ) → expect c m ≡ Err d → At d k → Late (Byte c) m k
byte_missing c plain m d k e a = record {
  stuck = record { leading = []; rest = m; more = c ∷ []; parts = refl; left = expect_missing c m d k e a; near = λ z p. fits_near m (c ∷ z) (inr (plain z)); ends = λ z p. byte_of c z (plain_settled z p) };
  later = λ z p. inr (plain z);
}

-- the operand that completes what misses one
abbrev pub operand : List ℕ → List ℕ
operand z = 39 ∷ 39 ∷ z

pub operand_settled : (z : List ℕ) → Settled (operand z)
operand_settled z = settled_at 39 (39 ∷ z) refl

-- an operator whose second byte is missing, before an operand
pub second_missing : (c d : ℕ) → Quiet c → (Q : List ℕ → List ℕ → Type 0) → ((z : List ℕ) → Plain z → Q (operand z) z) → (m : List ℕ) (stop : ExprStop) (k : ℕ) → begins_with_byte c m ≡ true → second d m ≡ Err stop → At stop k → Late (Then (Operator c d) Q) m k
unfolding second
second_missing c d quiet Q one m stop k at e a = record {
  stuck = record {
    leading = c ∷ [];
    rest = drop 1 m;
    more = d ∷ 39 ∷ 39 ∷ [];
    parts = byte_at c m at;
    left = expect_missing d (drop 1 m) stop k e a;
    near = λ z p. inl (subst (λ (q : List ℕ). SameHead q (c ∷ d ∷ operand z)) (sym (byte_at c m at)) refl);
    ends = λ z p. (operand z, operator_of c d (operand z) (operand_settled z), one z p);
  };
  later = λ z p. fits_quiet c m (d ∷ operand z) quiet (byte_at c m at);
}

abbrev pub SomeCompares : List ℕ → List ℕ → Type 0
SomeCompares s r = (op : Comparison) × Compares s op r

-- ---- strings

abbrev pub SomeString : List ℕ → List ℕ → Type 0
SomeString s r = (w : List ℕ) × String s w r

abbrev Body : Bool → ℕ → List ℕ → List ℕ → Type 0
Body true mark s z = (w : List ℕ) × StringBody mark (92 ∷ s) w z
Body false mark s z = (w : List ℕ) × StringBody mark s w z

record Unclosed (b : Bool) (mark : ℕ) (s : List ℕ) (k : ℕ) : Type 0 where
  leading : List ℕ
  rest : List ℕ
  more : List ℕ
  parts : s ≡ leading ++ rest
  left : length rest ≡ k
  ends : (z : List ℕ) → Body b mark (leading ++ (more ++ z)) z

unclosed : (b : Bool) (mark : ℕ) (s : List ℕ) (d : ExprStop) (k : ℕ) → string_from b mark s ≡ Err d → At d k → Unclosed b mark s k
unfolding string_from unescape
unclosed true mark [] d k e a = record { leading = []; rest = []; more = 110 ∷ mark ∷ []; parts = refl; left = at_length 0 d k e a; ends = λ z. (10 ∷ [], g.escape refl g.closes) }
unclosed false mark [] d k e a = record { leading = []; rest = []; more = mark ∷ []; parts = refl; left = at_length 0 d k e a; ends = λ z. ([], g.closes) }
unclosed true mark (c ∷ s) d k e a = go (unescape c) refl e (λ w. unclosed false mark s d k w a)
  where
    go : (o : Option ℕ) → unescape c ≡ o → string_after_escape o (c ∷ s) (string_from false mark s) ≡ Err d → (string_from false mark s ≡ Err d → Unclosed false mark s k) → Unclosed true mark (c ∷ s) k
    go None u w ih = record { leading = []; rest = c ∷ s; more = 110 ∷ mark ∷ []; parts = refl; left = at_length (length (c ∷ s)) d k w a; ends = λ z. (10 ∷ [], g.escape refl g.closes) }
    go (Some x) u w ih = elim (bind_err (string_from false mark s) (λ y. Ok ((x ∷ []) ++ y.0, y.1)) d w) [
      | inl at ↦
          let i = ih at in
          record { leading = c ∷ i.leading; rest = i.rest; more = i.more; parts = ap (λ (t : List ℕ). c ∷ t) i.parts; left = i.left; ends = λ z. (x ∷ (i.ends z).0, g.escape u (i.ends z).1) }
      | inr at ↦ absurd (let y = at.2 in cc)
    ]
unclosed false mark (c ∷ s) d k e a = elim (cond_either (eqb c mark) _ _ _ e) [
  | inl h ↦ absurd (let y = h.1 in cc)
  | inr h ↦
      elim (cond_either (eqb c 92) _ _ _ h.1) [
        | inl j ↦
            let i = unclosed true mark s d k j.1 a in
            record { leading = c ∷ i.leading; rest = i.rest; more = i.more; parts = ap (λ (t : List ℕ). c ∷ t) i.parts; left = i.left; ends = λ z. ((i.ends z).0, subst (λ (b : ℕ). StringBody mark (b ∷ (i.leading ++ (i.more ++ z))) (i.ends z).0 z) (sym (eqb-true c 92 j.0)) (i.ends z).1) }
        | inr j ↦
            elim (bind_err (string_from false mark s) (λ x. Ok ((c ∷ []) ++ x.0, x.1)) d j.1) [
              | inl at ↦
                  let i = unclosed false mark s d k at a in
                  record { leading = c ∷ i.leading; rest = i.rest; more = i.more; parts = ap (λ (t : List ℕ). c ∷ t) i.parts; left = i.left; ends = λ z. (c ∷ (i.ends z).0, g.plain h.0 j.0 (i.ends z).1) }
              | inr at ↦ absurd (let y = at.2 in cc)
            ]
      ]
]

pub empty_string : (z : List ℕ) → Plain z → String (operand z) [] z
empty_string z p = record { mark = 39; inside = 39 ∷ z; after = z; parts = refl; is_mark = refl; body = g.closes; rest = sym (plain_settled z p) }

string_missing : (s : List ℕ) (k : ℕ) → length s ≡ k → Stuck SomeString s k
string_missing s k e = record { leading = []; rest = s; more = 39 ∷ 39 ∷ []; parts = refl; left = e; near = λ z p. inr (refl, refl, refl); ends = λ z p. ([], empty_string z p) }

pub string_stuck : (s : List ℕ) (d : ExprStop) (k : ℕ) → string s ≡ Err d → At d k → Stuck SomeString s k
unfolding string
string_stuck [] d k e a = string_missing [] k (at_length 0 d k e a)
string_stuck (c ∷ s) d k e a = elim (cond_either (is_quote c) _ _ _ e) [
  | inl h ↦
      let i = unclosed false c s d k h.1 a in
      record {
        leading = c ∷ i.leading;
        rest = i.rest;
        more = i.more;
        parts = ap (λ (t : List ℕ). c ∷ t) i.parts;
        left = i.left;
        near = λ z p. inl refl;
        ends = λ z p. ((i.ends z).0, record { mark = c; inside = i.leading ++ (i.more ++ z); after = z; parts = refl; is_mark = h.0; body = (i.ends z).1; rest = sym (plain_settled z p) });
      }
  | inr h ↦ string_missing (c ∷ s) k (at_length (length (c ∷ s)) d k h.1 a)
]

-- ---- names and numbers

abbrev pub SomeField : List ℕ → List ℕ → Type 0
SomeField s r = (f : List ℕ) × NameToken Field s f r

pub one_field : (z : List ℕ) → Plain z → NameToken Field (95 ∷ z) (95 ∷ []) z
unfolding begins goes_on
one_field z p = record { after = z; parts = refl; first = refl; passes = (refl, tt); longest = plain_ends Field z p; rest = sym (plain_settled z p) }

pub field_stuck : (s : List ℕ) (d : ExprStop) (k : ℕ) → read_name Field s ≡ Err d → At d k → Stuck SomeField s k
unfolding read_name
field_stuck s d k e a = elim (cond_either (begins is_first s) _ _ _ e) [
  | inl h ↦ absurd (let x = h.1 in cc)
  | inr h ↦ record { leading = []; rest = s; more = 95 ∷ []; parts = refl; left = at_length (length s) d k h.1 a; near = λ z p. inr (refl, refl, refl); ends = λ z p. (95 ∷ [], one_field z p) }
]

abbrev pub SomeNumber : List ℕ → List ℕ → Type 0
SomeNumber s r = (k : ℤ) × Number s k r

minus_one : (z : List ℕ) → Plain z → SomeNumber (45 ∷ 49 ∷ z) z
unfolding begins expression_digit_fits
minus_one z p = (
  _,
  record {
    negative = true;
    magnitude = 1;
    inside = 49 ∷ z;
    after = z;
    sign = refl;
    first = refl;
    body = g.digit refl (g.none (no_digit (limit true) 1 z p));
    value = refl;
    rest = sym (plain_settled z p);
  },
)

pub number_stuck : (s : List ℕ) (d : ExprStop) (k : ℕ) → (begins_with_byte 45 s || begins is_digit s) ≡ true → signed_number s ≡ Err d → At d k → Stuck SomeNumber s k
unfolding signed_number digits
number_stuck s d k at e a = elim (cond_either (begins_with_byte 45 s) _ _ _ e) [
  | inl h ↦
      elim (cond_either (begins is_digit (drop 1 s)) _ _ _ h.1) [
        | inl j ↦ absurd (let x = j.1 in cc)
        | inr j ↦ record {
          leading = 45 ∷ [];
          rest = drop 1 s;
          more = 49 ∷ [];
          parts = byte_at 45 s h.0;
          left = at_length (length (drop 1 s)) d k j.1 a;
          near = λ z p. inl (subst (λ (q : List ℕ). SameHead q (45 ∷ 49 ∷ z)) (sym (byte_at 45 s h.0)) refl);
          ends = minus_one;
        }
      ]
  | inr h ↦
      let begin : begins is_digit s ≡ true = rw h.0 at at in
      elim (cond_either (begins is_digit s) _ _ _ h.1) [
        | inl j ↦ absurd (let x = j.1 in cc)
        | inr j ↦ absurd (let x = j.0 in cc)
      ]
]

-- ---- comparisons

quiet_equal : Quiet 61
unfolding goes_on
quiet_equal t = refl

quiet_not : Quiet 33
unfolding goes_on
quiet_not t = refl

pub comparison_stuck : (Q : List ℕ → List ℕ → Type 0) → ((z : List ℕ) → Plain z → Q (operand z) z) → (m : List ℕ) (d : ExprStop) (k : ℕ) → spec.comparison m ≡ Err d → At d k → Late (Then SomeCompares Q) m k
unfolding spec.comparison
comparison_stuck Q one m d k e a = elim (cond_either (begins_with_byte 61 m) _ _ _ e) [
  | inl h ↦
      elim (bind_err (second 61 m) (λ r. Ok (Equal, r)) d h.1) [
        | inl at ↦ late_map (Then (Operator 61 61) Q) (Then SomeCompares Q) m k (λ s' r' x. (x.0, (Equal, g.equal x.1), x.2)) (second_missing 61 61 quiet_equal Q one m d k h.0 at a)
        | inr at ↦ absurd (let x = at.2 in cc)
      ]
  | inr h ↦
      elim (cond_either (begins_with_byte 33 m) _ _ _ h.1) [
        | inl j ↦
            elim (bind_err (second 61 m) (λ r. Ok (NotEqual, r)) d j.1) [
              | inl at ↦ late_map (Then (Operator 33 61) Q) (Then SomeCompares Q) m k (λ s' r' x. (x.0, (NotEqual, g.not_equal x.1), x.2)) (second_missing 33 61 quiet_not Q one m d k j.0 at a)
              | inr at ↦ absurd (let x = at.2 in cc)
            ]
        | inr j ↦
            elim (cond_either (begins_with_byte 60 m) _ _ _ j.1) [
              | inl l ↦ absurd (let x = l.1 in cc)
              | inr l ↦ absurd (let x = l.1 in cc)
            ]
      ]
]
