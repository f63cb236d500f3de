-- Options in which reading stopped can be completed.
use Rattle.std.proofs.Common.{◌≡◌, ℕ, true, List, [], ◌∷◌, ◌++◌, drop, length, Result, Ok, Err, codes, refl, ap, sym, subst, ◌∙◌, inl, inr, append_assoc}
use Rattle.sp_base.specs.Outcomes.{◌>>=◌}
use Rattle.sp_base.specs.Bytes.{begins_with_byte}
use Rattle.sp_base.proofs.BoolLemmas.{cond_either}
use Rattle.htl_syntax.specs.declared.stop.ExprStop.{ExprStop}
use Rattle.htl_syntax.specs.declared.expression.Context.{Context}
use Rattle.htl_syntax.specs.declared.expression.Context.TheVariants.{Text, Unsafe}
use Rattle.htl_syntax.specs.Tokens.{blanks_skipped, begins, is_quote, expect, literal, string}
use Rattle.htl_syntax.specs.Read as spec
use Rattle.htl_syntax.specs.Grammar.{Byte, Literal, ContextString, context_text, Join, InContext}
use Rattle.htl_syntax.proofs.TokensRead.{byte_at, expect_sound}
use Rattle.htl_syntax.proofs.WholeRead as whole
use Rattle.htl_syntax.proofs.Local.{bind_err}
use Rattle.htl_syntax.proofs.Moves.{Plain, Settled, settled_at, plain_settled, Then}
use Rattle.htl_syntax.proofs.MovesTokens.{byte_jumps, literal_jumps, join_of, in_context_of}
use Rattle.htl_syntax.proofs.Stuck.{At, at_length, Cut, cut_map, cut_of, jumps_cut}
use Rattle.htl_syntax.proofs.StuckTokens.{operand, operand_settled, empty_string, byte_of, expect_missing, SomeString, string_stuck}

-- ---- words

-- the part of a word that was read, and the rest of it
record Unread (w s : List ℕ) (k : ℕ) : Type 0 where
  leading : List ℕ
  tail : List ℕ
  rest : List ℕ
  word : w ≡ leading ++ tail
  parts : s ≡ leading ++ rest
  left : length rest ≡ k

unread : (w s : List ℕ) (d : ExprStop) (k : ℕ) → literal w s ≡ Err d → At d k → Unread w s k
unfolding literal
unread [] s d k e a = absurd cc
unread (c ∷ w) s d k e a = elim (cond_either (begins_with_byte c s) _ _ _ e) [
  | inl h ↦
      let i = unread w (drop 1 s) d k h.1 a in
      record { leading = c ∷ i.leading; tail = i.tail; rest = i.rest; word = ap (λ (t : List ℕ). c ∷ t) i.word; parts = byte_at c s h.0 ∙ ap (λ (t : List ℕ). c ∷ t) i.parts; left = i.left }
  | inr h ↦ record { leading = []; tail = c ∷ w; rest = s; word = refl; parts = refl; left = at_length (length s) d k h.1 a }
]

-- the word stands there whole
word_whole : (w s : List ℕ) (k : ℕ) (i : Unread w s k) (z : List ℕ) → i.leading ++ (i.tail ++ z) ≡ w ++ z
word_whole w s k i z = sym (append_assoc i.leading i.tail z) ∙ ap (λ (t : List ℕ). t ++ z) (sym i.word)

-- a word, and then a part that a text spells
word_cut : (c : ℕ) (w s : List ℕ) (d : ExprStop) (k : ℕ) (Q : List ℕ → List ℕ → Type 0) (more : List ℕ) → ((z : List ℕ) → Settled ((c ∷ w) ++ z)) → ((z : List ℕ) → Settled (more ++ z)) → ((z : List ℕ) → Plain z → Q (more ++ z) z)
    → literal (c ∷ w) s ≡ Err d → At d k → Cut (Then (Literal (c ∷ w)) Q) s k
word_cut c w s d k Q more first settled make e a =
    let i = unread (c ∷ w) s d k e a in
    let shape : (z : List ℕ) → i.leading ++ ((i.tail ++ more) ++ z) ≡ (c ∷ w) ++ (more ++ z) = λ z. ap (λ (t : List ℕ). i.leading ++ t) (append_assoc i.tail more z) ∙ word_whole (c ∷ w) s k i (more ++ z) in
    record {
      leading = i.leading;
      rest = i.rest;
      more = i.tail ++ more;
      parts = i.parts;
      left = i.left;
      clear = λ z p. inr (subst Settled (sym (shape z)) (first (more ++ z)));
      ends = λ z p. (more ++ z, record { after = more ++ z; parts = shape z; rest = sym (settled z) }, make z p);
    }

-- ---- the sign after the word, and the value

-- "=" and the value that a text spells, where neither stands
sign_cut : (Q : List ℕ → List ℕ → Type 0) (more m : List ℕ) (d : ExprStop) (k : ℕ) → ((z : List ℕ) → Settled (more ++ z)) → ((z : List ℕ) → Plain z → Q (more ++ z) z) → expect 61 m ≡ Err d → At d k → Cut (Then (Byte 61) Q) m k
sign_cut Q more m d k settled make e a = record {
  leading = [];
  rest = m;
  more = 61 ∷ more;
  parts = refl;
  left = expect_missing 61 m d k e a;
  clear = λ z p. inr (settled_at 61 (more ++ z) refl);
  ends = λ z p. (more ++ z, byte_of 61 (more ++ z) (settled z), make z p);
}

-- an option: its word, "=" and its value
module _ (A : Type 0) (c : ℕ) (w more : List ℕ) (Q : List ℕ → List ℕ → Type 0) (value : List ℕ → Result (A × List ℕ) ExprStop) (first : (z : List ℕ) → Settled ((c ∷ w) ++ z)) (settled : (z : List ℕ) → Settled (more ++ z))
    (make : (z : List ℕ) → Plain z → Q (more ++ z) z) (sticks : (s : List ℕ) (d : ExprStop) (k : ℕ) → value s ≡ Err d → At d k → Cut Q s k) where
  abbrev After : List ℕ → List ℕ → Type 0
  After = Then (Byte 61) Q

  sign_settled : (z : List ℕ) → Settled ((61 ∷ more) ++ z)
  sign_settled z = settled_at 61 (more ++ z) refl

  pub option_missing : (s : List ℕ) (k : ℕ) → length s ≡ k → Cut (Then (Literal (c ∷ w)) After) s k
  option_missing s k e = record {
    leading = [];
    rest = s;
    more = (c ∷ w) ++ (61 ∷ more);
    parts = refl;
    left = e;
    clear = λ z p. inr (subst Settled (sym (append_assoc (c ∷ w) (61 ∷ more) z)) (first (61 ∷ (more ++ z))));
    ends = λ z p. ((61 ∷ more) ++ z, record { after = (61 ∷ more) ++ z; parts = append_assoc (c ∷ w) (61 ∷ more) z; rest = sym (sign_settled z) }, (more ++ z, byte_of 61 (more ++ z) (settled z), make z p));
  }

  pub option_cut : (s : List ℕ) (d : ExprStop) (k : ℕ) → (literal (c ∷ w) s >>= λ a. expect 61 (blanks_skipped a) >>= λ b. value b) ≡ Err d → At d k → Cut (Then (Literal (c ∷ w)) After) s k
  option_cut s d k e a = elim (bind_err (literal (c ∷ w) s) (λ x. expect 61 (blanks_skipped x) >>= λ b. value b) d e) [
    | inl at ↦ word_cut c w s d k After (61 ∷ more) first sign_settled (λ z p. (more ++ z, byte_of 61 (more ++ z) (settled z), make z p)) at a
    | inr x ↦
        let word : Literal (c ∷ w) s (blanks_skipped x.0) = record { after = x.0; parts = whole.literal_parts (c ∷ w) s x.0 x.1; rest = refl } in
        elim (bind_err (expect 61 (blanks_skipped x.0)) (λ b. value b) d x.2) [
          | inl at ↦ jumps_cut (Literal (c ∷ w)) After s (blanks_skipped x.0) k (literal_jumps (c ∷ w) s (blanks_skipped x.0) word) (sign_cut Q more (blanks_skipped x.0) d k settled make at a)
          | inr b ↦
              let sign = expect_sound 61 (blanks_skipped x.0) b.0 b.1 in
              jumps_cut (Literal (c ∷ w)) After s (blanks_skipped x.0) k (literal_jumps (c ∷ w) s (blanks_skipped x.0) word)
              (jumps_cut (Byte 61) Q (blanks_skipped x.0) b.0 k (byte_jumps 61 (blanks_skipped x.0) b.0 sign) (sticks b.0 d k b.2 a))
        ]
  ]

-- ---- join

abbrev pub SomeJoin : List ℕ → List ℕ → Type 0
SomeJoin s r = (w : List ℕ) × Join s w r

join_made : (s r : List ℕ) → Then (Literal (codes "join")) (Then (Byte 61) SomeString) s r → SomeJoin s r
join_made s r x = (x.2.2.0, join_of x.2.2.0 s r (x.0, x.1, (x.2.0, x.2.1, x.2.2.1)))

j_settled : (z : List ℕ) → Settled (codes "join" ++ z)
j_settled z = settled_at 106 (codes "oin" ++ z) refl

any_string : (z : List ℕ) → Plain z → SomeString (operand z) z
any_string z p = ([], empty_string z p)

string_cut : (s : List ℕ) (d : ExprStop) (k : ℕ) → string s ≡ Err d → At d k → Cut SomeString s k
string_cut s d k e a = cut_of SomeString s k (string_stuck s d k e a)

pub join_missing : (s : List ℕ) (k : ℕ) → length s ≡ k → Cut SomeJoin s k
join_missing s k e =
    cut_map (Then (Literal (codes "join")) (Then (Byte 61) SomeString)) SomeJoin s k join_made (option_missing (List ℕ) 106 (codes "oin") (39 ∷ 39 ∷ []) SomeString string j_settled operand_settled any_string string_cut s k e)

pub join_cut : (s : List ℕ) (d : ExprStop) (k : ℕ) → spec.join_option s ≡ Err d → At d k → Cut SomeJoin s k
unfolding spec.join_option
join_cut s d k e a =
    cut_map (Then (Literal (codes "join")) (Then (Byte 61) SomeString)) SomeJoin s k join_made (option_cut (List ℕ) 106 (codes "oin") (39 ∷ 39 ∷ []) SomeString string j_settled operand_settled any_string string_cut s d k e a)

-- ---- context

abbrev SomeContextString : List ℕ → List ℕ → Type 0
SomeContextString s r = (c : Context) × ContextString s c r

abbrev context_more : List ℕ
context_more = 39 ∷ (codes "text" ++ 39 ∷ [])

any_context : (z : List ℕ) → Plain z → SomeContextString (context_more ++ z) z
any_context z p = (Text, record { mark = 39; after = z; parts = refl; is_mark = refl; rest = sym (plain_settled z p) })

context_settled : (z : List ℕ) → Settled (context_more ++ z)
context_settled z = settled_at 39 (codes "text" ++ 39 ∷ z) refl

context_string_missing : (s : List ℕ) (k : ℕ) → length s ≡ k → Cut SomeContextString s k
context_string_missing s k e = record { leading = []; rest = s; more = context_more; parts = refl; left = e; clear = λ z p. inr (context_settled z); ends = any_context }

-- the word after the mark was cut
context_word_cut : (c : ℕ) (s : List ℕ) (context : Context) (d : ExprStop) (k : ℕ) → is_quote c ≡ true → literal (context_text context) s ≡ Err d → At d k → Cut SomeContextString (c ∷ s) k
context_word_cut c s context d k quote e a =
    let w = context_text context in
    let i = unread w s d k e a in
    record {
      leading = c ∷ i.leading;
      rest = i.rest;
      more = i.tail ++ c ∷ [];
      parts = ap (λ (t : List ℕ). c ∷ t) i.parts;
      left = i.left;
      clear = λ z p. inl refl;
      ends = λ z p. (
        context,
        record {
          mark = c;
          after = z;
          parts = ap (λ (t : List ℕ). c ∷ t) (ap (λ (t : List ℕ). i.leading ++ t) (append_assoc i.tail (c ∷ []) z) ∙ word_whole w s k i (c ∷ z));
          is_mark = quote;
          rest = sym (plain_settled z p);
        },
      );
    }

context_close_cut : (c : ℕ) (s : List ℕ) (x : Context × List ℕ) (k : ℕ) → is_quote c ≡ true → s ≡ context_text x.0 ++ x.1 → length x.1 ≡ k → Cut SomeContextString (c ∷ s) k
context_close_cut c s x k quote parts e = record {
  leading = c ∷ context_text x.0;
  rest = x.1;
  more = c ∷ [];
  parts = ap (λ (t : List ℕ). c ∷ t) parts;
  left = e;
  clear = λ z p. inl refl;
  ends = λ z p. (x.0, record { mark = c; after = z; parts = refl; is_mark = quote; rest = sym (plain_settled z p) });
}

context_string_cut : (s : List ℕ) (d : ExprStop) (k : ℕ) → spec.context_string s ≡ Err d → At d k → Cut SomeContextString s k
unfolding spec.context_string spec.context_word begins
context_string_cut [] d k e a = context_string_missing [] k (at_length 0 d k e a)
context_string_cut (c ∷ s) d k e a = elim (cond_either (is_quote c) _ _ _ e) [
  | inl h ↦
      elim (bind_err (spec.context_word s) (λ x. expect c x.1 >>= λ r. Ok (x.0, r)) d h.1) [
        | inl at ↦
            elim (cond_either (begins_with_byte 116 s) _ _ _ at) [
              | inl j ↦
                  elim (bind_err (literal (codes "text") s) (λ r. Ok (Text, r)) d j.1) [
                    | inl l ↦ context_word_cut c s Text d k h.0 l a
                    | inr l ↦ absurd (let y = l.2 in cc)
                  ]
              | inr j ↦
                  elim (bind_err (literal (codes "unsafe") s) (λ r. Ok (Unsafe, r)) d j.1) [
                    | inl l ↦ context_word_cut c s Unsafe d k h.0 l a
                    | inr l ↦ absurd (let y = l.2 in cc)
                  ]
            ]
        | inr x ↦
            elim (bind_err (expect c x.0.1) (λ r. Ok (x.0.0, r)) d x.2) [
              | inl close ↦ context_close_cut c s x.0 k h.0 (whole.context_word_parts s x.0 x.1) (expect_missing c x.0.1 d k close a)
              | inr close ↦ absurd (let y = close.2 in cc)
            ]
      ]
  | inr h ↦ context_string_missing (c ∷ s) k (at_length (length (c ∷ s)) d k h.1 a)
]

abbrev pub SomeContext : List ℕ → List ℕ → Type 0
SomeContext s r = (c : Context) × InContext s c r

context_made : (s r : List ℕ) → Then (Literal (codes "context")) (Then (Byte 61) SomeContextString) s r → SomeContext s r
context_made s r x = (x.2.2.0, in_context_of x.2.2.0 s r (x.0, x.1, (x.2.0, x.2.1, x.2.2.1)))

c_settled : (z : List ℕ) → Settled (codes "context" ++ z)
c_settled z = settled_at 99 (codes "ontext" ++ z) refl

pub context_missing : (s : List ℕ) (k : ℕ) → length s ≡ k → Cut SomeContext s k
context_missing s k e =
    cut_map (Then (Literal (codes "context")) (Then (Byte 61) SomeContextString)) SomeContext s k context_made
    (option_missing Context 99 (codes "ontext") context_more SomeContextString spec.context_string c_settled context_settled any_context context_string_cut s k e)

pub context_cut : (s : List ℕ) (d : ExprStop) (k : ℕ) → spec.context_option s ≡ Err d → At d k → Cut SomeContext s k
unfolding spec.context_option
context_cut s d k e a =
    cut_map (Then (Literal (codes "context")) (Then (Byte 61) SomeContextString)) SomeContext s k context_made
    (option_cut Context 99 (codes "ontext") context_more SomeContextString spec.context_string c_settled context_settled any_context context_string_cut s d k e a)
