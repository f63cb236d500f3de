-- The same of each token.
use Rattle.std.proofs.Common.{◌≡◌, ℕ, ◌+◌, ◌*◌, ◌-◌, Bool, true, false, cond, ◌||◌, ◌&&◌, eqb, nat_le, List, [], ◌∷◌, ◌++◌, take, drop, length, Result, Ok, Err, refl, ap, sym, subst, ◌∙◌, inl, inr, append_assoc}
use Rattle.std.proofs.lemmas.Bool.{eqb-true}
use Rattle.std.proofs.lemmas.List.{take-append-drop, take_at, drop_at}
use Rattle.sp_base.specs.Outcomes.{◌>>=◌}
use Rattle.sp_base.specs.Bytes.{begins_with_byte, is_digit}
use Rattle.sp_base.proofs.BoolLemmas.{cond_either}
use Rattle.htl_syntax.specs.declared.stop.ExprStop.{ExprStop}
use Rattle.htl_syntax.specs.declared.stop.ExprStop.TheVariants.{Unexpected, TooDeep}
use Rattle.htl_syntax.specs.declared.tokens.NameKind.{NameKind}
use Rattle.htl_syntax.specs.declared.tokens.NameKind.TheVariants.{Name, Field}
use Rattle.htl_syntax.specs.declared.node.Comparison.{Comparison}
use Rattle.htl_syntax.specs.declared.node.Comparison.TheVariants.{Equal, NotEqual, Below, Above, AtMost, AtLeast}
use Rattle.htl_syntax.specs.Tokens.{Outcome, blanks_skipped, is_blank, begins, expect, second, literal, goes_on, run, name_len, read_name, is_letter, is_word_byte, is_first, digits, expression_digits_from, expression_digit_fits, limit, signed_value, signed_number}
use Rattle.htl_syntax.specs.Read.{comparison, or_equal, between}
use Rattle.htl_syntax.specs.Grammar.{Passes}
use Rattle.htl_syntax.specs.Fault.{nests, SameHead}
use Rattle.htl_syntax.proofs.Tools.{ok_is}
use Rattle.htl_syntax.proofs.TokensRead.{passes_run, ends_run}
use Rattle.htl_syntax.proofs.TokensAgain.{name_len-is}
use Rattle.htl_syntax.proofs.Local.{Same, begins_same, prefix_same, head_in, head_same, at_same, nil_same, Kept, Failed, Local, local_ext, local_bind, local_pure, local_refuse, local_if, local_fixed, local_drop, got, refuse, err_is}

-- ---- blanks

pub record Blanks (u : List ℕ) : Type 0 where
  pub leading : List ℕ
  pub parts : u ≡ leading ++ blanks_skipped u
  pub same : (z : List ℕ) → Same (blanks_skipped u) z → blanks_skipped (leading ++ z) ≡ z

pub blanks : (u : List ℕ) → Blanks u
unfolding blanks_skipped
blanks [] = record { leading = []; parts = refl; same = λ z h. (let e : z ≡ [] = nil_same z h in rw e refl) }
blanks (c ∷ u) = go (is_blank c) refl (blanks u)
  where
    here : (z : List ℕ) → is_blank c ≡ false → Same (c ∷ u) z → blanks_skipped z ≡ z
    here [] e h = absurd h.0
    here (d ∷ z) e h = (let f : is_blank d ≡ false = ap is_blank (sym h.0) ∙ e in rw f refl)

    go : (b : Bool) → is_blank c ≡ b → Blanks u → Blanks (c ∷ u)
    go true e ih = (let k : blanks_skipped (c ∷ u) ≡ blanks_skipped u = rw e refl in
        record { leading = c ∷ ih.leading; parts = rw k (ap (λ (t : List ℕ). c ∷ t) ih.parts); same = λ z h. (let h' : Same (blanks_skipped u) z = rw k at h in rw e (ih.same z h')) })
    go false e ih = (let k : blanks_skipped (c ∷ u) ≡ c ∷ u = rw e refl in
        record { leading = []; parts = rw k refl; same = λ z h. (let h' : Same (c ∷ u) z = rw k at h in here z e h') })

pub local_skip : {A : Type 0} (f : List ℕ → Outcome A) → Local f → Local (λ s. f (blanks_skipped s))
local_skip f l = record {
  ok = λ s x r e.
      (let k = l.ok (blanks_skipped s) x r e in
      let bl = blanks s in
      record {
        leading = bl.leading ++ k.leading;
        parts = bl.parts ∙ ap (λ (t : List ℕ). bl.leading ++ t) k.parts ∙ sym (append_assoc bl.leading k.leading r);
        same = λ z w. rw (append_assoc bl.leading k.leading z, bl.same (k.leading ++ z) (subst (λ (t : List ℕ). Same t (k.leading ++ z)) (sym k.parts) (head_in k.leading r z w))) (k.same z w);
      });
  err = λ d s e.
      (let k = l.err d (blanks_skipped s) e in
      let bl = blanks s in
      record {
        leading = bl.leading ++ k.leading;
        rest = k.rest;
        parts = bl.parts ∙ ap (λ (t : List ℕ). bl.leading ++ t) k.parts ∙ sym (append_assoc bl.leading k.leading k.rest);
        left = k.left;
        same = λ z w. rw (append_assoc bl.leading k.leading z, bl.same (k.leading ++ z) (subst (λ (t : List ℕ). Same t (k.leading ++ z)) (sym k.parts) (head_in k.leading k.rest z w))) (k.same z w);
      });
}

-- ---- after a byte that is there

abbrev pub too_deep : {A : Type 0} → List ℕ → Outcome A
too_deep s = Err (TooDeep (length s))

abbrev pub guarded : {A : Type 0} → ℕ → (List ℕ → Outcome A) → List ℕ → Outcome A
guarded c f s = cond (begins_with_byte c s) (f s) (refuse s)

at_begins : (test : ℕ → Bool) (c : ℕ) (s : List ℕ) → test c ≡ true → begins_with_byte c s ≡ true → begins test s ≡ true
unfolding begins begins_with_byte
at_begins test c [] t e = absurd cc
at_begins test c (d ∷ s) t e = ap test (eqb-true d c e) ∙ t

pub local_deep : {A : Type 0} (c : ℕ) → nests c ≡ true → Local (guarded {A = A} c too_deep)
local_deep {A = A} c n = record { ok = ok; err = err }
  where
    ok : (s : List ℕ) (x : A) (r : List ℕ) → guarded {A = A} c too_deep s ≡ Ok (x, r) → Kept (guarded {A = A} c too_deep) s x r
    ok s x r e = elim (cond_either (begins_with_byte c s) _ _ _ e) [
      | inl h ↦ absurd (let w = h.1 in cc)
      | inr h ↦ absurd (let w = h.1 in cc)
    ]

    err : (d : ExprStop) (s : List ℕ) → guarded {A = A} c too_deep s ≡ Err d → Failed (guarded {A = A} c too_deep) d s
    err d s e = elim (cond_either (begins_with_byte c s) _ _ _ e) [
      | inl h ↦
          subst (λ (b : ExprStop). Failed (guarded {A = A} c too_deep) b s) (err_is {A = A} (TooDeep (length s)) d h.1)
          (record { leading = []; rest = s; parts = refl; left = (refl, at_begins nests c s n h.0); same = λ z w. (let t : begins_with_byte c z ≡ true = at_same c s z w ∙ h.0 in rw t refl) })
      | inr h ↦
          subst (λ (b : ExprStop). Failed (guarded {A = A} c too_deep) b s) (err_is {A = A} (Unexpected (length s)) d h.1)
          (record { leading = []; rest = s; parts = refl; left = refl; same = λ z w. (let t : begins_with_byte c z ≡ false = at_same c s z w ∙ h.0 in rw t refl) })
    ]

guarded_is : {A B : Type 0} (b : Bool) (o : Outcome A) (s : List ℕ) (h : A × List ℕ → Outcome B) (other : Outcome B) → cond b (cond b o (refuse s) >>= h) other ≡ cond b (o >>= h) other
guarded_is true o s h other = refl
guarded_is false o s h other = refl

-- what is looked for only where the byte stands
pub local_guarded : {A B : Type 0} (c : ℕ) (f : List ℕ → Outcome A) (g : A → List ℕ → Outcome B) (h : List ℕ → Outcome B) → Local (guarded c f) → ((x : A) → Local (g x)) → Local h
    → Local (λ s. cond (begins_with_byte c s) (f s >>= λ x. g x.0 x.1) (h s))
local_guarded c f g h lf lg lh =
    local_ext (λ s. cond (begins_with_byte c s) (guarded c f s >>= λ x. g x.0 x.1) (h s)) (λ s. cond (begins_with_byte c s) (f s >>= λ x. g x.0 x.1) (h s)) (λ s. guarded_is (begins_with_byte c s) (f s) s (λ x. g x.0 x.1) (h s))
    (local_if (begins_with_byte c) (λ s. guarded c f s >>= λ x. g x.0 x.1) h (at_same c) (local_bind (guarded c f) g lf lg) lh)

-- ---- bytes, operators and words

abbrev pub tagged : Result (List ℕ) ExprStop → Outcome (Unit {0})
tagged (Ok r) = Ok (tt, r)
tagged (Err e) = Err e

untagged : {B : Type 0} (o : Result (List ℕ) ExprStop) (h : List ℕ → Outcome B) → (tagged o >>= λ x. h x.1) ≡ (o >>= λ r. h r)
untagged (Ok r) h = refl
untagged (Err e) h = refl

pub local_step : {B : Type 0} (f : List ℕ → Result (List ℕ) ExprStop) (h : List ℕ → Outcome B) → Local (λ s. tagged (f s)) → Local h → Local (λ s. f s >>= λ r. h r)
local_step {B = B} f h lf lh = local_ext (λ s. tagged (f s) >>= λ x. h x.1) (λ s. f s >>= λ r. h r) (λ s. untagged (f s) h) (local_bind (λ s. tagged (f s)) (λ _. h) lf (λ _. lh))

abbrev one : List ℕ → Outcome (Unit {0})
one s = Ok (tt, s)

tagged_if : (b : Bool) (o p : Result (List ℕ) ExprStop) → cond b (tagged o) (tagged p) ≡ tagged (cond b o p)
tagged_if true o p = refl
tagged_if false o p = refl

pub local_expect : (c : ℕ) → Local (λ s. tagged (expect c s))
unfolding expect
local_expect c = local_ext (λ s. cond (begins_with_byte c s) (one (blanks_skipped (drop 1 s))) (refuse s)) (λ s. tagged (cond (begins_with_byte c s) (Ok (blanks_skipped (drop 1 s))) (Err (Unexpected (length s))))) (λ s. tagged_if (begins_with_byte c s) (Ok (blanks_skipped (drop 1 s))) (Err (Unexpected (length s))))
    (local_if (begins_with_byte c) (λ s. one (blanks_skipped (drop 1 s))) refuse (at_same c) (local_drop (λ s. one (blanks_skipped s)) (local_skip one (local_pure tt))) local_refuse)

pub local_second : (c : ℕ) → Local (λ s. tagged (second c s))
unfolding second
local_second c = local_drop (λ s. tagged (expect c s)) (local_expect c)

pub local_between : (c : ℕ) → Local (λ s. tagged (between c s))
local_between c = local_ext (λ s. cond (eqb c 44) (tagged (expect c s)) (tagged (second c s))) (λ s. tagged (between c s)) (λ s. tagged_if (eqb c 44) (expect c s) (second c s))
    (local_fixed (eqb c 44) (λ s. tagged (expect c s)) (λ s. tagged (second c s)) (local_expect c) (local_second c))

pub local_literal : (w : List ℕ) → Local (λ s. tagged (literal w s))
unfolding literal
local_literal [] = local_pure tt
local_literal (c ∷ w) = local_ext (λ s. cond (begins_with_byte c s) (tagged (literal w (drop 1 s))) (refuse s)) (λ s. tagged (cond (begins_with_byte c s) (literal w (drop 1 s)) (Err (Unexpected (length s))))) (λ s. tagged_if (begins_with_byte c s) (literal w (drop 1 s)) (Err (Unexpected (length s))))
    (local_if (begins_with_byte c) (λ s. tagged (literal w (drop 1 s))) refuse (at_same c) (local_drop (λ s. tagged (literal w s)) (local_literal w)) local_refuse)

-- ---- names

goes_same : (kind : NameKind) (r z : List ℕ) → Same r z → goes_on kind r ≡ false → goes_on kind z ≡ false
unfolding goes_on
goes_same Name r z h e = head_same is_word_byte r z h ∙ e
goes_same Field r z h e = no (goes_on Field z) refl
  where
    no : (b : Bool) → goes_on Field z ≡ b → b ≡ false
    no true k = absurd (let w : goes_on Field r ≡ true = h.1 k in cc)
    no false k = refl

step_same : (kind : NameKind) (c : ℕ) (r z : List ℕ) → SameHead r z → goes_on kind (c ∷ z) ≡ goes_on kind (c ∷ r)
unfolding goes_on begins
step_same Name c r z h = refl
step_same Field c r z h = ap (λ (b : Bool). is_word_byte c || (eqb c 58 && b)) (begins_same is_letter r z h)

passes_same : (kind : NameKind) (w r z : List ℕ) → SameHead r z → Passes kind w r → Passes kind w z
passes_same kind [] r z h p = tt
passes_same kind (c ∷ w) r z h p = (step_same kind c (w ++ r) (w ++ z) (prefix_same w r z h) ∙ p.0, passes_same kind w r z h p.1)

abbrev run_of : NameKind → List ℕ → Outcome (List ℕ)
run_of kind s = Ok (run kind s)

local_run : (kind : NameKind) → Local (run_of kind)
local_run kind = record { ok = ok; err = λ d s e. absurd cc }
  where
    kept : (s : List ℕ) → Kept (run_of kind) s (run kind s).0 (run kind s).1
    kept s =
        let w = take (name_len kind s) s in
        let u = drop (name_len kind s) s in
        let bl = blanks u in
        record {
          leading = w ++ bl.leading;
          parts = sym (take-append-drop (name_len kind s) s) ∙ ap (λ (t : List ℕ). w ++ t) bl.parts ∙ sym (append_assoc w bl.leading (blanks_skipped u));
          same = λ z h.
              (let near : Same u (bl.leading ++ z) = subst (λ (t : List ℕ). Same t (bl.leading ++ z)) (sym bl.parts) (head_in bl.leading (blanks_skipped u) z h) in
              let stops : goes_on kind (bl.leading ++ z) ≡ false = goes_same kind u (bl.leading ++ z) near (ends_run kind s) in
              let passes : Passes kind w (bl.leading ++ z) = passes_same kind w u (bl.leading ++ z) near.0 (passes_run kind s) in
              rw (append_assoc w bl.leading z, name_len-is kind w (bl.leading ++ z) passes stops, take_at w (bl.leading ++ z) (length w) refl, drop_at w (bl.leading ++ z) (length w) refl, bl.same z h) refl);
        }

    ok : (s : List ℕ) (x : List ℕ) (r : List ℕ) → run_of kind s ≡ Ok (x, r) → Kept (run_of kind) s x r
    ok s x r e = subst (λ (q : List ℕ × List ℕ). Kept (run_of kind) s q.0 q.1) (ok_is _ _ e) (kept s)

pub local_name : (kind : NameKind) → Local (read_name kind)
unfolding read_name
local_name kind = local_if (begins is_first) (run_of kind) refuse (head_same is_first) (local_run kind) local_refuse

-- ---- numbers

abbrev digits_at : ℕ → ℕ → List ℕ → Outcome ℕ
digits_at most m s = Ok (expression_digits_from most m s)

digits_kept : (most m : ℕ) (s : List ℕ) → Kept (digits_at most m) s (expression_digits_from most m s).0 (expression_digits_from most m s).1
unfolding expression_digits_from expression_digit_fits
digits_kept most m [] = record { leading = []; parts = refl; same = λ z h. (let e : z ≡ [] = nil_same z h in rw e refl) }
digits_kept most m (c ∷ s) = go (expression_digit_fits most m (c ∷ s)) refl (digits_kept most (m * 10 + (c - 48)) s)
  where
    here : (z : List ℕ) → expression_digit_fits most m (c ∷ s) ≡ false → Same (c ∷ s) z → digits_at most m z ≡ Ok (m, z)
    here [] e h = absurd h.0
    here (d ∷ z) e h = (let k : expression_digit_fits most m (d ∷ z) ≡ false = ap (λ (x : ℕ). is_digit x && nat_le (m * 10 + (x - 48)) most) (sym h.0) ∙ e in rw k refl)

    go : (b : Bool) → expression_digit_fits most m (c ∷ s) ≡ b → Kept (digits_at most (m * 10 + (c - 48))) s (expression_digits_from most (m * 10 + (c - 48)) s).0 (expression_digits_from most (m * 10 + (c - 48)) s).1
        → Kept (digits_at most m) (c ∷ s) (cond b (expression_digits_from most (m * 10 + (c - 48)) s) (m, c ∷ s)).0 (cond b (expression_digits_from most (m * 10 + (c - 48)) s) (m, c ∷ s)).1
    go true e k = record { leading = c ∷ k.leading; parts = ap (λ (t : List ℕ). c ∷ t) k.parts; same = λ z h. rw e (k.same z h) }
    go false e k = record { leading = []; parts = refl; same = λ z h. here z e h }

local_digits_at : (most m : ℕ) → Local (digits_at most m)
local_digits_at most m = record { ok = ok; err = λ d s e. absurd cc }
  where
    ok : (s : List ℕ) (x : ℕ) (r : List ℕ) → digits_at most m s ≡ Ok (x, r) → Kept (digits_at most m) s x r
    ok s x r e = subst (λ (q : ℕ × List ℕ). Kept (digits_at most m) s q.0 q.1) (ok_is _ _ e) (digits_kept most m s)

local_digits : (negative : Bool) → Local (digits negative)
unfolding digits
local_digits negative =
    local_if (begins is_digit) (λ s. digits_at (limit negative) 0 s >>= λ x. Ok (signed_value negative x.0, blanks_skipped x.1)) refuse (head_same is_digit)
    (local_bind (digits_at (limit negative) 0) (λ k t. Ok (signed_value negative k, blanks_skipped t)) (local_digits_at (limit negative) 0) (λ k. local_skip (got (signed_value negative k)) (local_pure (signed_value negative k)))) local_refuse

pub local_number : Local signed_number
unfolding signed_number
local_number = local_if (begins_with_byte 45) (λ s. digits true (drop 1 s)) (digits false) (at_same 45) (local_drop (digits true) (local_digits true)) (local_digits false)

-- ---- comparisons

local_or_equal : (bare equal : Comparison) → Local (λ s. Ok (or_equal bare equal s))
unfolding or_equal
local_or_equal bare equal =
    local_ext (λ s. cond (begins_with_byte 61 (drop 1 s)) (got equal (blanks_skipped (drop 1 (drop 1 s)))) (got bare (blanks_skipped (drop 1 s)))) (λ s. Ok (cond (begins_with_byte 61 (drop 1 s)) (equal, blanks_skipped (drop 1 (drop 1 s))) (bare, blanks_skipped (drop 1 s)))) (λ s. go (begins_with_byte 61 (drop 1 s)) _ _)
    (local_drop (λ s. cond (begins_with_byte 61 s) (got equal (blanks_skipped (drop 1 s))) (got bare (blanks_skipped s)))
    (local_if (begins_with_byte 61) (λ s. got equal (blanks_skipped (drop 1 s))) (λ s. got bare (blanks_skipped s)) (at_same 61) (local_drop (λ s. got equal (blanks_skipped s)) (local_skip (got equal) (local_pure equal))) (local_skip (got bare) (local_pure bare))))
  where
    go : (b : Bool) (p q : Comparison × List ℕ) → ◌≡◌ {A = Outcome Comparison} (cond b (Ok p) (Ok q)) (Ok (cond b p q))
    go true p q = refl
    go false p q = refl

pub local_comparison : Local comparison
unfolding comparison
local_comparison =
    local_if (begins_with_byte 61) (λ s. second 61 s >>= λ r. Ok (Equal, r)) _ (at_same 61) (local_step (second 61) (got Equal) (local_second 61) (local_pure Equal))
    (local_if (begins_with_byte 33) (λ s. second 61 s >>= λ r. Ok (NotEqual, r)) _ (at_same 33) (local_step (second 61) (got NotEqual) (local_second 61) (local_pure NotEqual))
    (local_if (begins_with_byte 60) (λ s. Ok (or_equal Below AtMost s)) (λ s. Ok (or_equal Above AtLeast s)) (at_same 60) (local_or_equal Below AtMost) (local_or_equal Above AtLeast)))
