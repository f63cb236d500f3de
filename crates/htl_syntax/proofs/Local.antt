-- What was read, or why nothing was, depends on no byte after the next one, but for a letter after a colon.
use Rattle.std.proofs.Common.{◌≡◌, ℕ, Bool, true, false, cond, ◌||◌, ◌&&◌, eqb, List, [], ◌∷◌, ◌++◌, drop, length, Result, Ok, Err, refl, ap, sym, subst, ◌∙◌, ◌⊎◌, inl, inr, append_assoc}
use Rattle.sp_base.specs.Outcomes.{◌>>=◌}
use Rattle.sp_base.specs.Bytes.{begins_with_byte}
use Rattle.sp_base.proofs.BoolLemmas.{cond_either}
use Rattle.htl_syntax.specs.declared.stop.ExprStop.{ExprStop}
use Rattle.htl_syntax.specs.declared.stop.ExprStop.TheVariants.{NoMemory, Unexpected, TooDeep}
use Rattle.htl_syntax.specs.declared.tokens.NameKind.TheVariants.{Field}
use Rattle.htl_syntax.specs.Tokens.{Outcome, begins, goes_on, is_letter, is_word_byte}
use Rattle.htl_syntax.specs.Fault.{SameHead, nests}
use Rattle.htl_syntax.proofs.Tools.{bind_ok, ok_is}

pub bind_err : {A B : Type 0} (r : Result A ExprStop) (f : A → Result B ExprStop) (d : ExprStop) → (r >>= f) ≡ Err d → (r ≡ Err d) ⊎ ((x : A) × (r ≡ Ok x) × (f x ≡ Err d))
bind_err (Ok x) f d e = inr (x, refl, e)
bind_err {B = B} (Err d') f d e = inl (let same : ◌≡◌ {A = Result B ExprStop} (Err d') (Err d) = e in cc)

-- ---- what may be looked at

-- the same first byte, and no letter after a colon that wasn't there
abbrev pub Same : List ℕ → List ℕ → Type 0
Same r z = SameHead r z × (goes_on Field z ≡ true → goes_on Field r ≡ true)

pub begins_same : (test : ℕ → Bool) (r z : List ℕ) → SameHead r z → begins test z ≡ begins test r
unfolding begins
begins_same test [] [] h = refl
begins_same test [] (d ∷ z) h = absurd h
begins_same test (d ∷ r) [] h = absurd h
begins_same test (d ∷ r) (b ∷ z) h = ap test (sym h)

pub prefix_same : (leading r z : List ℕ) → SameHead r z → SameHead (leading ++ r) (leading ++ z)
prefix_same [] r z h = h
prefix_same (c ∷ leading) r z h = refl

pub same_after : (c : ℕ) (r z : List ℕ) → SameHead r z → Same (c ∷ r) (c ∷ z)
unfolding goes_on
same_after c r z h = (refl, λ e. ap (λ (b : Bool). is_word_byte c || (eqb c 58 && b)) (sym (begins_same is_letter r z h)) ∙ e)

pub head_in : (leading r z : List ℕ) → Same r z → Same (leading ++ r) (leading ++ z)
head_in [] r z h = h
head_in (c ∷ leading) r z h = same_after c (leading ++ r) (leading ++ z) (prefix_same leading r z h.0)

pub at_same : (c : ℕ) (r z : List ℕ) → Same r z → begins_with_byte c z ≡ begins_with_byte c r
unfolding begins_with_byte
at_same c [] [] h = refl
at_same c [] (d ∷ z) h = absurd h.0
at_same c (d ∷ r) [] h = absurd h.0
at_same c (d ∷ r) (b ∷ z) h = ap (λ (x : ℕ). eqb x c) (sym h.0)

pub head_same : (test : ℕ → Bool) (r z : List ℕ) → Same r z → begins test z ≡ begins test r
head_same test r z h = begins_same test r z h.0

pub nil_same : (z : List ℕ) → Same [] z → z ≡ []
nil_same [] h = refl
nil_same (c ∷ z) h = absurd h.0

-- ---- what stays the same

-- the reason speaks of the text that is left
abbrev pub IsAt : ExprStop → List ℕ → Type 0
IsAt NoMemory rest = ⊥
IsAt (Unexpected left) rest = length rest ≡ left
IsAt (TooDeep left) rest = (length rest ≡ left) × (begins nests rest ≡ true)

-- the same reason where `left` bytes are left
abbrev pub moved : ExprStop → ℕ → ExprStop
moved NoMemory left = NoMemory
moved (Unexpected _) left = Unexpected left
moved (TooDeep _) left = TooDeep left

pub record Kept {A : Type 0} (f : List ℕ → Outcome A) (s : List ℕ) (x : A) (r : List ℕ) : Type 0 where
  pub leading : List ℕ
  pub parts : s ≡ leading ++ r
  pub same : (z : List ℕ) → Same r z → f (leading ++ z) ≡ Ok (x, z)

pub record Failed {A : Type 0} (f : List ℕ → Outcome A) (d : ExprStop) (s : List ℕ) : Type 0 where
  pub leading : List ℕ
  pub rest : List ℕ
  pub parts : s ≡ leading ++ rest
  pub left : IsAt d rest
  pub same : (z : List ℕ) → Same rest z → f (leading ++ z) ≡ Err (moved d (length z))

pub record Local {A : Type 0} (f : List ℕ → Outcome A) : Type 0 where
  pub ok : (s : List ℕ) (x : A) (r : List ℕ) → f s ≡ Ok (x, r) → Kept f s x r
  pub err : (d : ExprStop) (s : List ℕ) → f s ≡ Err d → Failed f d s

pub local_ext : {A : Type 0} (f h : List ℕ → Outcome A) → ((s : List ℕ) → f s ≡ h s) → Local f → Local h
local_ext f h eq l = record {
  ok = λ s x r e. (let k = l.ok s x r (eq s ∙ e) in record { leading = k.leading; parts = k.parts; same = λ z w. sym (eq (k.leading ++ z)) ∙ k.same z w });
  err = λ d s e. (let k = l.err d s (eq s ∙ e) in record { leading = k.leading; rest = k.rest; parts = k.parts; left = k.left; same = λ z w. sym (eq (k.leading ++ z)) ∙ k.same z w });
}

pub local_bind : {A B : Type 0} (f : List ℕ → Outcome A) (h : A → List ℕ → Outcome B) → Local f → ((x : A) → Local (h x)) → Local (λ s. f s >>= λ x. h x.0 x.1)
local_bind f h lf lh = record {
  ok = λ s y r e.
      (let b = bind_ok (f s) (λ x. h x.0 x.1) (y, r) e in
      let k = lf.ok s b.0.0 b.0.1 b.1 in
      let l = (lh b.0.0).ok b.0.1 y r b.2 in
      record {
        leading = k.leading ++ l.leading;
        parts = k.parts ∙ ap (λ (t : List ℕ). k.leading ++ t) l.parts ∙ sym (append_assoc k.leading l.leading r);
        same = λ z w. rw (append_assoc k.leading l.leading z, k.same (l.leading ++ z) (subst (λ (t : List ℕ). Same t (l.leading ++ z)) (sym l.parts) (head_in l.leading r z w))) (l.same z w);
      });
  err = λ d s e. elim (bind_err (f s) (λ x. h x.0 x.1) d e) [
    | inl at ↦ (let k = lf.err d s at in
        record { leading = k.leading; rest = k.rest; parts = k.parts; left = k.left; same = λ z w. rw (k.same z w) refl })
    | inr at ↦ (let q = lf.ok s at.0.0 at.0.1 at.1 in
        let k = (lh at.0.0).err d at.0.1 at.2 in
        record {
          leading = q.leading ++ k.leading;
          rest = k.rest;
          parts = q.parts ∙ ap (λ (t : List ℕ). q.leading ++ t) k.parts ∙ sym (append_assoc q.leading k.leading k.rest);
          left = k.left;
          same = λ z w. rw (append_assoc q.leading k.leading z, q.same (k.leading ++ z) (subst (λ (t : List ℕ). Same t (k.leading ++ z)) (sym k.parts) (head_in k.leading k.rest z w))) (k.same z w);
        })
  ];
}

abbrev pub got : {A : Type 0} → A → List ℕ → Outcome A
got x r = Ok (x, r)

pub local_pure : {A : Type 0} (y : A) → Local (got y)
local_pure y = record {
  ok = λ s x r e. (let p = ok_is (y, s) (x, r) e in
      record { leading = []; parts = ap (λ q. q.1) p; same = λ z w. ap (λ q. got q.0 z) p });
  err = λ d s e. absurd cc;
}

abbrev pub refuse : {A : Type 0} → List ℕ → Outcome A
refuse s = Err (Unexpected (length s))

pub err_is : {A : Type 0} (d e : ExprStop) → ◌≡◌ {A = Outcome A} (Err d) (Err e) → d ≡ e
err_is d e h = cc

pub local_refuse : {A : Type 0} → Local (refuse {A = A})
local_refuse {A = A} = record {
  ok = λ s x r e. absurd cc;
  err = λ d s e. subst (λ (b : ExprStop). Failed (refuse {A = A}) b s) (err_is {A = A} (Unexpected (length s)) d e)
      (record { leading = []; rest = s; parts = refl; left = refl; same = λ z w. refl });
}

-- a choice by a test of the next byte
pub local_if : {A : Type 0} (test : List ℕ → Bool) (f h : List ℕ → Outcome A) → ((r z : List ℕ) → Same r z → test z ≡ test r) → Local f → Local h → Local (λ s. cond (test s) (f s) (h s))
local_if {A = A} test f h sees lf lh = record { ok = ok; err = err }
  where
    seen : (b : Bool) (s leading r z : List ℕ) → s ≡ leading ++ r → test s ≡ b → Same r z → test (leading ++ z) ≡ b
    seen b s leading r z parts e w = sees (leading ++ r) (leading ++ z) (head_in leading r z w) ∙ ap test (sym parts) ∙ e

    ok : (s : List ℕ) (x : A) (r : List ℕ) → cond (test s) (f s) (h s) ≡ Ok (x, r) → Kept (λ t. cond (test t) (f t) (h t)) s x r
    ok s x r e = elim (cond_either (test s) _ _ _ e) [
      | inl w ↦ (let k = lf.ok s x r w.1 in
          record { leading = k.leading; parts = k.parts; same = λ z q. (let t : test (k.leading ++ z) ≡ true = seen true s k.leading r z k.parts w.0 q in rw t (k.same z q)) })
      | inr w ↦ (let k = lh.ok s x r w.1 in
          record { leading = k.leading; parts = k.parts; same = λ z q. (let t : test (k.leading ++ z) ≡ false = seen false s k.leading r z k.parts w.0 q in rw t (k.same z q)) })
    ]

    err : (d : ExprStop) (s : List ℕ) → cond (test s) (f s) (h s) ≡ Err d → Failed (λ t. cond (test t) (f t) (h t)) d s
    err d s e = elim (cond_either (test s) _ _ _ e) [
      | inl w ↦ (let k = lf.err d s w.1 in
          record { leading = k.leading; rest = k.rest; parts = k.parts; left = k.left; same = λ z q. (let t : test (k.leading ++ z) ≡ true = seen true s k.leading k.rest z k.parts w.0 q in rw t (k.same z q)) })
      | inr w ↦ (let k = lh.err d s w.1 in
          record { leading = k.leading; rest = k.rest; parts = k.parts; left = k.left; same = λ z q. (let t : test (k.leading ++ z) ≡ false = seen false s k.leading k.rest z k.parts w.0 q in rw t (k.same z q)) })
    ]

pub local_fixed : {A : Type 0} (b : Bool) (f h : List ℕ → Outcome A) → Local f → Local h → Local (λ t. cond b (f t) (h t))
local_fixed true f h lf lh = lf
local_fixed false f h lf lh = lh

-- ---- after a byte

pub local_drop : {A : Type 0} (f : List ℕ → Outcome A) → Local f → Local (λ s. f (drop 1 s))
local_drop {A = A} f l = record { ok = ok; err = err }
  where
    ok : (s : List ℕ) (x : A) (r : List ℕ) → f (drop 1 s) ≡ Ok (x, r) → Kept (λ t. f (drop 1 t)) s x r
    ok [] x r e = (let k = l.ok [] x r e in nil x r k.leading k.parts k.same)
      where
        nil : (x' : A) (r' leading : List ℕ) → [] ≡ leading ++ r' → ((z : List ℕ) → Same r' z → f (leading ++ z) ≡ Ok (x', z)) → Kept (λ t. f (drop 1 t)) [] x' r'
        nil x' [] [] p same = record { leading = []; parts = refl; same = λ z w. (let e : z ≡ [] = nil_same z w in rw e (same [] (tt, λ h. h))) }
        nil x' (c ∷ r') [] p same = absurd cc
        nil x' r' (c ∷ leading) p same = absurd cc
    ok (c ∷ s) x r e = (let k = l.ok s x r e in record { leading = c ∷ k.leading; parts = ap (λ (t : List ℕ). c ∷ t) k.parts; same = k.same })

    err : (d : ExprStop) (s : List ℕ) → f (drop 1 s) ≡ Err d → Failed (λ t. f (drop 1 t)) d s
    err d [] e = (let k = l.err d [] e in nil k.leading k.rest k.parts k.left k.same)
      where
        nil : (leading rest : List ℕ) → [] ≡ leading ++ rest → IsAt d rest → ((z : List ℕ) → Same rest z → f (leading ++ z) ≡ Err (moved d (length z))) → Failed (λ t. f (drop 1 t)) d []
        nil [] [] p left same = record { leading = []; rest = []; parts = refl; left = left; same = λ z w. (let e : z ≡ [] = nil_same z w in rw e (same [] (tt, λ h. h))) }
        nil [] (c ∷ rest) p left same = absurd cc
        nil (c ∷ leading) rest p left same = absurd cc
    err d (c ∷ s) e = (let k = l.err d s e in record { leading = c ∷ k.leading; rest = k.rest; parts = ap (λ (t : List ℕ). c ∷ t) k.parts; left = k.left; same = k.same })
