-- Where reading stops, the text before can be made a text of the grammar: how what was read and what is missing are put together.
use Rattle.std.proofs.Common.{◌≡◌, ℕ, ◌<◌, false, List, [], ◌∷◌, ◌++◌, drop, length, Result, Err, refl, ap, sym, subst, ◌∙◌, inl, inr, append_assoc}
use Rattle.htl_syntax.specs.declared.stop.ExprStop.{ExprStop}
use Rattle.htl_syntax.specs.declared.stop.ExprStop.TheVariants.{NoMemory, Unexpected, TooDeep}
use Rattle.htl_syntax.specs.declared.tokens.NameKind.TheVariants.{Field}
use Rattle.htl_syntax.specs.Tokens.{goes_on}
use Rattle.htl_syntax.proofs.Moves.{Plain, plain_fresh, Clear, Near, Fits, near_clear, fits_near, near_in, fits_in, fits_after, clear_in, Moves, Steps, Jumps, Then}

-- reading stopped where k bytes were left
abbrev pub At : ExprStop → ℕ → Type 0
At NoMemory k = ⊥
At (Unexpected n) k = n ≡ k
At (TooDeep n) k = n ≡ k

pub at_length : {A : Type 0} (m : ℕ) (d : ExprStop) (k : ℕ) → ◌≡◌ {A = Result A ExprStop} (Err (Unexpected m)) (Err d) → At d k → m ≡ k
at_length m NoMemory k e a = absurd a
at_length m (Unexpected n) k e a = (let same : m ≡ n = cc in same ∙ a)
at_length m (TooDeep n) k e a = absurd cc

pub at_depth : {A : Type 0} (m : ℕ) (d : ExprStop) (k : ℕ) → ◌≡◌ {A = Result A ExprStop} (Err (TooDeep m)) (Err d) → At d k → m ≡ k
at_depth m NoMemory k e a = absurd a
at_depth m (Unexpected n) k e a = absurd cc
at_depth m (TooDeep n) k e a = (let same : m ≡ n = cc in same ∙ a)

-- The text is a prefix and what is left; the prefix with more after it is complete.
pub record Stuck (R : List ℕ → List ℕ → Type 0) (s : List ℕ) (k : ℕ) : Type 0 where
  pub leading : List ℕ
  pub rest : List ℕ
  pub more : List ℕ
  pub parts : s ≡ leading ++ rest
  pub left : length rest ≡ k
  pub near : (z : List ℕ) → Plain z → Near s (leading ++ (more ++ z))
  pub ends : (z : List ℕ) → Plain z → R (leading ++ (more ++ z)) z

-- and what is made of the text may stand after a name
pub record Late (R : List ℕ → List ℕ → Type 0) (s : List ℕ) (k : ℕ) : Type 0 where
  pub stuck : Stuck R s k
  pub later : (z : List ℕ) → Plain z → Fits s (stuck.leading ++ (stuck.more ++ z))

-- and what is made of the text may stand after blanks, as a word may
pub record Cut (R : List ℕ → List ℕ → Type 0) (s : List ℕ) (k : ℕ) : Type 0 where
  pub leading : List ℕ
  pub rest : List ℕ
  pub more : List ℕ
  pub parts : s ≡ leading ++ rest
  pub left : length rest ≡ k
  pub clear : (z : List ℕ) → Plain z → Clear s (leading ++ (more ++ z))
  pub ends : (z : List ℕ) → Plain z → R (leading ++ (more ++ z)) z

pub stuck_map : (R T : List ℕ → List ℕ → Type 0) (s : List ℕ) (k : ℕ) → ((s' r' : List ℕ) → R s' r' → T s' r') → Stuck R s k → Stuck T s k
stuck_map R T s k make q = record { leading = q.leading; rest = q.rest; more = q.more; parts = q.parts; left = q.left; near = q.near; ends = λ z p. make (q.leading ++ (q.more ++ z)) z (q.ends z p) }

pub late_map : (R T : List ℕ → List ℕ → Type 0) (s : List ℕ) (k : ℕ) → ((s' r' : List ℕ) → R s' r' → T s' r') → Late R s k → Late T s k
unfolding stuck_map
late_map R T s k make q = record { stuck = stuck_map R T s k make q.stuck; later = q.later }

pub cut_map : (R T : List ℕ → List ℕ → Type 0) (s : List ℕ) (k : ℕ) → ((s' r' : List ℕ) → R s' r' → T s' r') → Cut R s k → Cut T s k
cut_map R T s k make q = record { leading = q.leading; rest = q.rest; more = q.more; parts = q.parts; left = q.left; clear = q.clear; ends = λ z p. make (q.leading ++ (q.more ++ z)) z (q.ends z p) }

pub cut_of : (R : List ℕ → List ℕ → Type 0) (s : List ℕ) (k : ℕ) → Stuck R s k → Cut R s k
cut_of R s k q = record { leading = q.leading; rest = q.rest; more = q.more; parts = q.parts; left = q.left; clear = λ z p. near_clear s (q.leading ++ (q.more ++ z)) (q.near z p); ends = q.ends }

-- ---- what was read, and then a part at which reading stopped

module _ (R Q : List ℕ → List ℕ → Type 0) (s m : List ℕ) (k : ℕ) where
  -- the text with both prefixes
  remainder : (P : List ℕ → Type 0) (leading inner more z : List ℕ) → P (leading ++ (inner ++ (more ++ z))) → P ((leading ++ inner) ++ (more ++ z))
  remainder P leading inner more z x = subst P (sym (append_assoc leading inner (more ++ z))) x

  parts_of : (leading inner rest : List ℕ) → s ≡ leading ++ m → m ≡ inner ++ rest → s ≡ (leading ++ inner) ++ rest
  parts_of leading inner rest e f = e ∙ ap (λ (t : List ℕ). leading ++ t) f ∙ sym (append_assoc leading inner rest)

  pub moves_stuck : Moves R s m → Late Q m k → Stuck (Then R Q) s k
  moves_stuck a late =
      let q = late.stuck in
      let t : List ℕ → List ℕ = λ z. q.leading ++ (q.more ++ z) in
      record {
        leading = a.leading ++ q.leading;
        rest = q.rest;
        more = q.more;
        parts = parts_of a.leading q.leading q.rest a.parts q.parts;
        left = q.left;
        near = λ z p. remainder (Near s) a.leading q.leading q.more z (near_in s a.leading m (t z) a.parts (fits_near m (t z) (late.later z p)));
        ends = λ z p. remainder (λ (w : List ℕ). Then R Q w z) a.leading q.leading q.more z (t z, a.same (t z) (late.later z p), q.ends z p);
      }

  pub moves_late : Moves R s m → Late Q m k → Late (Then R Q) s k
  unfolding moves_stuck
  moves_late a late =
      let q = late.stuck in
      record {
        stuck = moves_stuck a late;
        later = λ z p. remainder (Fits s) a.leading q.leading q.more z (fits_in s a.leading m (q.leading ++ (q.more ++ z)) a.parts (late.later z p));
      }

  pub steps_stuck : Steps R s m → Stuck Q m k → Stuck (Then R Q) s k
  steps_stuck a q =
      let t : List ℕ → List ℕ = λ z. q.leading ++ (q.more ++ z) in
      record {
        leading = a.leading ++ q.leading;
        rest = q.rest;
        more = q.more;
        parts = parts_of a.leading q.leading q.rest a.parts q.parts;
        left = q.left;
        near = λ z p. remainder (Near s) a.leading q.leading q.more z (near_in s a.leading m (t z) a.parts (q.near z p));
        ends = λ z p. remainder (λ (w : List ℕ). Then R Q w z) a.leading q.leading q.more z (t z, a.same (t z) (q.near z p), q.ends z p);
      }

  -- where what was read has a byte
  pub steps_late : Steps R s m → length m < length s → Stuck Q m k → Late (Then R Q) s k
  unfolding steps_stuck
  steps_late a lt q = record {
    stuck = steps_stuck a q;
    later = λ z p. remainder (Fits s) a.leading q.leading q.more z (fits_after s a.leading m (q.leading ++ (q.more ++ z)) a.parts lt (q.near z p));
  }

  pub jumps_cut : Jumps R s m → Cut Q m k → Cut (Then R Q) s k
  jumps_cut a q =
      let t : List ℕ → List ℕ = λ z. q.leading ++ (q.more ++ z) in
      record {
        leading = a.leading ++ q.leading;
        rest = q.rest;
        more = q.more;
        parts = parts_of a.leading q.leading q.rest a.parts q.parts;
        left = q.left;
        clear = λ z p. remainder (Clear s) a.leading q.leading q.more z (clear_in s a.leading m (t z) a.parts (q.clear z p));
        ends = λ z p. remainder (λ (w : List ℕ). Then R Q w z) a.leading q.leading q.more z (t z, a.same (t z) (q.clear z p), q.ends z p);
      }

-- ---- a part at which reading stopped, and then one that a text spells

pub stuck_then : (R Q : List ℕ → List ℕ → Type 0) (s : List ℕ) (k : ℕ) (tail : List ℕ) → Stuck R s k → ((z : List ℕ) → Plain z → Plain (tail ++ z)) → ((z : List ℕ) → Plain z → Q (tail ++ z) z) → Stuck (Then R Q) s k
stuck_then R Q s k tail q plain make = record {
  leading = q.leading;
  rest = q.rest;
  more = q.more ++ tail;
  parts = q.parts;
  left = q.left;
  near = λ z p. subst (λ (w : List ℕ). Near s (q.leading ++ w)) (sym (append_assoc q.more tail z)) (q.near (tail ++ z) (plain z p));
  ends = λ z p. (tail ++ z, subst (λ (w : List ℕ). R (q.leading ++ w) (tail ++ z)) (sym (append_assoc q.more tail z)) (q.ends (tail ++ z) (plain z p)), make z p);
}

-- ---- reading stopped after what is complete

pub moves_end : (R : List ℕ → List ℕ → Type 0) (s m : List ℕ) (k : ℕ) → Moves R s m → length m ≡ k → Stuck R s k
moves_end R s m k a e = record { leading = a.leading; rest = m; more = []; parts = a.parts; left = e; near = λ z p. near_in s a.leading m z a.parts (inr (plain_fresh z p)); ends = λ z p. a.same z (inr p) }

-- ---- a byte that ends a name

abbrev pub Quiet : ℕ → Type 0
Quiet c = (t : List ℕ) → goes_on Field (c ∷ t) ≡ false

pub fits_quiet : (c : ℕ) (m t : List ℕ) → Quiet c → m ≡ c ∷ drop 1 m → Fits m (c ∷ t)
fits_quiet c m t quiet e = subst (λ (q : List ℕ). Fits q (c ∷ t)) (sym e) (inl (refl, λ h. quiet t))
