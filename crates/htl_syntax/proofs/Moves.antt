-- What was read is read before other texts too: what may stand after it, and how that goes on.
use Rattle.std.proofs.Common.{◌≡◌, ℕ, ◌<◌, Bool, true, false, ◌||◌, ◌&&◌, eqb, List, [], ◌∷◌, ◌++◌, length, refl, ap, sym, subst, ◌∙◌, ◌⊎◌, inl, inr, arith, append_assoc}
use Rattle.sp_base.specs.Bytes.{is_digit}
use Rattle.sp_base.proofs.BoolLemmas.{or_first}
use Rattle.htl_syntax.specs.declared.tokens.NameKind.{NameKind}
use Rattle.htl_syntax.specs.declared.tokens.NameKind.TheVariants.{Name, Field}
use Rattle.htl_syntax.specs.Tokens.{blanks_skipped, begins, goes_on, is_blank, is_letter, is_first, is_word_byte}
use Rattle.htl_syntax.specs.Fault.{SameHead}
use Rattle.htl_syntax.proofs.Local.{begins_same}

-- a text that makes no token before it longer
abbrev pub Plain : List ℕ → Type 0
Plain [] = Unit {0}
Plain (c ∷ z) = (goes_on Field (c ∷ z) ≡ false) × (is_blank c ≡ false) × (eqb c 61 ≡ false)

-- a text that makes no token before it longer, unless that is a name or a number
abbrev pub Fresh : List ℕ → Type 0
Fresh [] = Unit {0}
Fresh (c ∷ z) = (is_letter c ≡ false) × (is_blank c ≡ false) × (eqb c 61 ≡ false)

abbrev pub Settled : List ℕ → Type 0
Settled z = blanks_skipped z ≡ z

-- what may stand in the place of r after blanks
abbrev pub Clear : List ℕ → List ℕ → Type 0
Clear r z = SameHead r z ⊎ Settled z

-- what may stand in the place of r after a token that isn't a name or a number
abbrev pub Near : List ℕ → List ℕ → Type 0
Near r z = SameHead r z ⊎ Fresh z

-- what may stand in the place of r after any token
abbrev pub Fits : List ℕ → List ℕ → Type 0
Fits r z = (SameHead r z × (goes_on Field r ≡ false → goes_on Field z ≡ false)) ⊎ Plain z

pub letter_word : (c : ℕ) → is_word_byte c ≡ false → is_letter c ≡ false
letter_word c e = or_first (is_letter c) (eqb c 95) (or_first (is_first c) (is_digit c) e)

pub digit_word : (c : ℕ) → is_word_byte c ≡ false → is_digit c ≡ false
digit_word c e = go (is_first c) (is_digit c) e
  where
    go : (a b : Bool) → (a || b) ≡ false → b ≡ false
    go true b w = absurd cc
    go false b w = w

pub field_word : (c : ℕ) (z : List ℕ) → goes_on Field (c ∷ z) ≡ false → is_word_byte c ≡ false
unfolding goes_on
field_word c z e = or_first (is_word_byte c) (eqb c 58 && begins is_letter z) e

pub plain_fresh : (z : List ℕ) → Plain z → Fresh z
plain_fresh [] p = tt
plain_fresh (c ∷ z) p = (letter_word c (field_word c z p.0), p.1, p.2)

pub settled_at : (c : ℕ) (z : List ℕ) → is_blank c ≡ false → Settled (c ∷ z)
unfolding blanks_skipped
settled_at c z e = rw e refl

pub fresh_settled : (z : List ℕ) → Fresh z → Settled z
unfolding blanks_skipped
fresh_settled [] p = refl
fresh_settled (c ∷ z) p = settled_at c z p.1

pub plain_settled : (z : List ℕ) → Plain z → Settled z
plain_settled z p = fresh_settled z (plain_fresh z p)

pub near_clear : (r z : List ℕ) → Near r z → Clear r z
near_clear r z (inl h) = inl h
near_clear r z (inr p) = inr (fresh_settled z p)

pub fits_near : (r z : List ℕ) → Fits r z → Near r z
fits_near r z (inl h) = inl h.0
fits_near r z (inr p) = inr (plain_fresh z p)

letter_near : (r z : List ℕ) → Near r z → begins is_letter r ≡ false → begins is_letter z ≡ false
unfolding begins
letter_near r z (inl h) e = begins_same is_letter r z h ∙ e
letter_near r [] (inr p) e = refl
letter_near r (c ∷ z) (inr p) e = p.0

colon_near : (a b : Bool) (r z : List ℕ) → Near r z → (a || (b && begins is_letter r)) ≡ false → (a || (b && begins is_letter z)) ≡ false
colon_near true b r z h e = absurd cc
colon_near false true r z h e = letter_near r z h e
colon_near false false r z h e = refl

-- after a byte the text may go on as it likes, but a letter after a colon
pub field_after : (c : ℕ) (r z : List ℕ) → Near r z → goes_on Field (c ∷ r) ≡ false → goes_on Field (c ∷ z) ≡ false
unfolding goes_on
field_after c r z h e = colon_near (is_word_byte c) (eqb c 58) r z h e

pub near_in : (m leading r z : List ℕ) → m ≡ leading ++ r → Near r z → Near m (leading ++ z)
near_in m [] r z e f = subst (λ (q : List ℕ). Near q z) (sym e) f
near_in m (c ∷ leading) r z e f = inl (subst (λ (q : List ℕ). SameHead q (c ∷ (leading ++ z))) (sym e) refl)

pub clear_in : (m leading r z : List ℕ) → m ≡ leading ++ r → Clear r z → Clear m (leading ++ z)
clear_in m [] r z e f = subst (λ (q : List ℕ). Clear q z) (sym e) f
clear_in m (c ∷ leading) r z e f = inl (subst (λ (q : List ℕ). SameHead q (c ∷ (leading ++ z))) (sym e) refl)

-- after a prefix of what stands there
pub fits_in : (m leading r z : List ℕ) → m ≡ leading ++ r → Fits r z → Fits m (leading ++ z)
fits_in m [] r z e f = subst (λ (q : List ℕ). Fits q z) (sym e) f
fits_in m (c ∷ leading) r z e f =
    subst (λ (q : List ℕ). Fits q (c ∷ (leading ++ z))) (sym e) (inl (refl, field_after c (leading ++ r) (leading ++ z) (near_in (leading ++ r) leading r z refl (fits_near r z f))))

-- the same, where a byte stands before
pub fits_after : (m leading r z : List ℕ) → m ≡ leading ++ r → length r < length m → Near r z → Fits m (leading ++ z)
fits_after m [] r z e lt f = absurd (omega (arith, ap length e))
fits_after m (c ∷ leading) r z e lt f =
    subst (λ (q : List ℕ). Fits q (c ∷ (leading ++ z))) (sym e) (inl (refl, field_after c (leading ++ r) (leading ++ z) (near_in (leading ++ r) leading r z refl f)))

word_plain : (z : List ℕ) → Plain z → begins is_word_byte z ≡ false
unfolding begins
word_plain [] p = refl
word_plain (c ∷ z) p = field_word c z p.0

field_plain : (z : List ℕ) → Plain z → goes_on Field z ≡ false
unfolding goes_on
field_plain [] p = refl
field_plain (c ∷ z) p = p.0

-- a name that ended still ends
pub ends_fit : (kind : NameKind) (r z : List ℕ) → Fits r z → goes_on kind r ≡ false → goes_on kind z ≡ false
unfolding goes_on
ends_fit Name r z (inl h) e = begins_same is_word_byte r z h.0 ∙ e
ends_fit Name r z (inr p) e = word_plain z p
ends_fit Field r z (inl h) e = h.1 e
ends_fit Field r z (inr p) e = field_plain z p

pub plain_ends : (kind : NameKind) (z : List ℕ) → Plain z → goes_on kind z ≡ false
unfolding goes_on
plain_ends Name z p = word_plain z p
plain_ends Field z p = field_plain z p

-- ---- blanks

pub record Blanks (u : List ℕ) : Type 0 where
  pub leading : List ℕ
  pub parts : u ≡ leading ++ blanks_skipped u
  pub over : (z : List ℕ) → Clear (blanks_skipped u) z → blanks_skipped (leading ++ z) ≡ z

head_settled : (c : ℕ) (u z : List ℕ) → is_blank c ≡ false → Clear (c ∷ u) z → Settled z
head_settled c u [] e (inl h) = absurd h
head_settled c u (d ∷ z) e (inl h) = settled_at d z (ap is_blank (sym h) ∙ e)
head_settled c u z e (inr p) = p

nil_settled : (z : List ℕ) → Clear [] z → Settled z
unfolding blanks_skipped
nil_settled [] (inl h) = refl
nil_settled (d ∷ z) (inl h) = absurd h
nil_settled z (inr p) = p

pub blanks : (u : List ℕ) → Blanks u
unfolding blanks_skipped
blanks [] = record { leading = []; parts = refl; over = nil_settled }
blanks (c ∷ u) = go (is_blank c) refl (blanks u)
  where
    go : (b : Bool) → is_blank c ≡ b → Blanks u → Blanks (c ∷ u)
    go true e ih = (let k : blanks_skipped (c ∷ u) ≡ blanks_skipped u = rw e refl in
        record { leading = c ∷ ih.leading; parts = rw k (ap (λ (t : List ℕ). c ∷ t) ih.parts); over = λ z h. (let h' : Clear (blanks_skipped u) z = rw k at h in rw e (ih.over z h')) })
    go false e ih = (let k : blanks_skipped (c ∷ u) ≡ c ∷ u = rw e refl in
        record { leading = []; parts = rw k refl; over = λ z h. (let h' : Clear (c ∷ u) z = rw k at h in head_settled c u z e h') })

-- ---- steps

-- what was read, before any text that may stand after it
pub record Moves (R : List ℕ → List ℕ → Type 0) (s r : List ℕ) : Type 0 where
  pub leading : List ℕ
  pub parts : s ≡ leading ++ r
  pub same : (z : List ℕ) → Fits r z → R (leading ++ z) z

-- the same of what ends in no name or number
pub record Steps (R : List ℕ → List ℕ → Type 0) (s r : List ℕ) : Type 0 where
  pub leading : List ℕ
  pub parts : s ≡ leading ++ r
  pub same : (z : List ℕ) → Near r z → R (leading ++ z) z

-- the same of what ends in blanks, where any token may follow
pub record Jumps (R : List ℕ → List ℕ → Type 0) (s r : List ℕ) : Type 0 where
  pub leading : List ℕ
  pub parts : s ≡ leading ++ r
  pub same : (z : List ℕ) → Clear r z → R (leading ++ z) z

pub steps_of : (R : List ℕ → List ℕ → Type 0) (s r : List ℕ) → Jumps R s r → Steps R s r
steps_of R s r a = record { leading = a.leading; parts = a.parts; same = λ z h. a.same z (near_clear r z h) }

pub moves_of : (R T : List ℕ → List ℕ → Type 0) (s r : List ℕ) → ((s' r' : List ℕ) → R s' r' → T s' r') → Steps R s r → Moves T s r
moves_of R T s r make a = record { leading = a.leading; parts = a.parts; same = λ z h. make (a.leading ++ z) z (a.same z (fits_near r z h)) }

pub moves_map : (R T : List ℕ → List ℕ → Type 0) (s r : List ℕ) → ((s' r' : List ℕ) → R s' r' → T s' r') → Moves R s r → Moves T s r
moves_map R T s r make a = record { leading = a.leading; parts = a.parts; same = λ z h. make (a.leading ++ z) z (a.same z h) }

pub steps_map : (R T : List ℕ → List ℕ → Type 0) (s r : List ℕ) → ((s' r' : List ℕ) → R s' r' → T s' r') → Steps R s r → Steps T s r
steps_map R T s r make a = record { leading = a.leading; parts = a.parts; same = λ z h. make (a.leading ++ z) z (a.same z h) }

-- one after another
abbrev pub Then : (List ℕ → List ℕ → Type 0) → (List ℕ → List ℕ → Type 0) → List ℕ → List ℕ → Type 0
Then R Q s r = (m : List ℕ) × R s m × Q m r

pub moves_then : (R Q : List ℕ → List ℕ → Type 0) (s m r : List ℕ) → Moves R s m → Moves Q m r → Moves (Then R Q) s r
moves_then R Q s m r a b = record {
  leading = a.leading ++ b.leading;
  parts = a.parts ∙ ap (λ (t : List ℕ). a.leading ++ t) b.parts ∙ sym (append_assoc a.leading b.leading r);
  same = λ z h. (b.leading ++ z, subst (λ (q : List ℕ). R q (b.leading ++ z)) (sym (append_assoc a.leading b.leading z)) (a.same (b.leading ++ z) (fits_in m b.leading r z b.parts h)), b.same z h);
}

pub steps_then : (R Q : List ℕ → List ℕ → Type 0) (s m r : List ℕ) → Steps R s m → Moves Q m r → Moves (Then R Q) s r
steps_then R Q s m r a b = moves_then R Q s m r (moves_of R R s m (λ s' r' x. x) a) b

pub steps_steps : (R Q : List ℕ → List ℕ → Type 0) (s m r : List ℕ) → Steps R s m → Steps Q m r → Steps (Then R Q) s r
steps_steps R Q s m r a b = record {
  leading = a.leading ++ b.leading;
  parts = a.parts ∙ ap (λ (t : List ℕ). a.leading ++ t) b.parts ∙ sym (append_assoc a.leading b.leading r);
  same = λ z h. (b.leading ++ z, subst (λ (q : List ℕ). R q (b.leading ++ z)) (sym (append_assoc a.leading b.leading z)) (a.same (b.leading ++ z) (near_in m b.leading r z b.parts h)), b.same z h);
}

pub at_steps : (R : List ℕ → List ℕ → Type 0) (s s' r r' : List ℕ) → s ≡ s' → r ≡ r' → Steps R s' r' → Steps R s r
at_steps R s s' r r' e f a = record { leading = a.leading; parts = e ∙ a.parts ∙ ap (λ (t : List ℕ). a.leading ++ t) (sym f); same = λ z h. a.same z (subst (λ (q : List ℕ). Near q z) f h) }

pub at_jumps : (R : List ℕ → List ℕ → Type 0) (s s' r r' : List ℕ) → s ≡ s' → r ≡ r' → Jumps R s' r' → Jumps R s r
at_jumps R s s' r r' e f a = record { leading = a.leading; parts = e ∙ a.parts ∙ ap (λ (t : List ℕ). a.leading ++ t) (sym f); same = λ z h. a.same z (subst (λ (q : List ℕ). Clear q z) f h) }

-- nothing is read
pub none_moves : (R : List ℕ → List ℕ → Type 0) (s : List ℕ) → ((z : List ℕ) → R z z) → Moves R s s
none_moves R s make = record { leading = []; parts = refl; same = λ z h. make z }
