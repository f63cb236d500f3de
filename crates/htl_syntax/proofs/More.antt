-- What stands before the place of a fault may go on.
use Rattle.std.proofs.Common.{◌≡◌, ℕ, zero, suc, ◌+◌, ◌-◌, Bool, true, false, cond, ◌&&◌, List, [], ◌∷◌, ◌++◌, take, drop, length, Result, Ok, Err, refl, ap, sym, subst, ◌∙◌, arith, append_assoc}
use Rattle.std.proofs.lemmas.List.{append-nil, length-append, take_at}
use Rattle.std.proofs.lemmas.Bool.{eqb-true}
use Rattle.std.proofs.lemmas.Bool.Decides.{nat_tests}
use Rattle.sp_base.specs.Bytes.{begins_with_byte}
use Rattle.htl_syntax.specs.declared.stop.ExprStop.{ExprStop}
use Rattle.htl_syntax.specs.declared.stop.ExprStop.TheVariants.{NoMemory, Unexpected, TooDeep}
use Rattle.htl_syntax.specs.declared.expression.Expression.{Expression}
use Rattle.htl_syntax.specs.Read.{expression_read}
use Rattle.htl_syntax.specs.Grammar.{WholeWithin}
use Rattle.htl_syntax.specs.Fault.{colon_letter, passes_colon, takes_colon, fault_place, MayGoOn}
use Rattle.htl_syntax.proofs.WholeRead.{read_sound}
use Rattle.htl_syntax.proofs.StuckWhole.{stopped}

module _ (levels : ℕ) where
  pub more_here : (s : List ℕ) (left : ℕ) → expression_read levels s ≡ Err (Unexpected left) → MayGoOn levels s (length s - left)
  more_here s left e = stopped levels s (Unexpected left) left e refl

  pub more_deep : (s : List ℕ) (left : ℕ) → expression_read levels s ≡ Err (TooDeep left) → MayGoOn levels s (length s - left)
  more_deep s left e = stopped levels s (TooDeep left) left e refl

  -- ---- a colon that may belong to a field's name

  -- a text of the grammar that begins with these bytes
  record Begun (leading : List ℕ) : Type 0 where
    more : List ℕ
    tree : Expression
    whole : WholeWithin levels (leading ++ more) tree

  -- with the letter after the colon the text goes on
  with_letter : (p : List ℕ) (m : MayGoOn levels (p ++ colon_letter) (length (p ++ colon_letter) - 0)) → Begun (p ++ 58 ∷ [])
  with_letter p m =
      let t = p ++ colon_letter in
      let all : length t - 0 ≡ length t = omega arith in
      let whole_text : take (length t - 0) t ≡ t = ap (λ (n : ℕ). take n t) all ∙ ap (λ (l : List ℕ). take (length t) l) (sym (append-nil t)) ∙ take_at t [] (length t) refl in
      let shape : take (length t - 0) t ++ m.more ≡ (p ++ 58 ∷ []) ++ (98 ∷ m.more) = ap (λ (l : List ℕ). l ++ m.more) whole_text ∙ append_assoc p colon_letter m.more ∙ sym (append_assoc p (58 ∷ []) (98 ∷ m.more)) in
      record { more = 98 ∷ m.more; tree = m.tree; whole = subst (λ (l : List ℕ). WholeWithin levels l m.tree) shape m.whole }

  -- without it the text goes on
  without_letter : (p : List ℕ) (m : MayGoOn levels (p ++ colon_letter) (length (p ++ colon_letter) - 1)) → Begun (p ++ 58 ∷ [])
  without_letter p m =
      let t = p ++ colon_letter in
      let parts : t ≡ (p ++ 58 ∷ []) ++ 98 ∷ [] = sym (append_assoc p (58 ∷ []) (98 ∷ [])) in
      let len : length t - 1 ≡ length (p ++ 58 ∷ []) = omega (arith, length-append p colon_letter, length-append p (58 ∷ [])) in
      let leading : take (length t - 1) t ≡ p ++ 58 ∷ [] = ap (λ (n : ℕ). take n t) len ∙ ap (λ (l : List ℕ). take (length (p ++ 58 ∷ [])) l) parts ∙ take_at (p ++ 58 ∷ []) (98 ∷ []) (length (p ++ 58 ∷ [])) refl in
      record { more = m.more; tree = m.tree; whole = subst (λ (l : List ℕ). WholeWithin levels (l ++ m.more) m.tree) leading m.whole }

  whole_letter : (p : List ℕ) (e : Expression) → WholeWithin levels (p ++ colon_letter) e → Begun (p ++ 58 ∷ [])
  whole_letter p e w = record { more = 98 ∷ []; tree = e; whole = subst (λ (l : List ℕ). WholeWithin levels l e) (sym (append_assoc p (58 ∷ []) (98 ∷ []))) w }

  -- reading passed the colon
  passed : (p : List ℕ) (r : Result Expression ExprStop) → expression_read levels (p ++ colon_letter) ≡ r → passes_colon r ≡ true → Begun (p ++ 58 ∷ [])
  passed p (Ok e) r-is h = whole_letter p e (read_sound levels (p ++ colon_letter) e r-is)
  passed p (Err NoMemory) r-is h = absurd cc
  passed p (Err (Unexpected zero)) r-is h = with_letter p (more_here (p ++ colon_letter) 0 r-is)
  passed p (Err (Unexpected (suc zero))) r-is h = without_letter p (more_here (p ++ colon_letter) 1 r-is)
  passed p (Err (Unexpected (suc (suc n)))) r-is h = absurd (grind (arith, nat_tests))
  passed p (Err (TooDeep n)) r-is h = absurd cc

  -- the prefix with the colon
  colon_taken : (s : List ℕ) (place : ℕ) → begins_with_byte 58 (drop place s) ≡ true → take (place + 1) s ≡ take place s ++ 58 ∷ []
  unfolding begins_with_byte
  colon_taken [] zero h = absurd cc
  colon_taken [] (suc n) h = absurd cc
  colon_taken (c ∷ s) zero h = ap (λ (d : ℕ). d ∷ []) (eqb-true c 58 h)
  colon_taken (c ∷ s) (suc n) h = (let e : suc n + 1 ≡ suc (n + 1) = omega arith in rw e (ap (λ (l : List ℕ). c ∷ l) (colon_taken s n h)))

  both_true : (a b : Bool) → (a && b) ≡ true → (a ≡ true) × (b ≡ true)
  both_true true b e = (refl, e)
  both_true false b e = absurd cc

  pub more_left : (s : List ℕ) (left : ℕ) → expression_read levels s ≡ Err (Unexpected left) → MayGoOn levels s (fault_place levels s (length s - left))
  more_left s left e = go (begins_with_byte 58 (drop place s) && takes_colon levels (take place s)) refl
    where
      place : ℕ
      place = length s - left

      remainder : Begun (take place s ++ 58 ∷ []) → begins_with_byte 58 (drop place s) ≡ true → MayGoOn levels s (place + 1)
      remainder b at = record { more = b.more; tree = b.tree; whole = subst (λ (l : List ℕ). WholeWithin levels (l ++ b.more) b.tree) (sym (colon_taken s place at)) b.whole }

      go : (b : Bool) → (begins_with_byte 58 (drop place s) && takes_colon levels (take place s)) ≡ b → MayGoOn levels s (cond b (place + 1) place)
      go false h = more_here s left e
      go true h =
          let both = both_true (begins_with_byte 58 (drop place s)) (takes_colon levels (take place s)) h in
          remainder (passed (take place s) (expression_read levels (take place s ++ colon_letter)) refl both.1) both.0
