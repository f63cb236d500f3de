-- What a deeper limit changes: nothing of what is read and of a byte that doesn't fit, and a byte that nests too deep is passed.
use Rattle.std.proofs.Common.{◌≡◌, ◌≢◌, ℕ, zero, suc, ◌+◌, ◌-◌, ◌<◌, ◌≤◌, Bool, true, cond, ◌&&◌, List, [], ◌∷◌, ◌++◌, take, drop, length, Result, Ok, Err, refl, ap, sym, subst, ◌∙◌, inl, inr, arith}
use Rattle.std.proofs.lemmas.Bool.{cases_lt}
use Rattle.std.proofs.lemmas.List.{length-append}
use Rattle.std.proofs.Math.Seq.{drop-nil}
use Rattle.sp_base.specs.Bytes.{begins_with_byte}
use Rattle.htl_syntax.specs.declared.stop.ExprStop.{ExprStop}
use Rattle.htl_syntax.specs.declared.stop.ExprStop.TheVariants.{NoMemory as out_of_memory, Unexpected, TooDeep}
use Rattle.htl_syntax.specs.declared.expression.Expression.{Expression}
use Rattle.htl_syntax.specs.declared.expression.ExprFault.{ExprFault}
use Rattle.htl_syntax.specs.declared.expression.ExprFault.TheVariants as fault
use Rattle.htl_syntax.specs.declared.expression.ExprFault.TheVariants.{NoMemory}
use Rattle.htl_syntax.specs.Tokens.{begins}
use Rattle.htl_syntax.specs.Read.{expression_read}
use Rattle.htl_syntax.specs.Grammar.{nesting_limit, WholeWithin}
use Rattle.htl_syntax.specs.Fault.{nests, SameHead, Agree, HasNone, HasSome, MayGoOn, colon_letter, passes_colon, takes_colon, fault_place, IsExpressionFault}
use Rattle.htl_syntax.proofs.WholeRead.{read_sound}
use Rattle.htl_syntax.proofs.WholeAgain.{read_again}
use Rattle.htl_syntax.proofs.LocalOptions.{failed}
use Rattle.htl_syntax.proofs.StuckWhole.{stopped}
use Rattle.htl_syntax.proofs.More.{more_here}
use Rattle.htl_syntax.proofs.NoneLeft.{none_left, none_deep, nests_deep}
use Rattle.htl_syntax.proofs.Further.{Beyond}
use Rattle.htl_syntax.proofs.FurtherParts.{nothing, read_goes}

-- ---- one level more

deeper_ok : (levels : ℕ) (s : List ℕ) (e : Expression) → expression_read levels s ≡ Ok e → expression_read (suc levels) s ≡ Ok e
deeper_ok levels s e r = let g = (read_goes levels s).further in rw r at g

deeper_unexpected : (levels : ℕ) (s : List ℕ) (left : ℕ) → expression_read levels s ≡ Err (Unexpected left) → expression_read (suc levels) s ≡ Err (Unexpected left)
deeper_unexpected levels s left r = let g = (read_goes levels s).further in rw r at g

deeper_beyond : (levels : ℕ) (s : List ℕ) (left : ℕ) → expression_read levels s ≡ Err (TooDeep left) → Beyond nothing left (expression_read (suc levels) s)
deeper_beyond levels s left r = let g = (read_goes levels s).further in rw r at g

-- ---- as many more as one likes

up : ℕ → ℕ → ℕ
up zero levels = levels
up (suc more) levels = suc (up more levels)

up_is : (more levels : ℕ) → up more levels ≡ more + levels
unfolding up
up_is zero levels = omega arith
up_is (suc more) levels = omega (arith, up_is more levels)

more_ok : (more levels : ℕ) (s : List ℕ) (e : Expression) → expression_read levels s ≡ Ok e → expression_read (up more levels) s ≡ Ok e
unfolding up
more_ok zero levels s e r = r
more_ok (suc more) levels s e r = deeper_ok (up more levels) s e (more_ok more levels s e r)

more_unexpected : (more levels : ℕ) (s : List ℕ) (left : ℕ) → expression_read levels s ≡ Err (Unexpected left) → expression_read (up more levels) s ≡ Err (Unexpected left)
unfolding up
more_unexpected zero levels s left r = r
more_unexpected (suc more) levels s left r = deeper_unexpected (up more levels) s left (more_unexpected more levels s left r)

pub deepens : (levels deeper : ℕ) (s : List ℕ) (e : Expression) → levels ≤ deeper → WholeWithin levels s e → WholeWithin deeper s e
deepens levels deeper s e le w =
    let same : (deeper - levels) + levels ≡ deeper = omega (arith, le) in
    read_sound deeper s e (subst (λ (n : ℕ). expression_read n s ≡ Ok e) (up_is (deeper - levels) levels ∙ same) (more_ok (deeper - levels) levels s e (read_again levels s e w)))

-- ---- texts that agree

pub agree_prefix : (place : ℕ) (leading a b : List ℕ) → place < length leading → Agree place (leading ++ a) (leading ++ b)
agree_prefix place [] a b lt = absurd (omega (arith, lt))
agree_prefix zero (c ∷ leading) a b lt = record { leading = refl; here = refl }
agree_prefix (suc place) (c ∷ leading) a b lt =
    let k = agree_prefix place leading a b (omega (arith, lt)) in
    record { leading = ap (λ (t : List ℕ). c ∷ t) k.leading; here = k.here }

-- with what stands before a later byte
pub agree_take : (place later : ℕ) (s more : List ℕ) → place < later → place < length s → Agree place s (take later s ++ more)
agree_take place later [] more lt some = absurd (omega (arith, some))
agree_take zero zero (c ∷ s) more lt some = absurd (omega (arith, lt))
agree_take zero (suc later) (c ∷ s) more lt some = record { leading = refl; here = refl }
agree_take (suc place) zero (c ∷ s) more lt some = absurd (omega (arith, lt))
agree_take (suc place) (suc later) (c ∷ s) more lt some =
    let k = agree_take place later s more (omega (arith, lt)) (omega (arith, some)) in
    record { leading = ap (λ (t : List ℕ). c ∷ t) k.leading; here = k.here }

same_head : (s : List ℕ) → SameHead s s
same_head [] = tt
same_head (c ∷ s) = refl

pub agree_same : (place : ℕ) (s : List ℕ) → Agree place s s
agree_same place s = record { leading = refl; here = same_head (drop place s) }

-- ---- a byte that nests too deep

deep_within : (levels : ℕ) (s : List ℕ) (left : ℕ) → expression_read levels s ≡ Err (TooDeep left) → left ≤ length s
deep_within levels s left e = let k = failed levels (TooDeep left) s e in omega (arith, ap length k.parts, length-append k.leading k.rest, k.left.0)

-- what is read up to a later byte
later_some : (levels : ℕ) (s : List ℕ) (place later : ℕ) → place < later → place < length s → MayGoOn levels s later → HasSome levels s place
later_some levels s place later lt some m = record { text = take later s ++ m.more; tree = m.tree; agree = agree_take place later s m.more lt some; whole = m.whole }

pub some_deeper : (levels : ℕ) (s : List ℕ) (left : ℕ) → expression_read levels s ≡ Err (TooDeep left) → HasSome (suc levels) s (length s - left)
some_deeper levels s left e = go (expression_read (suc levels) s) refl (deeper_beyond levels s left e)
  where
    within : left ≤ length s
    within = deep_within levels s left e

    go : (o : Result Expression ExprStop) → expression_read (suc levels) s ≡ o → Beyond nothing left o → HasSome (suc levels) s (length s - left)
    go (Ok x) r b = record { text = s; tree = x; agree = agree_same (length s - left) s; whole = read_sound (suc levels) s x r }
    go (Err out_of_memory) r b = absurd ((failed (suc levels) out_of_memory s r).left)
    go (Err (Unexpected k)) r b = later_some (suc levels) s (length s - left) (length s - k) (omega (arith, within, b)) (omega (arith, within, b)) (stopped (suc levels) s (Unexpected k) k r refl)
    go (Err (TooDeep k)) r b = later_some (suc levels) s (length s - left) (length s - k) (omega (arith, within, b)) (omega (arith, within, b)) (stopped (suc levels) s (TooDeep k) k r refl)

-- ---- a byte that doesn't fit

letter_nests : (k : ℕ) → begins nests (drop k colon_letter) ≡ true → ⊥
unfolding begins
letter_nests zero e = absurd cc
letter_nests (suc zero) e = absurd cc
letter_nests (suc (suc k)) e = let nil : drop k [] ≡ [] = drop-nil k in let n = ap (begins nests) (sym nil) ∙ e in absurd cc

drop_prefix : (leading r : List ℕ) (k : ℕ) → drop (length leading + k) (leading ++ r) ≡ drop k r
drop_prefix [] r k = (let e : length {A = ℕ} [] + k ≡ k = omega arith in ap (λ (n : ℕ). drop n r) e)
drop_prefix (c ∷ leading) r k = (let e : length (c ∷ leading) + k ≡ suc (length leading + k) = omega arith in ap (λ (n : ℕ). drop n (c ∷ (leading ++ r))) e ∙ drop_prefix leading r k)

-- where what stands before a colon may go on, nothing nests too deep in it, nor does the colon or a letter
letter_not_deep : (levels : ℕ) (s : List ℕ) (place : ℕ) → MayGoOn levels s place → (k : ℕ) → expression_read levels (take place s ++ colon_letter) ≡ Err (TooDeep k) → ⊥
letter_not_deep levels s place m k r = elim (cases_lt deep (length leading)) [
  | inl lt ↦ (none_deep levels u k r).none (leading ++ m.more) m.tree (agree_prefix deep leading colon_letter m.more lt) m.whole
  | inr le ↦
      let split : deep ≡ length leading + (deep - length leading) = omega (arith, le) in
      letter_nests (deep - length leading) (ap (begins nests) (sym (ap (λ (n : ℕ). drop n u) split ∙ drop_prefix leading colon_letter (deep - length leading))) ∙ nests_deep levels u k r)
]
  where
    leading : List ℕ
    leading = take place s

    u : List ℕ
    u = leading ++ colon_letter

    deep : ℕ
    deep = length u - k

same_takes : (levels : ℕ) (s : List ℕ) (place : ℕ) → MayGoOn levels s place → takes_colon (suc levels) (take place s) ≡ takes_colon levels (take place s)
same_takes levels s place m = go (expression_read levels u) refl
  where
    u : List ℕ
    u = take place s ++ colon_letter

    go : (o : Result Expression ExprStop) → expression_read levels u ≡ o → passes_colon (expression_read (suc levels) u) ≡ passes_colon (expression_read levels u)
    go (Ok e) r = ap passes_colon (deeper_ok levels u e r ∙ sym r)
    go (Err out_of_memory) r = absurd ((failed levels out_of_memory u r).left)
    go (Err (Unexpected k)) r = ap passes_colon (deeper_unexpected levels u k r ∙ sym r)
    go (Err (TooDeep k)) r = absurd (letter_not_deep levels s place m k r)

same_place : (more levels : ℕ) (s : List ℕ) (left : ℕ) → expression_read levels s ≡ Err (Unexpected left) → fault_place (up more levels) s (length s - left) ≡ fault_place levels s (length s - left)
unfolding up
same_place zero levels s left r = refl
same_place (suc more) levels s left r =
    ap (λ (b : Bool). cond (begins_with_byte 58 (drop (length s - left) s) && b) ((length s - left) + 1) (length s - left)) (same_takes (up more levels) s (length s - left) (more_here (up more levels) s left (more_unexpected more levels s left r)))
    ∙ same_place more levels s left r

none_less : (levels deeper : ℕ) (s : List ℕ) (place : ℕ) → levels ≤ deeper → HasNone deeper s place → HasNone levels s place
none_less levels deeper s place le h = record { within = h.within; none = λ t e a w. h.none t e a (deepens levels deeper t e le w) }

-- no expression goes on with it, however many levels may nest
pub none_any : (limit : ℕ) (s : List ℕ) (left : ℕ) → expression_read limit s ≡ Err (Unexpected left) → (levels : ℕ) → HasNone levels s (fault_place limit s (length s - left))
none_any limit s left e levels = elim (cases_lt levels limit) [
  | inl lt ↦ none_less levels limit s _ (omega (arith, lt)) (none_left limit s left e)
  | inr le ↦
      let same : (levels - limit) + limit ≡ levels = omega (arith, le) in
      subst (λ (n : ℕ). HasNone n s (fault_place limit s (length s - left))) (up_is (levels - limit) limit ∙ same)
      (subst (HasNone (up (levels - limit) limit) s) (same_place (levels - limit) limit s left e) (none_left (up (levels - limit) limit) s left (more_unexpected (levels - limit) limit s left e)))
]

-- ---- a text has one fault

not_before : (levels : ℕ) (s : List ℕ) (p q : ℕ) → MayGoOn levels s p → HasNone levels s q → p ≤ length s → q < p → ⊥
not_before levels s p q m none within lt = none.none (take p s ++ m.more) m.tree (agree_take q p s m.more lt (omega (arith, within, lt))) m.whole

one_place : (levels : ℕ) (s : List ℕ) (p q : ℕ) → MayGoOn levels s p → HasNone levels s p → MayGoOn levels s q → HasNone levels s q → p ≡ q
one_place levels s p q m n k o = elim (cases_lt p q) [
  | inl lt ↦ absurd (not_before levels s q p k n o.within lt)
  | inr le ↦
      elim (cases_lt q p) [
        | inl lt ↦ absurd (not_before levels s p q m o n.within lt)
        | inr ge ↦ omega (arith, le, ge)
      ]
]

apart : (s : List ℕ) (p q : ℕ) → p ≡ q → ((levels : ℕ) → HasNone levels s p) → HasSome (suc nesting_limit) s q → ⊥
apart s p q e none some = (none (suc nesting_limit)).none some.text some.tree (subst (λ (n : ℕ). Agree n s some.text) (sym e) some.agree) some.whole

pub one_fault : (s : List ℕ) (f g : ExprFault) → f ≢ NoMemory → g ≢ NoMemory → IsExpressionFault f s → IsExpressionFault g s → f ≡ g
one_fault s NoMemory g a b x y = absurd (a refl)
one_fault s f NoMemory a b x y = absurd (b refl)
one_fault s (fault.Unexpected p) (fault.Unexpected q) a b x y = ap fault.Unexpected (one_place nesting_limit s p q x.0 (x.1 nesting_limit) y.0 (y.1 nesting_limit))
one_fault s (fault.TooDeep p) (fault.TooDeep q) a b x y = ap fault.TooDeep (one_place nesting_limit s p q x.0 x.1.0 y.0 y.1.0)
one_fault s (fault.Unexpected p) (fault.TooDeep q) a b x y = absurd (apart s p q (one_place nesting_limit s p q x.0 (x.1 nesting_limit) y.0 y.1.0) x.1 y.1.1.0)
one_fault s (fault.TooDeep p) (fault.Unexpected q) a b x y = absurd (apart s q p (one_place nesting_limit s q p y.0 (y.1 nesting_limit) x.0 x.1.0) y.1 x.1.1.0)
