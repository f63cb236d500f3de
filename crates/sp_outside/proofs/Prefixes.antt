-- In the order of names those with a prefix stand together, and the prefix itself is where they begin.
use Rattle.std.proofs.Common.{◌≡◌, ◌<◌, ◌⊎◌, ⊎_elim, inl, inr, ℕ, true, false, List, [], ◌∷◌, refl, sym, ◌∙◌, ap, subst, arith}
use Rattle.std.specs.Cmp.{ranks}
use Rattle.std.specs.Cmp.Lexicographic.{nat_list_cmp_total}
use Rattle.std.specs.Ordering.{is_le, is_lt, nat_cmp, ordering_reverse, ordering_then, MatchOrdering}
use Rattle.std.specs.declared.cmp.Ordering.{Ordering}
use Rattle.std.specs.declared.cmp.Ordering.TheVariants.{Less, Equal, Greater}
use Rattle.std.proofs.lemmas.Bool.{and_from, eq-eqb, eqb-true, true≢false}
use Rattle.sp_base.specs.Names.{by_name}
use Rattle.sp_base.proofs.BoolLemmas.{and_first, and_second}
use Rattle.sp_base.proofs.NatLemmas.{below_from_cmp}
use Rattle.sp_base.proofs.OrderingLemmas.{less_from_test}
use Rattle.sp_outside.specs.Files.{has_prefix}
use Rattle.sp_outside.proofs.HeldNames.{same_name}

-- what a comparison that goes on tells of its first step
le_step : (o rest : Ordering) → is_le (ordering_then o rest) ≡ true → (o ≡ Less) ⊎ ((o ≡ Equal) × (is_le rest ≡ true))
le_step Less rest e = inl refl
le_step Equal rest e = inr (refl, e)
le_step Greater rest e = absurd (true≢false (sym e))

lt_step : (o rest : Ordering) → is_lt (ordering_then o rest) ≡ true → (o ≡ Less) ⊎ ((o ≡ Equal) × (is_lt rest ≡ true))
lt_step Less rest e = inl refl
lt_step Equal rest e = inr (refl, e)
lt_step Greater rest e = absurd (true≢false (sym e))

then_le : (o rest : Ordering) → is_le o ≡ true → is_le rest ≡ true → is_le (ordering_then o rest) ≡ true
then_le Less rest e more = refl
then_le Equal rest e more = more
then_le Greater rest e more = absurd (true≢false (sym e))

same : (x y : ℕ) → nat_cmp x y ≡ Equal → x ≡ y
same x y e = subst (λ r. MatchOrdering r (x < y) (x ≡ y) (y < x)) e (ranks x y)

le_of_same : (x y : ℕ) (r : Ordering) → MatchOrdering r (x < y) (x ≡ y) (y < x) → x ≡ y → is_le r ≡ true
le_of_same x y Less m e = refl
le_of_same x y Equal m e = refl
le_of_same x y Greater m e = absurd (omega (arith, m, e))

-- a name that begins with a prefix isn't before it
pub prefix_first : (prefix name : List ℕ) → has_prefix prefix name ≡ true → is_le (by_name prefix name) ≡ true
prefix_first [] [] e = refl
prefix_first [] (b ∷ name) e = refl
prefix_first (a ∷ prefix) [] e = absurd (true≢false (sym e))
prefix_first (a ∷ prefix) (b ∷ name) e =
    then_le (nat_cmp a b) (by_name prefix name) (le_of_same a b (nat_cmp a b) (ranks a b) (eqb-true a b (and_first _ _ e))) (prefix_first prefix name (and_second _ _ e))

-- between a prefix and a name that begins with it each name does
pub prefix_between : (prefix x y : List ℕ) → is_le (by_name prefix x) ≡ true → is_lt (by_name x y) ≡ true → has_prefix prefix y ≡ true → has_prefix prefix x ≡ true
prefix_between [] x y le lt e = refl
prefix_between (a ∷ prefix) [] y le lt e = absurd (true≢false (sym le))
prefix_between (a ∷ prefix) (c ∷ x) [] le lt e = absurd (true≢false (sym e))
prefix_between (a ∷ prefix) (c ∷ x) (b ∷ y) le lt e =
    let same_ends : a ≡ b = eqb-true a b (and_first _ _ e) in
    ⊎_elim (λ l. ⊎_elim (λ k. absurd (omega (arith, below_from_cmp a c l, below_from_cmp c b k, same_ends))) (λ k. absurd (omega (arith, below_from_cmp a c l, same c b k.0, same_ends)))
    (lt_step (nat_cmp c b) (by_name x y) lt))
    (λ l. ⊎_elim (λ k. absurd (omega (arith, same a c l.0, below_from_cmp c b k, same_ends)))
    (λ k. and_from _ _ (eq-eqb a c (same a c l.0)) (prefix_between prefix x y l.1 k.1 (and_second _ _ e)))
    (lt_step (nat_cmp c b) (by_name x y) lt))
    (le_step (nat_cmp a c) (by_name prefix x) le)

-- a name that isn't before another, which is after a third one, is after that
pub after_both : (after prefix name : List ℕ) (o : Ordering) → by_name prefix name ≡ o → by_name after prefix ≡ Less → is_le o ≡ true → is_lt (by_name after name) ≡ true
after_both after prefix name Less e before le = ap is_lt (nat_list_cmp_total.trans after prefix name before e)
after_both after prefix name Equal e before le = ap is_lt (ap (by_name after) (sym (same_name prefix name e)) ∙ before)
after_both after prefix name Greater e before le = absurd (true≢false (sym le))

-- and one after a name that isn't before a prefix isn't before the prefix either
pub rest_both : (after prefix name : List ℕ) (o : Ordering) → by_name after prefix ≡ o → is_lt o ≡ false → is_lt (by_name after name) ≡ true → is_le (by_name prefix name) ≡ true
rest_both after prefix name Less e none lt = absurd (true≢false none)
rest_both after prefix name Equal e none lt = ap is_le (ap (λ n. by_name n name) (sym (same_name after prefix e)) ∙ less_from_test _ lt)
rest_both after prefix name Greater e none lt =
    let turned : by_name prefix after ≡ Less = nat_list_cmp_total.antisymm prefix after ∙ ap ordering_reverse e in
    ap is_le (nat_list_cmp_total.trans prefix after name turned (less_from_test _ lt))
