-- What is answered instead of a text, in the words of the greatest depth.
use Rattle.std.proofs.Common.{◌≡◌, ◌<◌, ◌≤◌, ◌||◌, ℕ, zero, suc, List, length, Some, None, Bool, true, false, if◌then◌else◌, refl, sym, ap, subst, ⊎_elim, arith}
use Rattle.std.specs.Prelude.{nat_le, ◌↔◌}
use Rattle.std.proofs.lemmas.Bool.{leb-true, leb-false, le-leb, lt-leb, cases_lt}
use Rattle.resource_tree.specs.Seen.{Resource, Seen}
use Rattle.get_servlet.specs.declared.answer.JsonAnswer.TheVariants.{Whole, Over, TooLong}
use Rattle.get_servlet.specs.Rendering.{json_text, shown_count, greatest_fitting}
use Rattle.get_servlet.specs.Answers.{text_within, json_answer, IsOver}
use Rattle.get_servlet.specs.Steps.{depth_instead}
use Rattle.get_servlet.proofs.CountLemmas.{shown-grows, greatest_from_over, all_fit}

-- ---- the greatest depth that fits

record IsGreatest (count : ℕ → ℕ) (depth most : ℕ) : Type 0 where
  pub least : 1 ≤ most
  pub within : (n : ℕ) → 1 ≤ n → depth ≤ n → most ≤ n
  pub fits : 1 < most → count most ≤ 1000
  pub deeper : (k : ℕ) → most < k → k ≤ depth → 1000 < count k

step : (count : ℕ → ℕ) (depth most : ℕ) (test : Bool) → nat_le (count (suc depth)) 1000 ≡ test → IsGreatest count depth most → IsGreatest count (suc depth) (if test then suc depth else most)
step count depth most true is g = record {
  least = omega arith;
  within = λ n some le. omega (arith, le);
  fits = λ _. leb-true (count (suc depth)) 1000 is;
  deeper = λ k lt le. absurd (omega (arith, lt, le));
}
step count depth most false is g = record {
  least = g.least;
  within = λ n some le. g.within n some (omega (arith, le));
  fits = g.fits;
  deeper = λ k lt le. ⊎_elim (λ below. g.deeper k lt (omega (arith, below)))
      (λ ge. let same : k ≡ suc depth = omega (arith, ge, le) in subst (λ n. 1000 < count n) (sym same) (leb-false (count (suc depth)) 1000 is))
      (cases_lt k (suc depth));
}

is_greatest : (count : ℕ → ℕ) (depth : ℕ) → IsGreatest count depth (greatest_fitting count depth)
unfolding greatest_fitting
is_greatest count zero = record {
  least = omega arith;
  within = λ n some le. some;
  fits = λ lt. absurd (omega (arith, lt));
  deeper = λ k lt le. absurd (omega (arith, lt, le));
}
is_greatest count (suc depth) = step count depth (greatest_fitting count depth) (nat_le (count (suc depth)) 1000) refl (is_greatest count depth)

pub greatest_is_over : (seen : Seen) (res : Resource) (depth : ℕ) → 1 < depth → 1000 < shown_count seen res depth → IsOver seen res depth (greatest_fitting (shown_count seen res) depth)
greatest_is_over seen res depth deep large =
    let most = greatest_fitting (shown_count seen res) depth in
    let g = is_greatest (shown_count seen res) depth in record {
      deep = deep;
      large = large;
      least = g.least;
      below = ⊎_elim (λ lt. lt) (λ ge. let same : most ≡ depth = omega (arith, ge, g.within depth (omega (arith, deep)) (omega arith)) in
          absurd (omega (arith, subst (λ n. shown_count seen res n ≤ 1000) same (g.fits (omega (arith, same, deep))), large)))
          (cases_lt most depth);
      fits = g.fits;
      deeper = λ k lt. ⊎_elim (λ below. g.deeper k lt (omega (arith, below))) (λ ge. omega (arith, large, shown-grows seen res depth k ge)) (cases_lt k depth);
    }

-- ---- it is answered exactly then

no_text_is_over : (most_bytes most : ℕ) (text : List ℕ) → text_within most_bytes text ≡ Over most → ⊥
no_text_is_over most_bytes most text = by (nat_le (length text) most_bytes)
  where
    by : (short : Bool) → (if short then Whole text else TooLong) ≡ Over most → ⊥
    by true e = absurd (cc)
    by false e = absurd (cc)

same_most : (n most : ℕ) → Over n ≡ Over most → n ≡ most
same_most n most e = cc

over_from : (seen : Seen) (res : Resource) (depth most_bytes most : ℕ) (shallow small : Bool) → nat_le depth 1 ≡ shallow → nat_le (shown_count seen res depth) 1000 ≡ small
    → (if shallow || small then text_within most_bytes (json_text seen depth res) else Over (greatest_fitting (shown_count seen res) depth)) ≡ Over most → IsOver seen res depth most
over_from seen res depth most_bytes most true small s l e = absurd (no_text_is_over most_bytes most (json_text seen depth res) e)
over_from seen res depth most_bytes most false true s l e = absurd (no_text_is_over most_bytes most (json_text seen depth res) e)
over_from seen res depth most_bytes most false false s l e =
    subst (IsOver seen res depth) (same_most (greatest_fitting (shown_count seen res) depth) most e)
    (greatest_is_over seen res depth (leb-false depth 1 s) (leb-false (shown_count seen res depth) 1000 l))

over_to : (seen : Seen) (res : Resource) (depth most_bytes most : ℕ) → IsOver seen res depth most → json_answer seen res depth most_bytes ≡ Over most
over_to seen res depth most_bytes most over =
    rw (lt-leb depth 1 over.deep, lt-leb (shown_count seen res depth) 1000 over.large) (ap Over (sym (greatest_from_over seen res depth most over)))

pub over_exactly : (seen : Seen) (res : Resource) (depth most_bytes most : ℕ) → (json_answer seen res depth most_bytes ≡ Over most) ↔ IsOver seen res depth most
over_exactly seen res depth most_bytes most =
    (over_from seen res depth most_bytes most (nat_le depth 1) (nat_le (shown_count seen res depth) 1000) refl refl, over_to seen res depth most_bytes most)

-- ---- the depth to ask for instead

pub some_instead : (count : ℕ → ℕ) (depth : ℕ) → 1 < depth → greatest_fitting count depth < depth → Some (greatest_fitting count depth) ≡ depth_instead count depth
some_instead count depth deep lt =
    ⊎_elim (λ le. absurd (omega (arith, all_fit count depth (omega (arith, deep)) (omega (arith, le)), lt)))
    (λ large. rw (lt-leb depth 1 deep, lt-leb (count depth) 1000 (omega (arith, large))) refl)
    (cases_lt (count depth) 1001)

pub fits_whole : (count : ℕ → ℕ) (depth : ℕ) → 1 < depth → depth ≤ greatest_fitting count depth → None ≡ depth_instead count depth
fits_whole count depth deep le =
    let most = greatest_fitting count depth in
    let g = is_greatest count depth in
    let same : most ≡ depth = omega (arith, le, g.within depth (omega (arith, deep)) (omega arith)) in
    let small = subst (λ n. count n ≤ 1000) same (g.fits (omega (arith, same, deep))) in
    rw (lt-leb depth 1 deep, le-leb (count depth) 1000 small) refl

over_instead : (seen : Seen) (res : Resource) (depth most : ℕ) (shallow small : Bool) → nat_le depth 1 ≡ shallow → nat_le (shown_count seen res depth) 1000 ≡ small
    → Some most ≡ (if shallow || small then None else Some (greatest_fitting (shown_count seen res) depth)) → IsOver seen res depth most
over_instead seen res depth most true small s l e = absurd (cc)
over_instead seen res depth most false true s l e = absurd (cc)
over_instead seen res depth most false false s l e =
    let same : greatest_fitting (shown_count seen res) depth ≡ most = cc in
    subst (IsOver seen res depth) same (greatest_is_over seen res depth (leb-false depth 1 s) (leb-false (shown_count seen res depth) 1000 l))

pub instead_is_over : (seen : Seen) (res : Resource) (depth most : ℕ) → Some most ≡ depth_instead (shown_count seen res) depth → IsOver seen res depth most
instead_is_over seen res depth most e = over_instead seen res depth most (nat_le depth 1) (nat_le (shown_count seen res depth) 1000) refl refl e
