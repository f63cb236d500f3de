-- The last entry that applies decides.
use Rattle.std.proofs.Common.{◌≡◌, ◌<◌, ◌≤◌, ℕ, Bool, true, false, List, take, length, get_or, ◌-◌, ap, ◌∙◌}
use Rattle.sp_base.proofs.ListLemmas.{take_last}
use Rattle.glob_rules.specs.Rules.{decision}
use Rattle.glob_rules.proofs.RuleLemmas.{last_applies, last_passes}

pub decides_here : {A : Type 0} (applies says : A → Bool) (xs : List A) (n : ℕ) (x : A) → 0 < n → n ≤ length xs → x ≡ get_or xs (n - 1) x → applies x ≡ true → decision applies says (take n xs) ≡ says x
decides_here applies says xs n x lt le e holds = ap (decision applies says) (take_last xs n x lt le e) ∙ last_applies applies says (take (n - 1) xs) x holds

pub passes_here : {A : Type 0} (applies says : A → Bool) (xs : List A) (n : ℕ) (x : A) → 0 < n → n ≤ length xs → x ≡ get_or xs (n - 1) x → applies x ≡ false → decision applies says (take n xs) ≡ decision applies says (take (n - 1) xs)
passes_here applies says xs n x lt le e fails = ap (decision applies says) (take_last xs n x lt le e) ∙ last_passes applies says (take (n - 1) xs) x fails
