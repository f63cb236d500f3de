-- Turns of the loop over members, and the depth of groups.
use Rattle.std.proofs.Common.{◌≡◌, ◌≢◌, ◌<◌, ℕ, zero, suc, ◌-◌, ◌+◌, false, List, [], ◌∷◌, ◌++◌, length, Ok, Err, refl, sym, ◌∙◌, arith, sub-one}
use Rattle.any_config.specs.declared.node.AnyNode.{AnyNode}
use Rattle.any_config.specs.declared.stop.AnyStop.{AnyStop}
use Rattle.any_config.specs.declared.stop.AnyStop.TheVariants.{NoMemory, BadName, BadQuote, TooDeep, Unclosed}
use Rattle.any_config.specs.Tokens.{TokenOutcome, TokenFails, comments_skipped}
use Rattle.any_config.specs.Read.{Members, ends_members, member, more_members, braced_group, group}

pub group_zero : (depth : ℕ) (t : List ℕ) → depth ≡ 0 → group depth t ≡ Err (TooDeep (length t))
unfolding group
group_zero depth t e = rw e refl

pub group_less : (depth : ℕ) (t : List ℕ) → depth ≢ 0 → group depth t ≡ braced_group (group (depth - 1)) t
unfolding group
group_less zero t h = absurd (h refl)
group_less (suc d) t h = rw sub-one refl

pub more_step : (inner : List ℕ → TokenOutcome AnyNode) (n i : ℕ) (found : Members) (t : List ℕ) (m : List ℕ × AnyNode) (after : List ℕ) → i < n → ends_members t ≡ false → member inner t ≡ Ok (m, after)
    → more_members inner (n - (i + 1)) (found ++ m ∷ []) (comments_skipped after) ≡ more_members inner (n - i) found t
unfolding more_members
more_step inner n i found t m after lt on e =
    let k : n - i ≡ suc (n - (i + 1)) = omega arith in
    rw (k, on, e) refl

more_err : (inner : List ℕ → TokenOutcome AnyNode) (n i : ℕ) (found : Members) (t : List ℕ) (e : AnyStop) → i < n → ends_members t ≡ false → member inner t ≡ Err e → more_members inner (n - i) found t ≡ Err e
unfolding more_members
more_err inner n i found t e lt on f =
    let k : n - i ≡ suc (n - (i + 1)) = omega arith in
    rw (k, on, f) refl

pub more_fails : (inner : List ℕ → TokenOutcome AnyNode) (n i : ℕ) (found : Members) (t : List ℕ) (e : AnyStop) (whole : TokenOutcome Members) → i < n → ends_members t ≡ false → more_members inner (n - i) found t ≡ whole → TokenFails e (member inner t) → TokenFails e whole
more_fails inner n i found t NoMemory whole lt on same f = tt
more_fails inner n i found t (BadName k) whole lt on same f = sym same ∙ more_err inner n i found t (BadName k) lt on f
more_fails inner n i found t (BadQuote k) whole lt on same f = sym same ∙ more_err inner n i found t (BadQuote k) lt on f
more_fails inner n i found t (TooDeep k) whole lt on same f = sym same ∙ more_err inner n i found t (TooDeep k) lt on f
more_fails inner n i found t (Unclosed k) whole lt on same f = sym same ∙ more_err inner n i found t (Unclosed k) lt on f
