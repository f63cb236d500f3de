-- The variables of a place, one over another.
use Rattle.std.proofs.Common.{◌≡◌, ◌≤◌, ◌-◌, ℕ, false, List, [], ◌∷◌, Bor, length, take, drop, get_or, nat_eq, refl, sym, ap, ◌∙◌, arith}
use Rattle.std.proofs.lemmas.List.{take_all}
use Rattle.std.specs.Cmp.Lexicographic.{pointwise}
use Rattle.std.specs.Map.{lookup}
use Rattle.htl_expr.specs.declared.variables.Variables.{Variables}
use Rattle.htl_expr.specs.declared.variables.Variables.TheVariants as vars
use Rattle.htl_expr.specs.declared.variables.Variables.TheOpen.{Variables-F}
use Rattle.htl_expr.specs.declared.variables.Variables.TheFolds.{fold-roll-Variables}
use Rattle.htl_expr.specs.Variables.{lent_pairs, vars_step, vars_of}

pub none_are : vars_of vars.None ≡ []
none_are = ap vars_of (sym vars.rolls-None) ∙ fold-roll-Variables (List (List ℕ × List ℕ)) vars_step Variables-F.None

pub with_one : (name text : Bor (List ℕ)) (outer : Bor Variables) → vars_of (vars.With name text outer) ≡ (name.now, text.now) ∷ vars_of outer.now
with_one name text outer = ap vars_of (sym (vars.rolls-With name text outer)) ∙ fold-roll-Variables (List (List ℕ × List ℕ)) vars_step (Variables-F.With name text outer)

pub pairs_are : (pairs : Bor (List (Bor (List ℕ) × Bor (List ℕ)))) → vars_of (vars.Pairs pairs) ≡ lent_pairs pairs.now
pairs_are pairs = ap vars_of (sym (vars.rolls-Pairs pairs)) ∙ fold-roll-Variables (List (List ℕ × List ℕ)) vars_step (Variables-F.Pairs pairs)

-- where the first pair has another name, the others have the text
pub not_first : (name : List ℕ) (pairs : List (Bor (List ℕ) × Bor (List ℕ))) (default : Bor (List ℕ) × Bor (List ℕ)) → 1 ≤ length pairs → pointwise nat_eq name (get_or pairs 0 default).0.now ≡ false
    → lookup (pointwise nat_eq name) (lent_pairs (take (length pairs - 1) (drop 1 pairs))) ≡ lookup (pointwise nat_eq name) (lent_pairs pairs)
not_first name [] default some other = absurd (omega (arith, some))
not_first name (pair ∷ pairs) default some other =
    ap (λ (ps : List (Bor (List ℕ) × Bor (List ℕ))). lookup (pointwise nat_eq name) (lent_pairs ps)) (take_all (length (pair ∷ pairs) - 1) pairs (omega arith)) ∙ rw other refl
