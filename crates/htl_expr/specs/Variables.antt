-- The variables of a setting in a script: names with texts, the inner before the outer.
use Rattle.std.specs.Prelude.{ℕ, List, [], ◌∷◌, map}
use Rattle.std.specs.Borrow.{Bor}
use Rattle.sp_base.specs.Texts.{Pairs}
use Rattle.htl_expr.specs.declared.variables.Variables.{Variables, fold-Variables}
use Rattle.htl_expr.specs.declared.variables.Variables.TheOpen.{Variables-F}
use Rattle.htl_expr.specs.Bindings.{Bindings, with_vars}

-- pairs that lend, as they are seen
abbrev pub lent_pairs : List (Bor (List ℕ) × Bor (List ℕ)) → Pairs
lent_pairs pairs = map (λ pair. (pair.0.now, pair.1.now)) pairs

-- one name and its text, over the outer variables
abbrev pub vars_step : Variables-F Pairs → Pairs
vars_step Variables-F.None = []
vars_step (Variables-F.With name text outer) = (name.now, text.now) ∷ outer.now
vars_step (Variables-F.Pairs pairs) = lent_pairs pairs.now

-- all names with their texts
abbrev pub vars_of : Variables → Pairs
vars_of = fold-Variables Pairs vars_step

-- what is seen of a resource with these variables
abbrev pub seen_by : Bindings → Variables → Bindings
seen_by scope vars = with_vars scope (vars_of vars)
