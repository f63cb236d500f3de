use Rattle.std.proofs.Common.{lit<, rules, tests, subst, sym, Option, ℕ, IfSome, ◌≤◌, length}
use Rattle.std.proofs.lemmas.Iterator.Search.{position_from_yields_List}
use Rattle.std.proofs.lemmas.Iterator.Splits.{YieldsList-from_str_split}
use Rattle.sp_base.specs.Paths.{is_long}
use Rattle.sp_base.proofs.PathFaults.{place_within}
use Rattle.sp_base.proofs.segments.first_long.Goals as goal

pub returns-clause-first : goal.returns-clause-first
returns-clause-first c = position_from_yields_List is_long _ _ _ c.position.ensures.ran
    (YieldsList-from_str_split 47 c.args.text.now (lit< tt) c.split.ensures.text c.split.ensures.has_more c.split.ensures.pattern) (λ x b q k. search (rules, tests))

pub returns-clause-within : goal.returns-clause-within
returns-clause-within c =
    subst (λ (o : Option ℕ). IfSome o (λ place. place ≤ length c.args.text.now)) (sym (returns-clause-first c)) (place_within c.args.text.now)
