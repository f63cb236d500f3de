use Rattle.std.proofs.Common.{◌==◌, sym, subst, rules, lit<, List, ℕ, Some}
use Rattle.std.specs.Str.{NoCharPasses}
use Rattle.std.proofs.lemmas.Str.Pattern.{split_parts}
use Rattle.glob_rules.proofs.ReadLemmas.{none_closes, class_chars}
use Rattle.glob_rules.proofs.read.cut_at_close.Goals as goal

pub returns-in-None-clause-first : goal.returns-in-None-clause-first
returns-in-None-clause-first c = none_closes c.args.text.now c.utf8.text c.in-None.ensures.cases

pub returns-in-Some-clause-first : goal.returns-in-Some-clause-first
returns-in-Some-clause-first c =
    let cases = c.in-Some.ensures.cases in
    none_closes c.in-Some.inside.now (search rules) (subst (λ (l : List ℕ). NoCharPasses (λ d. d == 93) l) (sym cases.3) cases.2.0)

pub returns-in-Some-clause-parts : goal.returns-in-Some-clause-parts
returns-in-Some-clause-parts c =
    let parts = split_parts 93 c.args.text.now (Some (c.in-Some.inside, c.in-Some.after)) c.in-Some.ensures.cases (lit< tt) in
    class_chars c.args.text.now c.in-Some.inside.now c.in-Some.after.now (search rules) parts.0
