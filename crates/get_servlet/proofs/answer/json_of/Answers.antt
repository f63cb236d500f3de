use Rattle.std.proofs.Common.{subst, sym, ◌∙◌}
use Rattle.get_servlet.specs.Answers.{IsOver}
use Rattle.get_servlet.proofs.AnswerLemmas.{instead_is_over}
use Rattle.get_servlet.proofs.answer.json_of.Goals as goal

pub returns-in-Some-clause-meaning : goal.returns-in-Some-clause-meaning
returns-in-Some-clause-meaning g c =
    let seen = g.L.Look.seen c.args.look.now in
    let res = c.args.res.now in
    subst (λ n. IsOver seen res n c.in-Some.instead) c.levels_of-levels.ensures
    (instead_is_over seen res c.levels_of-levels.result c.in-Some.instead (sym c.in-Some.is ∙ c.in_ok-instead.ensures))
