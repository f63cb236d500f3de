use Rattle.std.proofs.Common.{sym, subst, arith, ap, length}
use Rattle.replay_text.specs.Scenario.{IsScenario}
use Rattle.replay_text.specs.Reading.{Refuses}
use Rattle.replay_text.proofs.BodyLaws.{refused_at_first, refused_at_second, refuses_in_body}
use Rattle.replay_text.proofs.reader.read_whole.Goals as goal

pub returns-in_default-clause-err : goal.returns-in_default-clause-err
returns-in_default-clause-err c = (refused_at_first c.args.text.now c.in_default.ensures.none, omega arith)

pub returns-in_default-after_line-clause-err : goal.returns-in_default-after_line-clause-err
returns-in_default-after_line-clause-err c =
    let e = c.in-Some.ensures.some in
    (refused_at_second c.args.text.now c.in-Some.first.now e c.in_default-after_line.ensures.none, omega (arith, ap length e))

pub returns-in-Err-clause-err : goal.returns-in-Err-clause-err
returns-in-Err-clause-err c =
    subst (Refuses IsScenario c.args.text.now) (sym c.later.ensures)
    (refuses_in_body c.args.text.now c.in-Some.first.now c.in-Some-after_line.body.now c.in-Err.fault c.in-Some.ensures.some
    c.in-Some-after_line.ensures.some c.in-Err.ensures.err)
