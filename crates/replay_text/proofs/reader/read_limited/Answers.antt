use Rattle.std.proofs.Common.{sym, subst}
use Rattle.std.proofs.lemmas.Result.{IfErr-weaker}
use Rattle.replay_text.specs.Scenario.{IsScenario}
use Rattle.replay_text.specs.Languages.{RefusesWithin}
use Rattle.replay_text.specs.Reading.{Refuses}
use Rattle.replay_text.specs.declared.scenario.ScenarioFault.TheVariants.{Line}
use Rattle.replay_text.proofs.Limits.{refuses_short, refuses_long, refuses_whole}
use Rattle.replay_text.proofs.reader.read_limited.Goals as goal

pub returns-then-text-limit-clause-err : goal.returns-then-text-limit-clause-err
returns-then-text-limit-clause-err c = IfErr-weaker c.read_whole.result (Refuses IsScenario c.args.text.now) (RefusesWithin c.args.limit IsScenario c.args.text.now)
    (λ fault h. refuses_short IsScenario c.args.limit c.args.text.now fault c.if-text-limit.true h) c.read_whole.ensures.err

pub returns-clause-err : goal.returns-clause-err
returns-clause-err c = refuses_long IsScenario c.args.limit c.args.text.now c.in-Err.fault c.if-text-limit.false c.in-Err.ensures.err

pub returns-in_default-clause-err : goal.returns-in_default-clause-err
returns-in_default-clause-err c =
    subst (λ n. RefusesWithin c.args.limit IsScenario c.args.text.now (Line n)) (sym c.count_newlines.ensures)
    (refuses_whole IsScenario c.args.limit c.args.text.now c.if-text-limit.false (c.in_default.field-0, c.in_default.ensures.ok))
