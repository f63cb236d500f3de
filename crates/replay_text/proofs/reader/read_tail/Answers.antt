use Rattle.std.proofs.Common.{sym, subst}
use Rattle.replay_text.specs.Reading.{IsTail, Refuses}
use Rattle.replay_text.proofs.TailLaws.{refuses_acts, refuses_farm, tail_with_farm}
use Rattle.replay_text.proofs.reader.read_tail.Goals as goal

pub returns-in-Err-clause-err : goal.returns-in-Err-clause-err
returns-in-Err-clause-err c = refuses_acts c.args.text.now c.in-Err.fault c.in_default.ensures.none c.in-Err.ensures.err

pub returns-in-Ok-read_farm-clause-ok : goal.returns-in-Ok-read_farm-clause-ok
returns-in-Ok-read_farm-clause-ok c = tail_with_farm c.args.text.now c.in-Some.block.now c.in-Ok-read_farm.farm c.in-Ok-read_farm.acts c.in-Some.ensures.some c.in-Ok-read_farm.ensures.ok

pub returns-in-Err-read_farm-clause-err : goal.returns-in-Err-read_farm-clause-err
returns-in-Err-read_farm-clause-err c =
    subst (Refuses IsTail c.args.text.now) (sym c.later.ensures)
    (refuses_farm c.args.text.now c.in-Some.block.now c.in-Err-read_farm.fault c.in-Some.ensures.some c.in-Err-read_farm.ensures.err)
