use Rattle.std.proofs.Common.{sym, subst, ◌+◌, []}
use Rattle.std.proofs.lemmas.List.{take_rest}
use Rattle.replay_text.specs.Lines.{text_of_lines}
use Rattle.replay_text.specs.Scenario.{act_lines}
use Rattle.replay_text.specs.Reading.{Acts, BlockThen, Refuses, SpellsActs}
use Rattle.replay_text.proofs.ActLaws.{no_acts}
use Rattle.replay_text.proofs.BlockLaws.{refuses_after_block, refuses_no_block}
use Rattle.replay_text.proofs.TailLaws.{farm_whole}
use Rattle.replay_text.proofs.reader.read_farm.Goals as goal

pub returns-in-Err-clause-err : goal.returns-in-Err-clause-err
returns-in-Err-clause-err c = refuses_no_block Acts (text_of_lines (act_lines [])) no_acts c.args.text.now c.in-Err.n c.in-Err.ensures.err

pub returns-in-Ok-read_acts-clause-ok : goal.returns-in-Ok-read_acts-clause-ok
returns-in-Ok-read_acts-clause-ok c =
    let acts = c.in-Ok-read_acts.acts in
    farm_whole c.args.text.now c.in_ok-farm.farm acts c.in-Ok.end.0 c.in-Ok.end.1 c.in-Ok.ensures.ok c.in_ok-farm.ensures
    (subst (λ t. SpellsActs t acts) (take_rest c.args.text.now (c.in-Ok.end.0 + 2)) c.in-Ok-read_acts.ensures.ok)

pub returns-in-Err-read_acts-clause-err : goal.returns-in-Err-read_acts-clause-err
returns-in-Err-read_acts-clause-err c =
    let fault = c.in-Err-read_acts.fault in
    subst (Refuses (BlockThen Acts) c.args.text.now) (sym c.later.ensures)
    (refuses_after_block Acts (text_of_lines (act_lines [])) no_acts c.args.text.now c.in-Ok.end.0 c.in-Ok.end.1 fault c.in-Ok.ensures.ok
    (subst (λ t. Refuses Acts t fault) (take_rest c.args.text.now (c.in-Ok.end.0 + 2)) c.in-Err-read_acts.ensures.err))
