use Rattle.std.proofs.Common.{sym, subst, ◌+◌, []}
use Rattle.std.proofs.lemmas.List.{take_rest}
use Rattle.replay_text.specs.Lines.{text_of_lines}
use Rattle.replay_text.specs.Scenario.{act_lines}
use Rattle.replay_text.specs.Reading.{IsContentBody, IsTail, Refuses, SpellsTail}
use Rattle.replay_text.proofs.BlockLaws.{refuses_after_block, refuses_no_block}
use Rattle.replay_text.proofs.TailLaws.{some_tail}
use Rattle.replay_text.proofs.BodyLaws.{body_whole}
use Rattle.replay_text.proofs.reader.read_body.Goals as goal

pub returns-in-Err-clause-err : goal.returns-in-Err-clause-err
returns-in-Err-clause-err c = refuses_no_block IsTail (text_of_lines (act_lines [])) some_tail c.args.text.now c.in-Err.n c.in-Err.ensures.err

pub returns-in-Ok-read_tail-clause-ok : goal.returns-in-Ok-read_tail-clause-ok
returns-in-Ok-read_tail-clause-ok c =
    let farm = c.in-Ok-read_tail.farm in
    let acts = c.in-Ok-read_tail.acts in
    body_whole c.args.text.now c.in-Ok.end.0 c.in-Ok.end.1 (record { content = c.in_ok-content.content; farm = farm; acts = acts })
    c.in-Ok.ensures.ok c.in_ok-content.ensures
    (subst (λ t. SpellsTail t farm acts) (take_rest c.args.text.now (c.in-Ok.end.0 + 2)) c.in-Ok-read_tail.ensures.ok)

pub returns-in-Err-read_tail-clause-err : goal.returns-in-Err-read_tail-clause-err
returns-in-Err-read_tail-clause-err c =
    let fault = c.in-Err-read_tail.fault in
    subst (Refuses IsContentBody c.args.text.now) (sym c.later.ensures)
    (refuses_after_block IsTail (text_of_lines (act_lines [])) some_tail c.args.text.now c.in-Ok.end.0 c.in-Ok.end.1 fault c.in-Ok.ensures.ok
    (subst (λ t. Refuses IsTail t fault) (take_rest c.args.text.now (c.in-Ok.end.0 + 2)) c.in-Err-read_tail.ensures.err))
