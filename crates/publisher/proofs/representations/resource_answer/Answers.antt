use Rattle.std.proofs.Common.{None, refl, sym, ◌∙◌, ap}
use Rattle.resource_tree.specs.Content.{Content}
use Rattle.publisher.specs.Rendering.{script_there}
use Rattle.publisher.specs.SeenAlone.{seen_answer}
use Rattle.publisher.proofs.SeenAloneLemmas.{answer-as, found-none, found-script, script-whole}
use Rattle.publisher.proofs.representations.resource_answer.Goals as goal

pub returns-in-Some-clause-answer : goal.returns-in-Some-clause-answer
returns-in-Some-clause-answer c =
    let script = found-script c.args.content.now c.args.parts.now c.args.res.now c.args.res.now.props _ c.in-Some.script refl c.requires.script c.in-Some.is in
    answer-as _ _ _ (sym (script-whole c.args.content.now c.args.parts.now c.args.res.now c.requires.seen (script_there c.args.content.now c.in-Some.script) script)) c.answer_by_script.ensures.answer

pub returns-in-None-clause-answer : goal.returns-in-None-clause-answer
returns-in-None-clause-answer c =
    let none = found-none c.args.content.now c.args.parts.now c.args.res.now c.args.res.now.props _ refl c.requires.script c.in-None.is in
    answer-as _ _ _
    (ap (λ (t : Content). seen_answer None t c.args.parts.now) c.tree.ensures ∙ sym (script-whole c.args.content.now c.args.parts.now c.args.res.now c.requires.seen None none)) c.default_answer_there.ensures
