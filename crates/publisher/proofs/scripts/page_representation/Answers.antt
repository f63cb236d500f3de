use Rattle.std.proofs.Common.{◌∙◌, ap, refl, subst}
use Rattle.htl_expr.proofs.VariableLemmas.{none_are}
use Rattle.publisher.specs.Gathering.{IsPassed}
use Rattle.publisher.specs.Pages.{GatheredPage, joined, page_of, setting_for}
use Rattle.publisher.specs.Rendering.{html_kind, mark_of, representation_of}
use Rattle.publisher.proofs.PageAnswers.{over_limits, page_is, within_limits}
use Rattle.publisher.proofs.SeenAloneLemmas.{answer-as}
use Rattle.publisher.proofs.scripts.page_representation.Goals as goal

pub returns-in-Ok-clause-answer : goal.returns-in-Ok-clause-answer
returns-in-Ok-clause-answer c =
    let res = c.args.res.now in
    let page = page_of c.args.content.now (setting_for c.args.script.now res) c.args.blocks.now in
    let is = page_is c.args.content.now res c.args.script.now c.path.result.now c.props.result.now _ c.args.blocks.now _ refl c.path.ensures c.props.ensures none_are in
    answer-as c.representation_of.result _ _
    (ap (λ m. representation_of html_kind m c.into_text.result) c.mark_of.ensures
    ∙ within_limits (mark_of res) c.new-page.result c.write_blocks.new.page page c.into_text.result c.new-page.ensures (c.in-Ok.ensures.page ∙ ap (joined c.new-page.result) is)
    c.into_text.ensures.text c.into_text.ensures.inclusions c.into_text.ensures.rounds c.into_text.ensures.depth)
    c.representation_of.ensures

pub returns-in-Err-Over-clause-answer : goal.returns-in-Err-Over-clause-answer
returns-in-Err-Over-clause-answer c =
    let res = c.args.res.now in
    let page = page_of c.args.content.now (setting_for c.args.script.now res) c.args.blocks.now in
    let is = page_is c.args.content.now res c.args.script.now c.path.result.now c.props.result.now _ c.args.blocks.now _ refl c.path.ensures c.props.ensures none_are in
    answer-as c.error_answer.result _ _
    (over_limits (mark_of res) c.nothing.result c.new-page.result page c.nothing.ensures c.new-page.ensures (subst (λ (p : GatheredPage). IsPassed c.nothing.result (joined c.new-page.result p)) is (c.in-Err-Over.ensures.page (λ same. cc))))
    c.error_answer.ensures
