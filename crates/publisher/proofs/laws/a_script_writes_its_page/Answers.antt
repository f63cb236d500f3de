use Rattle.std.proofs.Common.{refl, sym}
use Rattle.publisher.specs.Cases.{by_script}
use Rattle.publisher.specs.Pages.{page_of, setting_for}
use Rattle.publisher.specs.Rendering.{answer_to_request, mark_of, page_answer}
use Rattle.publisher.proofs.ScriptLaw.{body_is}
use Rattle.publisher.proofs.laws.a_script_writes_its_page.Goals as goal

pub returns : goal.returns
returns c tree ask res text blocks good reads spells ok =
    let page = page_of tree (setting_for reads.script res) blocks in
    body_is (answer_to_request tree ask) (mark_of res) page
    (sym (c.an_answer_is_one_of_the_cases.ensures.only tree ask (page_answer (mark_of res) page) good (by_script res text blocks reads spells refl))) ok
