use Rattle.std.proofs.Common.{refl, sym}
use Rattle.publisher.specs.Cases.{by_script}
use Rattle.publisher.specs.Pages.{page_of, setting_for}
use Rattle.publisher.specs.Rendering.{answer_to_request, mark_of, page_answer}
use Rattle.page_laws.proofs.LimitLemmas.{refused_is}
use Rattle.page_laws.proofs.laws.a_page_is_refused_where_a_limit_is_passed.Goals as goal

pub returns : goal.returns
returns c tree ask res text blocks good reads spells =
    let setting = setting_for reads.script res in
    refused_is tree (mark_of res) setting blocks (answer_to_request tree ask)
    (sym (c.an_answer_is_one_of_the_cases.ensures.only tree ask (page_answer (mark_of res) (page_of tree setting blocks)) good (by_script res text blocks reads spells refl)))
