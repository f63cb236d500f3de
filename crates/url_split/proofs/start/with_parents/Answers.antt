use Rattle.std.proofs.Common.{sym, ◌∙◌, subst}
use Rattle.url_split.specs.Walk.{HasParents}
use Rattle.url_split.proofs.WalkLemmas.{spelled}
use Rattle.url_split.proofs.start.with_parents.Goals as goal

pub returns-in-Some : goal.returns-in-Some
returns-in-Some c =
    let text = c.args.text.now in
    let path = c.in-Some.path in
    let read = spelled text path (sym c.in-Some.is ∙ c.in_ok-path.ensures) in
    subst (λ t. HasParents t path) (c.a_path_and_its_text.ensures.spelled text path read)
    (λ k other within e. c.the_prefixes_of_a_path.ensures.parent path other k (c.a_path_and_its_text.ensures.valid text path read) within e)
