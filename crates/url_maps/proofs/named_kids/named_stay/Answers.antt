use Rattle.std.proofs.Common.{◌∙◌, ap, sym}
use Rattle.url_maps.specs.Siblings.{aliased_kids}
use Rattle.url_maps.proofs.NamedLemmas.{alike_after, rest_is}
use Rattle.url_maps.proofs.named_kids.named_stay.Goals as goal

pub returns : goal.returns
returns c = λ stay.
    let tree = c.args.tree.now in
    let path = c.args.path.now in
    let n = c.same_first-common.result in
    alike_after tree path n c.args.names.now c.args.others.now c.same_first-common.ensures
    (ap (aliased_kids tree path) (sym (rest_is n c.args.names.now)) ∙ c.in_ok-stay_after.ensures stay ∙ ap (aliased_kids tree path) (rest_is n c.args.others.now))
