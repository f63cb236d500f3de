use Rattle.std.proofs.Common.{◌∙◌, sym}
use Rattle.std.proofs.lemmas.Bool.{not-true}
use Rattle.url_maps.proofs.NamedLemmas.{alike_before}
use Rattle.url_maps.proofs.named_kids.stay_after.Goals as goal

pub returns : goal.returns
returns c = λ stay.
    alike_before c.args.tree.now c.args.path.now c.same_last-back.result c.args.names.now c.args.others.now c.same_last-back.ensures (sym c.in_ok-has_named.ensures ∙ c.if-branch.false)
    (sym c.in_ok-has_other.ensures ∙ not-true c.in_ok-has_other.has_other stay)
