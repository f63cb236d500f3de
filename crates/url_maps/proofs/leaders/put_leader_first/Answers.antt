use Rattle.std.proofs.Common.{◌∙◌, ◌∷◌, ap, subst, arith}
use Rattle.resource_tree.specs.Patches.{patching_at}
use Rattle.url_maps.specs.Noting.{IsFirstOf, others}
use Rattle.url_maps.proofs.LeaderLemmas.{leads_by, leads_few}
use Rattle.url_maps.proofs.leaders.put_leader_first.Goals as goal

pub returns : goal.returns
returns c =
    let at = patching_at c.args.tree.now c.args.patch.now in
    leads_by at c.args.paths _ c.first_of-first.result.now
    (subst (λ ps. IsFirstOf at ps c.first_of-first.result.now) c.as_slice.ensures c.first_of-first.ensures)
    (c.in_ok-led_by.ensures ∙ ap (λ ps. c.first_of-first.result.now ∷ others c.first_of-first.result.now ps) c.as_slice-2.ensures)

pub returns-then-len-lt2 : goal.returns-then-len-lt2
returns-then-len-lt2 c = leads_few (patching_at c.args.tree.now c.args.patch.now) c.args.paths (omega (arith, c.len.ensures, c.if-len-lt2.true))
