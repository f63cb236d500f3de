use Rattle.std.proofs.Common.{◌≤◌, ◌∙◌, length, ap, sym, arith}
use Rattle.std.specs.List.{list_any}
use Rattle.resource_tree.specs.Content.{same_path}
use Rattle.url_maps.proofs.ParentLemmas.{keeps_others, others_alike, settled_more}
use Rattle.url_maps.proofs.parents.changed_parents.Goals as goal

pub loop-place-init : goal.loop-place-init
loop-place-init c k path row below is = absurd (omega (arith, below))

pub loop-place-preserved : goal.loop-place-preserved
loop-place-preserved c =
    settled_more c.args.tree.now c.args.patch.now c.loop-place.place c.in-Some.path.now c.in-Some.row.now c.loop-place.parents c.push_changed.new.parents (sym c.in-Some.ensures) c.loop-place.invariant c.in_ok-push_changed.ensures.within c.in_ok-push_changed.ensures.settled

pub returns : goal.returns
returns c =
    let patch = c.args.patch.now in
    let end : length patch ≤ c.loop-place.place = omega (arith, c.loop-place-test.false, c.len-place-end.ensures.len) in
    others_alike c.args.tree.now patch c.loop-place.parents _ (λ q. c.in_ok-each_once.ensures q ∙ ap (list_any (same_path q)) c.as_slice.ensures)
    (keeps_others c.args.tree.now patch c.loop-place.place c.loop-place.parents end c.loop-place.invariant)
