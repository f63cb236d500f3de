use Rattle.std.proofs.Common.{rules, ◌≡◌, false, nat_eq}
use Rattle.std.specs.Cmp.Lexicographic.{pointwise}
use Rattle.tree_draft.proofs.LentLemmas.{not_here}
use Rattle.tree_draft.proofs.kids.place_of.Goals as goal

pub loop-place-preserved : goal.loop-place-preserved
loop-place-preserved c =
    let differs : pointwise nat_eq c.args.sibling.now c.index-others-place.result.now ≡ false = search rules in
    not_here (pointwise nat_eq c.args.sibling.now) c.args.others.now c.loop-place.place c.index-others-place.result c.loop-place-test.true c.index-others-place.is differs c.loop-place.invariant
