use Rattle.std.proofs.Common.{refl, subst, sym, take}
use Rattle.std.proofs.lemmas.List.{drop_all}
use Rattle.outside_world.specs.Comings.{MayComeAfter}
use Rattle.outside_world.proofs.ComingLemmas.{first_and_others, from_first_and_others}
use Rattle.outside_world.proofs.comings.are_news.Goals as goal

pub loop-place-preserved : goal.loop-place-preserved
loop-place-preserved c =
    let happenings = c.args.happenings.now in
    let item = c.index-happenings-place in (
      λ may. (first_and_others happenings c.loop-place.place item.result c.loop-place-test.true item.is (c.loop-place.invariant.0 may)).1,
      λ others. c.loop-place.invariant.1 (from_first_and_others happenings c.loop-place.place item.result c.loop-place-test.true item.is (c.is_news.ensures.0 c.if-not-is_news.false) others),
    )

pub returns : goal.returns
returns c =
    let none = drop_all c.loop-place.place c.args.happenings.now c.loop-place-test.false in
    (λ _. c.loop-place.invariant.1 (subst (MayComeAfter (take c.loop-place.place c.args.happenings.now)) (sym none) tt), λ _. refl)
