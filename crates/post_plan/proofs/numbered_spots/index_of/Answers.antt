use Rattle.std.proofs.Common.{◌≡◌, Some, ap, sym, ◌∙◌}
use Rattle.std.specs.Prelude.{unwrap_or}
use Rattle.post_plan.specs.NumberedSpots.{index_noted}
use Rattle.post_plan.proofs.NumberedSpotLemmas.{noted_key, noted_stays}
use Rattle.post_plan.proofs.numbered_spots.index_of.Goals as goal

pub returns-in-Some-clause-index : goal.returns-in-Some-clause-index
returns-in-Some-clause-index c =
    let found : index_noted c.args.first.now c.args.spot.now ≡ Some c.in-Some.index =
    sym (noted_key c.args.first.now c.args.spot.now c.key_of-key.result c.key_of-key.ensures) ∙ sym c.get.ensures.value ∙ sym c.copied.ensures ∙ c.in-Some.is
    in
    sym (ap (λ o. unwrap_or o c.args.n) found)

pub returns-in-Some-clause-noted : goal.returns-in-Some-clause-noted
returns-in-Some-clause-noted c =
    noted_stays (index_noted c.args.first.now) c.args.spot.now c.args.n c.in-Some.index
    (sym (noted_key c.args.first.now c.args.spot.now c.key_of-key.result c.key_of-key.ensures) ∙ sym c.get.ensures.value ∙ sym c.copied.ensures ∙ c.in-Some.is)

pub new_index-requires : goal.new_index-requires
new_index-requires c =
    sym (noted_key c.args.first.now c.args.spot.now c.key_of-key.result c.key_of-key.ensures) ∙ sym c.get.ensures.value ∙ sym c.copied.ensures ∙ c.in-None.is
