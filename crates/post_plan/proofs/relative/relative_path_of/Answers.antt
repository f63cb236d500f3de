use Rattle.std.proofs.Common.{◌≡◌, ◌<◌, ◌+◌, ◌∷◌, ◌∙◌, [], List, ℕ, Option, Some, None, length, ap, rules, option_copied, Bor}
use Rattle.sp_base.specs.Paths.{pieces}
use Rattle.post_plan.specs.RelativePaths.{relative_path_step, later_pieces}
use Rattle.post_plan.proofs.RelativeLemmas.{goes_on, ends, stops}
use Rattle.post_plan.proofs.relative.relative_path_of.Goals as goal

pub returns-in_default : goal.returns-in_default
returns-in_default c =
    let step : relative_path_step c.loop-next.relative c.first_piece.result.0.now ≡ None = search rules in
    stops c.loop-next.relative c.loop-next.rest.now c.first_piece.result.0.now _ _ c.first_piece.ensures.pieces step c.loop-next.invariant.1

pub loop-next-preserved : goal.loop-next-preserved
loop-next-preserved c =
    let step : relative_path_step c.loop-next.relative c.first_piece.result.0.now ≡ Some c.in-Some.next = search rules in
    let parts : pieces c.loop-next.rest.now ≡ c.first_piece.result.0.now ∷ pieces c.in-Some-later.text.now =
    c.first_piece.ensures.pieces ∙ ap (λ (o : Option (Bor (List ℕ))). c.first_piece.result.0.now ∷ later_pieces (option_copied o)) c.in-Some-later.is
    in
    let shorter : length c.first_piece.result.0.now + length c.in-Some-later.text.now < length c.loop-next.rest.now = search rules in
    let on = goes_on c.loop-next.relative c.in-Some.next c.loop-next.rest.now c.first_piece.result.0.now c.in-Some-later.text.now c.args.text.now _ parts step c.loop-next.invariant.1 shorter c.loop-next.invariant.2 in
    (search rules, on.0, on.1)

pub returns-in-None : goal.returns-in-None
returns-in-None c =
    let step : relative_path_step c.loop-next.relative c.first_piece.result.0.now ≡ Some c.in-Some.next = search rules in
    let parts : pieces c.loop-next.rest.now ≡ c.first_piece.result.0.now ∷ [] = c.first_piece.ensures.pieces ∙ ap (λ (o : Option (Bor (List ℕ))). c.first_piece.result.0.now ∷ later_pieces (option_copied o)) c.in-None.is in
    ends c.loop-next.relative c.in-Some.next c.loop-next.rest.now c.first_piece.result.0.now _ parts step c.loop-next.invariant.1
