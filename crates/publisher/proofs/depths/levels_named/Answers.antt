use Rattle.std.proofs.Common.{rules, ◌≡◌, true, refl, ◌∙◌}
use Rattle.publisher.specs.Depths.{is_depth}
use Rattle.publisher.proofs.DepthLemmas.{depth_value}
use Rattle.publisher.proofs.depths.levels_named.Goals as goal

pub returns-then-is_depth : goal.returns-then-is_depth
returns-then-is_depth c =
    let spelled : is_depth c.args.word.now ≡ true = search rules in
    c.ok.ensures.value ∙ depth_value c.args.word.now c.parse.result spelled c.parse.ensures.value.0 ∙ rw spelled refl
