use Rattle.std.proofs.Common.{codes}
use Rattle.std.proofs.lemmas.Result.{on_ok_weaker}
use Rattle.soak_scenarios.specs.Sites.{content_line, farm_lines}
use Rattle.soak_scenarios.specs.Soaks.{scenario_head}
use Rattle.soak_scenarios.proofs.Texts.{five_texts}
use Rattle.soak_scenarios.proofs.site.push_head.Goals as goal

pub returns : goal.returns
unfolding farm_lines scenario_head
returns c =
    on_ok_weaker _ (five_texts (codes "scenario 1\ncontent\n") content_line (codes ".\nfarm\n") farm_lines (codes ".\n") _ _ _ _ _ _
    c.in_ok-push.ensures c.in_ok-push_content.ensures c.in_ok-push-2.ensures c.in_ok-push-3.ensures) c.push-4.ensures
