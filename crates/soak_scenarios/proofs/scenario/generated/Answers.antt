use Rattle.std.proofs.Common.{◌∙◌, ap, codes}
use Rattle.soak_scenarios.specs.Drafts.{ScenarioDraft, with_text}
use Rattle.soak_scenarios.specs.Soaks.{generated_text, scenario_head, with_drawn_blocks}
use Rattle.soak_scenarios.proofs.scenario.generated.Goals as goal

pub returns : goal.returns
unfolding generated_text
returns c =
    let head = c.in_ok-push_head.ensures ∙ ap (with_text scenario_head) c.new-draft.ensures in
    let blocks = c.in_ok-push_blocks.ensures ∙ ap (with_drawn_blocks 625) head in
    c.into_text.ensures ∙ ap (λ (d : ScenarioDraft). d.text) (c.in_ok-push.ensures ∙ ap (with_text (codes "end\n")) blocks)
