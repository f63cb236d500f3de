use Rattle.std.proofs.Common.{rules, ◌≡◌, true, ◌∙◌}
use Rattle.post_plan.specs.Plan.{is_numeral}
use Rattle.post_plan.proofs.NumberLemmas.{number_value}
use Rattle.post_plan.proofs.orders.number_of.Goals as goal

pub returns-then-is_numeral : goal.returns-then-is_numeral
returns-then-is_numeral c =
    let spelled : is_numeral c.args.word.now ≡ true = search rules in
    c.ok.ensures.value ∙ number_value c.args.word.now c.parse.result spelled c.parse.ensures.value.0
