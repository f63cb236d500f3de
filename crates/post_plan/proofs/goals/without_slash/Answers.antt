use Rattle.post_plan.proofs.SlashLemmas.{slash_lacking}
use Rattle.post_plan.proofs.goals.without_slash.Goals as goal

pub returns-in-None : goal.returns-in-None
returns-in-None c = slash_lacking c.args.word.now c.in-None.ensures.cases
