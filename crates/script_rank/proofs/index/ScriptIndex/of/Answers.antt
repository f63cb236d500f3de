use Rattle.std.proofs.Common.{◌∙◌}
use Rattle.script_rank.proofs.index.ScriptIndex.of.Goals as goal

pub returns : goal.returns
returns c = record { order = c.sort_once.ensures.order; scripts = λ path. c.sort_once.ensures.paths path ∙ c.in_ok-scripts.ensures path }
