use Rattle.std.proofs.Common.{◌∙◌}
use Rattle.script_rank.proofs.ListedLemmas.{lacks_is}
use Rattle.script_rank.proofs.listed.lacks.Goals as goal

pub returns : goal.returns
returns c = λ up. c.is_err.ensures.value ∙ lacks_is c.args.paths.now c.args.path.now c.binary_search.result up c.binary_search.ensures.bound c.binary_search.ensures.position
