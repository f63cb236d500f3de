use Rattle.std.proofs.Common.{lit<, None}
use Rattle.std.proofs.lemmas.Str.Pattern.{strip_prefix_char}
use Rattle.dispatch_rules.proofs.CutLemmas.{undotted}
use Rattle.dispatch_rules.proofs.filter.without_dot.Goals as goal

pub returns-in-None : goal.returns-in-None
returns-in-None c = undotted c.requires.0 c.args.text.now c.requires.1 (strip_prefix_char 46 c.args.text.now None c.in-None.ensures.cases (lit< tt))
