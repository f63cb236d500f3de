use lib.Utf8.{encode}
use Rattle.script_rank.proofs.PlaceLemmas.{no_slash}
use Rattle.script_rank.proofs.script.after_slash.Goals as goal

pub returns-clause-none : goal.returns-clause-none
unfolding encode
returns-clause-none c = no_slash c.strip_prefix.result c.args.text.now _ c.strip_prefix.ensures.cases
