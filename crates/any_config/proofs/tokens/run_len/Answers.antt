use Rattle.std.proofs.Common.{length}
use Rattle.std.specs.List.{position_or_len}
use Rattle.sp_base.proofs.OptionLemmas.{place_or_end}
use Rattle.any_config.specs.Tokens.{ends, run_len}
use Rattle.any_config.proofs.TokenLemmas.{run_within}
use Rattle.any_config.proofs.tokens.run_len.Goals as goal

pub returns-in-None-clause-value : goal.returns-in-None-clause-value
unfolding run_len
returns-in-None-clause-value c = place_or_end (position_or_len (ends c.args.run) c.args.text.now) (length c.args.text.now) (run_within c.args.run c.args.text.now) _ c.in-None.ensures
