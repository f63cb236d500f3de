use Rattle.std.proofs.Common.{length}
use Rattle.std.specs.List.{position_or_len}
use Rattle.sp_base.proofs.OptionLemmas.{place_or_end}
use Rattle.htl_blocks.specs.Markup.{ends_run, run_bytes}
use Rattle.htl_blocks.proofs.Runs.{run_within}
use Rattle.htl_blocks.proofs.byte_run.run_bytes.Goals as goal

pub returns-in-None-clause-value : goal.returns-in-None-clause-value
unfolding run_bytes
returns-in-None-clause-value c = place_or_end (position_or_len (ends_run c.args.run) c.args.text.now) (length c.args.text.now) (run_within c.args.run c.args.text.now) _ c.in-None.ensures
