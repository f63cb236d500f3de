use Rattle.std.proofs.Common.{length}
use Rattle.std.specs.List.{position_or_len}
use Rattle.sp_base.proofs.OptionLemmas.{place_or_end}
use Rattle.glob_rules.specs.Globs.{is_star}
use Rattle.glob_rules.proofs.RunLemmas.{star_within}
use Rattle.glob_rules.proofs.runs.star_index.Goals as goal

pub returns-in-None-clause-value : goal.returns-in-None-clause-value
returns-in-None-clause-value c = place_or_end (position_or_len is_star c.args.pieces.now) (length c.args.pieces.now) (star_within c.args.pieces.now) _ c.in-None.ensures
