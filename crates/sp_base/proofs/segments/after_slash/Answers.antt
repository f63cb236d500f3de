use lib.Utf8.{encode}
use Rattle.sp_base.proofs.PathLemmas.{IfNone-from}
use Rattle.sp_base.proofs.segments.after_slash.Goals as goal

pub returns-clause-none : goal.returns-clause-none
unfolding encode
returns-clause-none c = IfNone-from c.strip_prefix.result _ _ c.strip_prefix.ensures.cases
