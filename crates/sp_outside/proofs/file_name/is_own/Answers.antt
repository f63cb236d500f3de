use Rattle.std.proofs.Common.{codes}
use Rattle.std.proofs.lemmas.Str.Pattern.{ends_text}
use Rattle.sp_outside.proofs.file_name.is_own.Goals as goal

pub returns : goal.returns
returns c = ends_text c.ends_with.result (codes "%t%t") c.args.name.now c.ends_with.ensures.cases
