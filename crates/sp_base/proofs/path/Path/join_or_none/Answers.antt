use Rattle.std.proofs.Common.{◌++◌}
use Rattle.sp_base.proofs.PathParts.{no_path}
use Rattle.sp_base.proofs.path.Path.join_or_none.Goals as goal

pub returns-in_default : goal.returns-in_default
returns-in_default c = no_path (c.args.self.now ++ c.args.rest.now) c.in-Err.fault (c.in-Err.ensures.err c.in_default.not-NoMemory)
