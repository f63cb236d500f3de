use Rattle.std.proofs.Common.{IsUtf8, ◌∙◌, subst}
use Rattle.sp_base.proofs.PathBytes.{spelled_bytes}
use Rattle.sp_base.proofs.laws.a_path_has_bytes.Goals as goal

pub returns : goal.returns
returns c = spelled_bytes c.args.path.now (subst IsUtf8 (c.as_bytes-spelling.ensures.value ∙ c.spelling.ensures.spelled) c.as_bytes-spelling.ensures.utf8)
