use Rattle.std.proofs.Common.{sym, ◌∙◌, string_bytes}
use Rattle.sp_base.specs.PathTexts.{segs_in}
use Rattle.sp_base.proofs.PathLemmas.{path_from}
use Rattle.sp_base.proofs.PathText.{segs_lack}
use Rattle.sp_base.proofs.path.made.Goals as goal

pub invariant_of-result : goal.invariant_of-result
invariant_of-result c =
    record { valid = path_from (segs_in (string_bytes c.args.text)) (segs_lack (string_bytes c.args.text)) (sym c.requires.fault ∙ c.in-None.is); whole = c.requires.whole }
