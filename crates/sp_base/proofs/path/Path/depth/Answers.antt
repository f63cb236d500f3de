use Rattle.std.proofs.Common.{◌==◌, ◌∙◌, ap, length, string_bytes}
use Rattle.std.specs.List.{count_by}
use Rattle.sp_base.proofs.PathText.{length-segs_in}
use Rattle.sp_base.proofs.path.Path.depth.Goals as goal

pub returns-clause-depth : goal.returns-clause-depth
returns-clause-depth c =
    c.slashes.ensures ∙ ap (count_by (λ b. b == 47)) c.as_str.ensures.value ∙ length-segs_in (string_bytes c.self.inside.text) c.self.invariant.whole ∙ ap length c.self.view_is
