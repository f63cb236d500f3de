use Rattle.std.proofs.Common.{◌-◌, ◌∙◌, ap, length, slice_get, subst}
use Rattle.std.specs.Prelude.{IsTrue}
use Rattle.sp_base.specs.Paths.{is_path}
use Rattle.sp_base.specs.PathTexts.{segs_in}
use Rattle.sp_base.proofs.PathParts.{last_ok}
use Rattle.sp_base.proofs.path.Path.last.Goals as goal

pub returns-clause-segment : goal.returns-clause-segment
returns-clause-segment c =
    let segs = c.args.self.now in
    let own = ap segs_in c.as_str.ensures.value ∙ c.self.view_is in
    let valid = subst (λ s. IsTrue (is_path s)) c.self.view_is c.self.invariant.valid in
    last_ok c.last_segment.result segs (length segs - 1) valid (c.last_segment.ensures ∙ ap (λ s. slice_get s (length s - 1)) own)
