use Rattle.std.proofs.Common.{◌∙◌, ap, string_bytes, List, ℕ}
use Rattle.sp_base.specs.Paths.{is_under}
use Rattle.sp_base.specs.PathTexts.{text_under, segs_in}
use Rattle.sp_base.proofs.PathOrder.{paths_under}
use Rattle.sp_base.proofs.path.Path.is_under.Goals as goal

pub returns : goal.returns
returns c =
    let a = string_bytes c.self.inside.text in
    let b = string_bytes c.other.inside.text in
    c.text_under.ensures ∙ ap (λ (t : List ℕ). text_under t c.as_bytes-2.result.now) c.as_bytes.ensures.value ∙ ap (text_under a) c.as_bytes-2.ensures.value
    ∙ paths_under a b c.self.invariant.whole c.other.invariant.whole ∙ ap (λ (segs : List (List ℕ)). is_under segs (segs_in b)) c.self.view_is ∙ ap (is_under c.args.self.now) c.other.view_is
