use Rattle.std.proofs.Common.{◌∙◌, ap, string_bytes, List, ℕ}
use Rattle.sp_base.specs.Paths.{by_path}
use Rattle.sp_base.specs.PathTexts.{text_order, segs_in}
use Rattle.sp_base.proofs.PathOrder.{paths_order}
use Rattle.sp_base.proofs.path.PathOrd.cmp.Goals as goal

pub returns : goal.returns
returns c =
    let a = string_bytes c.self.inside.text in
    let b = string_bytes c.other.inside.text in
    c.text_order.ensures ∙ ap (λ (t : List ℕ). text_order t c.as_bytes-2.result.now) c.as_bytes.ensures.value ∙ ap (text_order a) c.as_bytes-2.ensures.value
    ∙ paths_order a b c.self.invariant.whole c.other.invariant.whole ∙ ap (λ (segs : List (List ℕ)). by_path segs (segs_in b)) c.self.view_is ∙ ap (by_path c.args.self.now) c.other.view_is
