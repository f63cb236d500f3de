use Rattle.std.proofs.Common.{◌∙◌, sym, ap, string_bytes, List, ℕ, slice_get, subst, ◌≢◌, ◌∷◌}
use Rattle.sp_base.proofs.PathText.{root_segs, segs_after}
use Rattle.sp_base.proofs.path.Path.seg.Goals as goal

pub returns-in-None : goal.returns-in-None
returns-in-None c =
    let none = subst (λ (t : List ℕ). (rest : List ℕ) → t ≢ 47 ∷ rest) c.as_str.ensures.value c.in-None.ensures.none in
    ap (λ (segs : List (List ℕ)). slice_get segs c.args.n) (sym (root_segs (string_bytes c.self.inside.text) c.self.invariant.whole none) ∙ c.self.view_is)

pub returns-in-Some : goal.returns-in-Some
returns-in-Some c =
    let own = segs_after (string_bytes c.self.inside.text) c.in-Some.rest.now (sym c.as_str.ensures.value ∙ c.in-Some.ensures.some) in
    c.piece_at.ensures ∙ ap (λ (segs : List (List ℕ)). slice_get segs c.args.n) (sym own ∙ c.self.view_is)
