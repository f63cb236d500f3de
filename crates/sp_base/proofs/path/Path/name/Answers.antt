use Rattle.std.proofs.Common.{◌≡◌, ◌-◌, ◌∙◌, ap, sym, [], length, None}
use Rattle.std.specs.Prelude.{slice_get, unwrap_or}
use Rattle.std.specs.Option.{option_copied}
use Rattle.std.proofs.lemmas.Option.{unwrap_or-slice_get}
use Rattle.sp_base.specs.PathTexts.{segs_in}
use Rattle.sp_base.proofs.path.Path.name.Goals as goal

pub returns-in-None-clause-name : goal.returns-in-None-clause-name
returns-in-None-clause-name c =
    let segs = c.args.self.now in
    let own = ap segs_in c.as_str.ensures.value ∙ c.self.view_is in
    let none : None ≡ slice_get segs (length segs - 1) = sym (ap option_copied c.in-None.is) ∙ c.last_segment.ensures ∙ ap (λ s. slice_get s (length s - 1)) own in
    ap (λ o. unwrap_or o []) none ∙ unwrap_or-slice_get segs (length segs - 1) []
