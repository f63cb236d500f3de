use Rattle.std.proofs.Common.{◌∙◌, Option, Some, None, IfSome, sym, ap}
use Rattle.sp_base.specs.PathTexts.{spelling_of}
use Rattle.sp_base.proofs.OptionLemmas.{IfNone-map}
use Rattle.sp_base.proofs.PathText.{segs_after, root_segs}
use Rattle.sp_base.proofs.path.Path.relative.Goals as goal

IfSome-map : {A : Type 0} (o : Option A) (P Q : A → Type 0) → ((x : A) → P x → Q x) → IfSome o P → IfSome o Q
IfSome-map None P Q f h = tt
IfSome-map (Some x) P Q f h = f x h

pub returns-clause-some : goal.returns-clause-some
returns-clause-some c =
    IfSome-map c.after_slash.result _ _ (λ rest e. sym (segs_after c.spelling.result.now rest.now e) ∙ c.spelling.ensures.segments) c.after_slash.ensures.some

pub returns-clause-none : goal.returns-clause-none
returns-clause-none c =
    let whole = ap spelling_of c.spelling.ensures.segments ∙ sym c.spelling.ensures.spelled in
    IfNone-map c.after_slash.result _ _ (λ none. sym c.spelling.ensures.segments ∙ root_segs c.spelling.result.now whole none) c.after_slash.ensures.none
