use Rattle.std.proofs.Common.{◌∙◌, ◌++◌, ap, List, ℕ}
use Rattle.sp_base.specs.Paths.{mangled_seg}
use Rattle.sp_base.proofs.OptionLemmas.{IfNone-map}
use Rattle.cover_rules.proofs.WalkLemmas.{not_after}
use Rattle.cover_rules.proofs.walk.strip.Goals as goal

pub returns-in-Some-clause-none : goal.returns-in-Some-clause-none
returns-in-Some-clause-none c =
    let parts = ap (λ (t : List ℕ). t ++ c.as_bytes-in-Some.result.now) c.as_bytes.ensures.value ∙ ap (λ (t : List ℕ). c.mangled_parts.result.0.now ++ t) c.as_bytes-in-Some.ensures.value ∙ c.mangled_parts.ensures in
    IfNone-map c.strip_bytes-in-Some.result _ _
    (λ none more e. not_after c.args.text.now c.as_bytes.result.now c.as_bytes-in-Some.result.now c.in-Some.rest.now more (mangled_seg c.args.segment.now) c.in-Some.ensures.some parts none e) c.strip_bytes-in-Some.ensures.none
