use Rattle.std.proofs.Common.{◌≡◌, ◌≢◌, ◌∷◌, ◌++◌, ◌∙◌, [], false, lit<, ap, subst, take, List, ℕ}
use Rattle.std.proofs.lemmas.Iterator.{YieldsList-from_take}
use Rattle.std.proofs.lemmas.Iterator.Consumers.{YieldsList-at, YieldsList-end}
use Rattle.std.proofs.lemmas.Iterator.Splits.{YieldsList-from_str_split}
use Rattle.sp_base.specs.Paths.{has_slash, mangled_segs, mangled_seg, pieces}
use Rattle.sp_base.specs.PathTexts.{spelling_of}
use Rattle.cover_rules.specs.Walk.{Lacks, Leaves, LeavesNext, left_text}
use Rattle.cover_rules.proofs.WalkLemmas.{along, astray, next_of, lacking_take}
use Rattle.cover_rules.proofs.walk.after.Goals as goal

pub loop-segment-preserved : goal.loop-segment-preserved
loop-segment-preserved c =
    let file = c.as_bytes-in-loop-segment.ensures.value ∙ c.text.ensures in
    along c.args.key.now c.loop-segment.yielded c.in-Some-segment.segment c.loop-segment.rest c.in-Some-after_segment.more c.loop-segment.invariant
    (subst (λ (f : List ℕ). LeavesNext f (47 ∷ mangled_seg c.in-Some-segment.segment.now) c.loop-segment.rest c.in-Some-after_segment.more) file c.in-Some-after_segment.ensures.some)

pub returns-in-None-after_segment-clause-none : goal.returns-in-None-after_segment-clause-none
returns-in-None-after_segment-clause-none c =
    let file = c.as_bytes-in-loop-segment.ensures.value ∙ c.text.ensures in
    let all = YieldsList-at c.into_iter-segment-iterator.ensures.into_iter_gives
    (YieldsList-from_take c.args.n (YieldsList-at c.take-segment-items.ensures.source (YieldsList-from_str_split 47 c.in-Some.segments.now (lit< tt) c.split.ensures.text c.split.ensures.has_more c.split.ensures.pattern)) c.take-segment-items.ensures.count) in
    let next = next_of all c.loop-segment.yielded _ c.loop-segment.yielded_by _ _ c.in-Some-segment.segment c.in-Some-segment.is c.next.ensures.steps in
    let law = c.segments_and_their_spelling.ensures in
    let slashless = lacking_take (pieces c.in-Some.segments.now) c.args.n (law.pieces c.in-Some.segments.now) in
    let none = subst (λ (f : List ℕ). has_slash c.in-Some-segment.segment.now ≡ false → (more : List ℕ) → left_text f c.loop-segment.rest ≢ 47 ∷ mangled_seg c.in-Some-segment.segment.now ++ more) file c.in-None-after_segment.ensures.none in
    subst (λ (segs : List (List ℕ)). Lacks c.args.key.now (spelling_of (mangled_segs segs))) (ap (take c.args.n) c.in-Some.ensures.some)
    (astray c.args.key.now c.loop-segment.yielded c.in-Some-segment.segment c.loop-segment.rest (take c.args.n (pieces c.in-Some.segments.now)) next.0 slashless next.1 c.loop-segment.invariant none)

pub returns-clause-some : goal.returns-clause-some
returns-clause-some c =
    let seen = YieldsList-end
    (YieldsList-at c.into_iter-segment-iterator.ensures.into_iter_gives
    (YieldsList-from_take c.args.n (YieldsList-at c.take-segment-items.ensures.source (YieldsList-from_str_split 47 c.in-Some.segments.now (lit< tt) c.split.ensures.text c.split.ensures.has_more c.split.ensures.pattern)) c.take-segment-items.ensures.count))
    c.loop-segment.yielded _ c.loop-segment.yielded_by _ _ c.in-None.is c.next.ensures.steps in
    subst (λ (segs : List (List ℕ)). Leaves c.args.key.now (spelling_of (mangled_segs segs)) c.loop-segment.rest) (seen.0 ∙ ap (take c.args.n) c.in-Some.ensures.some) c.loop-segment.invariant
