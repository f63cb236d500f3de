use Rattle.std.proofs.Common.{rules, ◌≡◌, ◌≢◌, ◌++◌, ◌∷◌, ◌∙◌, [], get_or, length, sym, ap, arith}
use Rattle.sp_base.specs.Paths.{mangled_seg}
use Rattle.replay_text.proofs.HandleLaws.{segments-more, segments-all, segments-none}
use Rattle.replay_text.proofs.handles.mangled_text.Goals as goal

pub loop-place-preserved : goal.loop-place-preserved
loop-place-preserved c =
    let path = c.args.path.now in
    let place = c.loop-place.place in
    c.in_ok-push_segment.ensures ∙ ap (λ t. t ++ 47 ∷ mangled_seg (get_or path place [])) c.loop-place.invariant
    ∙ sym (segments-more path place (omega (arith, c.loop-place-test.true, c.depth-place-end.ensures.depth)))

pub returns-then-not-is_empty : goal.returns-then-not-is_empty
returns-then-not-is_empty c =
    let some : length c.loop-place.text.items ≢ 0 = search rules in
    segments-all c.args.path.now c.loop-place.place c.loop-place.text.items (omega (arith, c.loop-place-test.false, c.depth-place-end.ensures.depth)) c.loop-place.invariant some

pub returns : goal.returns
returns c =
    let none : length c.loop-place.text.items ≡ 0 = search rules in
    c.in_ok-push.ensures
    ∙ segments-none c.args.path.now c.loop-place.place c.loop-place.text.items (omega (arith, c.loop-place-test.false, c.depth-place-end.ensures.depth)) c.loop-place.invariant none
