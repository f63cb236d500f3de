use Rattle.std.proofs.Common.{◌<◌, ◌≤◌, length, arith, sym, ◌∙◌, ap}
use Rattle.overlay_merge.specs.Properties.{put_all}
use Rattle.overlay_merge.proofs.PropertyLemmas.{put_step, put_end, drop_all}
use Rattle.overlay_merge.proofs.properties.put_all.Goals as goal

pub loop-place-preserved : goal.loop-place-preserved
loop-place-preserved c =
    let within : c.loop-place.place < length c.args.upper.now = omega (arith, c.loop-place-test.true, c.len-place-end.ensures.len) in
    put_step c.loop-place.props c.put.new.self c.args.upper.now (put_all c.args.props.now c.args.upper.now) c.loop-place.place c.in-Some.name.now c.in-Some.value.now within c.in-Some.ensures c.loop-place.invariant
    c.in_ok-put.ensures

pub returns : goal.returns
returns c =
    let past : length c.args.upper.now ≤ c.loop-place.place = omega (arith, c.loop-place-test.false, c.len-place-end.ensures.len) in
    sym (put_end c.loop-place.props) ∙ ap (put_all c.loop-place.props) (sym (drop_all c.args.upper.now c.loop-place.place past)) ∙ c.loop-place.invariant
