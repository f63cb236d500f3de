use Rattle.std.proofs.Common.{◌≤◌, length, subst, arith}
use Rattle.std.proofs.lemmas.List.{take_all}
use Rattle.sp_base.proofs.ListLemmas.{no_place}
use Rattle.property_json.specs.PropertyJson.{property_tokens}
use Rattle.get_servlet.specs.Steps.{bytes_in}
use Rattle.get_servlet.proofs.BytesLemmas.{property_more}
use Rattle.get_servlet.proofs.lengths.properties_bytes.Goals as goal
use Rattle.get_servlet.proofs.lengths.properties_bytes.Goals.{in-Some, in_default}

pub loop-place-preserved : goal.loop-place-preserved
loop-place-preserved c = elim c.match-at.branch [
  | in-Some w ↦
      omega (
        arith,
        c.loop-place.invariant,
        w.saturating_add.ensures,
        w.value_bytes.ensures,
        w.saturating_add-bytes.ensures,
        w.bytes-is,
        property_more c.args.props.now c.loop-place.place w.in-Some.name.now w.in-Some.value.now w.in-Some.ensures,
      )
  | in_default w ↦ absurd (no_place c.args.props.now c.loop-place.place w.in_default.ensures (omega arith))
]

pub returns : goal.returns
returns c =
    let ps = c.args.props.now in
    let le : length ps ≤ c.loop-place.place = omega (arith, c.len-place-end.ensures.len, c.loop-place-test.false) in
    subst (λ qs. c.loop-place.bytes ≤ bytes_in (property_tokens qs)) (take_all c.loop-place.place ps le) c.loop-place.invariant
