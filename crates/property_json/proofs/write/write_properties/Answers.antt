use Rattle.std.proofs.Common.{sym, subst, arith}
use Rattle.property_json.proofs.ArrayLemmas.{property_more, all_more, all_taken}
use Rattle.property_json.specs.PropertyJson.{has_longs, Adds, property_tokens}
use Rattle.std.proofs.Common.{take, length, ℕ, List, ◌+◌, ◌≤◌}
use Rattle.std.proofs.lemmas.List.{take_all}
use Rattle.sp_base.specs.declared.value.Value.{Value}
use Rattle.sp_base.proofs.ListLemmas.{no_place}
use Rattle.std.proofs.lemmas.Option.{slice_get_within, get_or_from_slice_get}
use Rattle.property_json.proofs.write.write_properties.Goals as goal
use Rattle.property_json.proofs.write.write_properties.Goals.{in-Some+in_ok-key+in_ok-write_value, in_default}

pub loop-place-preserved : goal.loop-place-preserved
loop-place-preserved c = elim c.match-at.branch [
  | in-Some+in_ok-key+in_ok-write_value w ↦
      let ps = c.args.props.now in
      let i = c.loop-place.place in
      let p : List ℕ × Value = (w.in-Some.name.now, w.in-Some.value.now) in
      let inv = c.loop-place.invariant in (
        subst (λ writer. Adds c.args.writer.now writer (property_tokens (take (i + 1) ps))) (sym w.writer-is)
            (property_more c.args.writer.now c.loop-place.writer w.key.new.self w.write_value.new.writer ps i
            w.in-Some.name.now w.in-Some.value.now inv.0 w.in-Some.ensures w.in_ok-key.ensures.ok w.in_ok-key.ensures.room.0 w.in_ok-write_value.ensures.tokens),
        all_more (λ p. has_longs p.1) ps i p inv.1 (slice_get_within ps i p (sym w.in-Some.ensures)) (sym (get_or_from_slice_get ps i p p (sym w.in-Some.ensures))) w.in_ok-write_value.ensures.longs,
      )
  | in_default w ↦ absurd (no_place c.args.props.now c.loop-place.place w.in_default.ensures (omega arith))
]

pub returns : goal.returns
returns c =
    let ps = c.args.props.now in
    let le : length ps ≤ c.loop-place.place = omega (arith, c.len-place-end.ensures.len, c.loop-place-test.false) in
    record {
      tokens = subst (λ qs. Adds c.args.writer.now c.loop-place.writer (property_tokens qs)) (take_all c.loop-place.place ps le) c.loop-place.invariant.0;
      longs = all_taken (λ p. has_longs p.1) ps c.loop-place.place c.loop-place.invariant.1 le;
      sorted = c.len-place-end.ensures.sorted;
    }
