use Rattle.std.proofs.Common.{rules, ◌++◌, ◌∙◌, ap, sym, w64, List, ℤ, subst, arith, pos, true, get_or, ◌≡◌}
use Rattle.std.specs.List.{list_all}
use Rattle.std.proofs.lemmas.List.{get_or_default}
use mir.Val.{to_z, of_z}
use Rattle.json.specs.Json.{array}
use Rattle.json.specs.Tree.{json_tokens}
use Rattle.property_json.specs.PropertyJson.{fits_i64, json_of_long}
use Rattle.property_json.specs.PropertyJson.{Adds, items_of}
use Rattle.property_json.proofs.ArrayLemmas.{all_more, all_taken, wrote_more, wrote_all}
use Rattle.property_json.proofs.write.write_longs.Goals as goal

pub loop-number-preserved : goal.loop-number-preserved
loop-number-preserved c =
    let items = c.as_slice-number-items.result.now in
    let i = c.loop-number.number-index in
    let long = c.write_long.ensures.long in
    let adds = c.in_ok-write_long.ensures.tokens in
    let x = get_or items i (pos 0) in
    let same : to_z w64 (of_z w64 x) ≡ x = search rules in
    let at = get_or_default items i (pos 0) x (omega arith) in
    let tokens = adds.tokens ∙ ap (λ n. c.loop-number.writer.tokens ++ json_tokens (json_of_long n)) same in (
      wrote_more json_of_long c.args.writer.now c.loop-number.writer c.write_long.new.writer i items x c.loop-number.invariant.0 (omega arith) at tokens adds.before,
      all_more fits_i64 items i x c.loop-number.invariant.1 (omega arith) at (ap fits_i64 (sym same) ∙ long),
    )

pub returns : goal.returns
returns c =
    let items = c.as_slice-number-items.result.now in
    let all = all_taken fits_i64 items c.loop-number.number-index c.loop-number.invariant.1 (omega arith) in
    record {
      tokens = subst (λ (list : List (ℤ)). Adds c.args.writer.now c.end_array.new.self (json_tokens (array (items_of json_of_long list)))) c.as_slice-number-items.ensures
          (wrote_all json_of_long c.args.writer.now c.loop-number.writer c.end_array.new.self c.loop-number.number-index items c.loop-number.invariant.0 (omega arith)
          c.in_ok-end_array.ensures.ok c.in_ok-end_array.ensures.room.0);
      longs = subst (λ (list : List (ℤ)). list_all fits_i64 list ≡ true) c.as_slice-number-items.ensures all;
    }
