use Rattle.std.proofs.Common.{List, Bool, subst, arith}
use Rattle.json.specs.Json.{array}
use Rattle.json.specs.Tree.{json_tokens}
use Rattle.json.specs.Json.{boolean}
use Rattle.property_json.specs.PropertyJson.{Adds, items_of}
use Rattle.property_json.proofs.ArrayLemmas.{wrote_all}
use Rattle.property_json.proofs.write.write_truths.Goals as goal

pub returns : goal.returns
returns c =
    let items = c.as_slice-truth-items.result.now in
    subst (λ (list : List (Bool)). Adds c.args.writer.now c.end_array.new.self (json_tokens (array (items_of boolean list)))) c.as_slice-truth-items.ensures
    (wrote_all boolean c.args.writer.now c.loop-truth.writer c.end_array.new.self c.loop-truth.truth-index items c.loop-truth.invariant (omega arith)
    c.in_ok-end_array.ensures.ok c.in_ok-end_array.ensures.room.0)
