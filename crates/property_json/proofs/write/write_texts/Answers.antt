use Rattle.std.proofs.Common.{List, ℕ, subst, arith}
use Rattle.json.specs.Json.{array}
use Rattle.json.specs.Tree.{json_tokens}
use Rattle.json.specs.Json.{string}
use Rattle.property_json.specs.PropertyJson.{Adds, items_of}
use Rattle.property_json.proofs.ArrayLemmas.{wrote_all}
use Rattle.property_json.proofs.write.write_texts.Goals as goal

pub returns : goal.returns
returns c =
    let items = c.as_slice-text-items.result.now in
    subst (λ (list : List (List ℕ)). Adds c.args.writer.now c.end_array.new.self (json_tokens (array (items_of string list)))) c.as_slice-text-items.ensures
    (wrote_all string c.args.writer.now c.loop-text.writer c.end_array.new.self c.loop-text.text-index items c.loop-text.invariant (omega arith)
    c.in_ok-end_array.ensures.ok c.in_ok-end_array.ensures.room.0)
