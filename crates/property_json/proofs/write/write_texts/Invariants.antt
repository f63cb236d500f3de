use Rattle.json.specs.Json.{string}
use Rattle.property_json.proofs.ArrayLemmas.{Wrote}
use Rattle.property_json.proofs.write.write_texts.Given as goal

abbrev pub invariant-loop-text : goal.invariant-loop-text
invariant-loop-text l = Wrote string l.fn.writer l.writer l.text-index l.text-items
