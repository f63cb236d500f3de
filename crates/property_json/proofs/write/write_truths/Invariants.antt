use Rattle.json.specs.Json.{boolean}
use Rattle.property_json.proofs.ArrayLemmas.{Wrote}
use Rattle.property_json.proofs.write.write_truths.Given as goal

abbrev pub invariant-loop-truth : goal.invariant-loop-truth
invariant-loop-truth l = Wrote boolean l.fn.writer l.writer l.truth-index l.truth-items
