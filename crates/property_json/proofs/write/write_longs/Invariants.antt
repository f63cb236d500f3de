use Rattle.std.proofs.Common.{◌≡◌, take, true}
use Rattle.std.specs.List.{list_all}
use Rattle.property_json.specs.PropertyJson.{json_of_long, fits_i64}
use Rattle.property_json.proofs.ArrayLemmas.{Wrote}
use Rattle.property_json.proofs.write.write_longs.Given as goal

abbrev pub invariant-loop-number : goal.invariant-loop-number
invariant-loop-number l = Wrote json_of_long l.fn.writer l.writer l.number-index l.number-items × (list_all fits_i64 (take l.number-index l.number-items) ≡ true)
