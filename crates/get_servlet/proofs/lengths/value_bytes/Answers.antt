use Rattle.std.proofs.Common.{arith}
use Rattle.json.specs.Json.{boolean}
use Rattle.property_json.specs.PropertyJson.{json_of_long}
use Rattle.get_servlet.proofs.BytesLemmas.{string_bytes, long_bytes, truth_bytes, array_no_fewer}
use Rattle.get_servlet.proofs.lengths.value_bytes.Goals as goal

pub returns-in-Text : goal.returns-in-Text
returns-in-Text c = rw (c.in-Text.is, c.text.ensures) (string_bytes c.in-Text.text)

pub returns-in-Long : goal.returns-in-Long
returns-in-Long c = rw c.in-Long.is (long_bytes c.in-Long.field-0)

pub returns-in-Longs : goal.returns-in-Longs
returns-in-Longs c = rw (c.in-Longs.is, c.len.ensures) (array_no_fewer json_of_long long_bytes c.in-Longs.numbers)

pub returns-in-Truths : goal.returns-in-Truths
returns-in-Truths c = rw (c.in-Truths.is, c.len-in-Truths.ensures) (array_no_fewer boolean (λ b. omega (arith, truth_bytes b)) c.in-Truths.truths)
