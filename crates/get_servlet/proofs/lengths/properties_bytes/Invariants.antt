use Rattle.std.proofs.Common.{◌≤◌, take}
use Rattle.property_json.specs.PropertyJson.{property_tokens}
use Rattle.get_servlet.specs.Steps.{bytes_in}
use Rattle.get_servlet.proofs.lengths.properties_bytes.Given as goal

abbrev pub invariant-loop-place : goal.invariant-loop-place
invariant-loop-place l = l.bytes ≤ bytes_in (property_tokens (take l.place l.props))
