use Rattle.std.proofs.Common.{◌≡◌, take, true}
use Rattle.std.specs.List.{list_all}
use Rattle.property_json.specs.PropertyJson.{Adds, has_longs, property_tokens}
use Rattle.property_json.proofs.write.write_properties.Given as goal

abbrev pub invariant-loop-place : goal.invariant-loop-place
invariant-loop-place l = Adds l.initial.writer l.writer (property_tokens (take l.place l.props)) × (list_all (λ p. has_longs p.1) (take l.place l.props) ≡ true)
