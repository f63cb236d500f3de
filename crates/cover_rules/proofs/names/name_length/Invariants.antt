use Rattle.std.proofs.Common.{◌≡◌, ◌≤◌, ◌*◌, length, take}
use Rattle.cover_rules.specs.Names.{file_name}
use Rattle.cover_rules.proofs.names.name_length.Given as goal

abbrev pub invariant-loop-b : goal.invariant-loop-b
invariant-loop-b l = (l.length ≡ length (file_name (take l.b-index l.b-items))) × (l.length ≤ 3 * l.b-index)
