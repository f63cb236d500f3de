use Rattle.std.proofs.Common.{◌≡◌, ◌++◌, string_bytes, take, flat_map}
use Rattle.cover_rules.specs.Names.{file_byte}
use Rattle.docroot_format.proofs.names.push_segment.Given as goal

abbrev pub invariant-loop-b : goal.invariant-loop-b
invariant-loop-b l = string_bytes l.name ≡ string_bytes l.fn.name ++ flat_map file_byte (take l.b-index l.b-items)
