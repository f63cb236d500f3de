use Rattle.std.proofs.Common.{◌≡◌, ◌++◌, List, map, length}
use Rattle.content_json.specs.declared.part.Placed.{Placed}
use Rattle.content_json.specs.ContentOf.{map_of}
use Rattle.content_json.specs.Parts.{entry_of}
use Rattle.content_json.proofs.from_tokens.planted.Given as goal

-- the last nodes are in the map
abbrev pub invariant-nodes : goal.invariant-nodes
invariant-nodes l = (done : List Placed) × (l.initial.below.items ≡ l.below.items ++ done) × (l.nodes ≡ map_of (map entry_of done))

abbrev pub decreases-nodes : goal.decreases-nodes
decreases-nodes l = length l.below.items
