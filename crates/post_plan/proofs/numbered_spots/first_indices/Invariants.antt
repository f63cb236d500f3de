use Rattle.std.proofs.Common.{◌≡◌, map, take}
use Rattle.post_plan.specs.NumberedSpots.{NotesIndices, first_index, index_noted}
use Rattle.post_plan.proofs.numbered_spots.first_indices.Given as goal

-- the indices so far, and what is noted of them
abbrev pub invariant-loop-n : goal.invariant-loop-n
invariant-loop-n l = (l.indices.items ≡ map (λ e. first_index l.entries e.spot) (take l.n l.entries)) × NotesIndices l.entries l.n (index_noted l.first)
