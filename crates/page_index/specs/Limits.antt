-- How much is noted at most.
use Rattle.std.specs.Prelude.{ℕ}

-- the most notes of pages in a generation, and of stamps: half of 65,536
abbrev pub most_young : ℕ
most_young = 32768

-- the most notes of pages, and of stamps
abbrev pub most_notes : ℕ
most_notes = 65536

-- the most bytes of a body that is kept: 1 MiB
abbrev pub longest_kept : ℕ
longest_kept = 1048576

-- the most bytes of the bodies of a generation: 32 MiB
abbrev pub most_young_bytes : ℕ
most_young_bytes = 33554432

-- the most bytes of all bodies: 64 MiB
abbrev pub most_bytes : ℕ
most_bytes = 67108864

-- after so many hits since a page was noted its body is kept at the next one
abbrev pub hits_before_keeping : ℕ
hits_before_keeping = 2
