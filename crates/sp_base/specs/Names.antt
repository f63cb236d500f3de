-- The order of names by their bytes.
use Rattle.std.specs.Prelude.{ℕ, List}
use Rattle.std.specs.declared.cmp.Ordering.{Ordering}
use Rattle.std.specs.Ordering.{nat_cmp}
use Rattle.std.specs.Cmp.Lexicographic.{slice_cmp}

-- names are ordered by their bytes
abbrev pub by_name : List ℕ → List ℕ → Ordering
by_name = slice_cmp nat_cmp
