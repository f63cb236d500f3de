-- The numbers of what a cache has many of.
use Rattle.std.specs.Prelude.{ℕ}

-- the number of a flight
abbrev pub FlightId : Type 0
FlightId = ℕ

-- the number of a flush
abbrev pub FlushId : Type 0
FlushId = ℕ
