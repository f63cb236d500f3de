-- What a cache has of unfinished flushes and of stamps at most.
use Rattle.std.specs.Prelude.{◌^◌, ℕ}

-- the most unfinished flushes
abbrev pub most_flushes : ℕ
most_flushes = 256

-- the most stamps that are drawn in a session, one for each flight and one for each flush
abbrev pub most_stamps : ℕ
most_stamps = 2 ^ 63
