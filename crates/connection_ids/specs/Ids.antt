-- The numbers of connections.
use Rattle.std.specs.Prelude.{ℕ}

-- the number of a connection
abbrev pub ConnectionId : Type 0
ConnectionId = ℕ
