-- What is lent, as the value that it is. Only private functions and proofs cite this.
use Rattle.std.specs.Prelude.{ℕ, List}
use Rattle.std.specs.Borrow.{Bor}

-- a name that is lent, and a port
abbrev pub lent_host : Bor (List ℕ) × ℕ → List ℕ × ℕ
lent_host host = (host.0.now, host.1)
