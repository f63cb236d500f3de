-- What a read of a socket gave.
use Rattle.std.specs.Prelude.{◌≤◌, ℕ, List, length}
use Rattle.sockets.specs.declared.socket.Heard.{Heard}
use Rattle.sockets.specs.declared.socket.Heard.TheVariants.{Bytes, Gone, Nothing}

-- the bytes that were read stand at the beginning of the room that they were read into, at least one of them
abbrev pub FillsFront : Heard → List ℕ → Type 0
FillsFront (Bytes count) room = (1 ≤ count) × (count ≤ length room)
FillsFront Gone room = Unit {0}
FillsFront Nothing room = Unit {0}

-- no more bytes than these were read
abbrev pub HasAtMost : Heard → ℕ → Type 0
HasAtMost (Bytes count) most = count ≤ most
HasAtMost Gone most = Unit {0}
HasAtMost Nothing most = Unit {0}
