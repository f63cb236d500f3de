use Rattle.std.proofs.Common.{◌≡◌, ◌-◌, [], length}
use denote.Text.{Utf8}
use denote.Shadow.{shadow}
use Rattle.htl_syntax.specs.Read.{accesses}
use Rattle.htl_syntax.proofs.access.accesses.Given as goal

abbrev pub invariant-loop-turn : goal.invariant-loop-turn
invariant-loop-turn l = shadow (Utf8 l.rest) × (accesses l.depth (length l.text - l._turn) l.found l.rest ≡ accesses l.depth (length l.text) [] l.text)
