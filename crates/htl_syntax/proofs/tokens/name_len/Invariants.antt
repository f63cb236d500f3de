use Rattle.std.proofs.Common.{◌≡◌, ◌+◌, length, drop}
use denote.Text.{Utf8}
use denote.Shadow.{shadow}
use Rattle.htl_syntax.specs.Tokens.{name_len}
use Rattle.htl_syntax.proofs.tokens.name_len.Given as goal

abbrev pub invariant-loop-rest : goal.invariant-loop-rest
invariant-loop-rest l = shadow (Utf8 l.rest) × (l.len + name_len l.kind l.rest ≡ name_len l.kind l.text) × (l.len + length l.rest ≡ length l.text) × (l.rest ≡ drop l.len l.text)

abbrev pub decreases-loop-rest : goal.decreases-loop-rest
decreases-loop-rest l = length l.rest
