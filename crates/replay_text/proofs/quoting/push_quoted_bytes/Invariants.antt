use Rattle.std.proofs.Common.{◌≡◌, ◌++◌, length}
use Rattle.std.specs.Prelude.{flat_map}
use Rattle.replay_text.specs.Transcript.{quoted_byte}
use Rattle.replay_text.proofs.quoting.push_quoted_bytes.Given as goal

abbrev pub invariant-loop-rest : goal.invariant-loop-rest
invariant-loop-rest l = l.out.items ++ flat_map quoted_byte l.rest ≡ l.fn.out.items ++ flat_map quoted_byte l.bytes

abbrev pub decreases-loop-rest : goal.decreases-loop-rest
decreases-loop-rest l = length l.rest
