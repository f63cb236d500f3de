use Rattle.std.proofs.Common.{◌≡◌, ◌++◌, ◌∷◌, length}
use Rattle.std.specs.Prelude.{flat_map}
use Rattle.sp_base.specs.Bytes.{AreBytes}
use Rattle.replay_text.specs.Transcript.{quoted_byte}
use Rattle.replay_text.proofs.quoted.unquoted.Given as goal

abbrev pub invariant-loop-b : goal.invariant-loop-b
invariant-loop-b l = AreBytes l.bytes.items × (l.text ≡ 34 ∷ (flat_map quoted_byte l.bytes.items ++ l.rest))

abbrev pub decreases-loop-b : goal.decreases-loop-b
decreases-loop-b l = length l.rest
