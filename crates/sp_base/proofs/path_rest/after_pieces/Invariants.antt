use Rattle.std.proofs.Common.{◌≡◌, ◌≤◌, drop, length}
use denote.Text.{Utf8}
use denote.Shadow.{shadow}
use Rattle.sp_base.specs.Paths.{pieces}
use Rattle.sp_base.proofs.path_rest.after_pieces.Given as goal

abbrev pub invariant-loop-passed : goal.invariant-loop-passed
invariant-loop-passed l = record { text : shadow (Utf8 l.rest); short : length l.rest ≤ length l.text; rest : pieces l.rest ≡ drop l.passed (pieces l.text) }
