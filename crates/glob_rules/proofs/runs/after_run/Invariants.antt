use Rattle.std.proofs.Common.{◌≡◌, drop}
use denote.Text.{Utf8}
use denote.Shadow.{shadow}
use Rattle.std.specs.Str.{chars}
use Rattle.glob_rules.specs.Runs.{after_run}
use Rattle.glob_rules.proofs.runs.after_run.Given as goal

abbrev pub invariant-loop-piece : goal.invariant-loop-piece
invariant-loop-piece l = shadow (Utf8 l.rest) × (after_run (drop l.piece-index l.run) (chars l.rest) ≡ after_run l.run (chars l.text))
