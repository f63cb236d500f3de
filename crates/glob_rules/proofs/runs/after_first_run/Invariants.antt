use Rattle.std.proofs.Common.{◌≡◌, length}
use denote.Text.{Utf8}
use denote.Shadow.{shadow}
use Rattle.std.specs.Str.{chars}
use Rattle.glob_rules.specs.Runs.{after_first_run}
use Rattle.glob_rules.proofs.runs.after_first_run.Given as goal

abbrev pub invariant-loop-after : goal.invariant-loop-after
invariant-loop-after l = shadow (Utf8 l.rest) × (after_first_run l.run (chars l.rest) ≡ after_first_run l.run (chars l.text))

abbrev pub decreases-loop-after : goal.decreases-loop-after
decreases-loop-after l = length l.rest
